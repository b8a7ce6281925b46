use Rattle.std.proofs.Common.{◌≡◌, ◌∙◌, ap, arith}
use Rattle.cml_index.specs.HeadCounts.{PlainCounts, has_count}
use Rattle.cml_index.proofs.head_counts.HeadCounts.has.Goals as goal

pub returns-clause-value : goal.returns-clause-value
returns-clause-value c = c.has.ensures.value ∙ ap (λ (v : PlainCounts). has_count v c.args.number) c.self.view_is

pub returns-clause-placed : goal.returns-clause-placed
returns-clause-placed c on =
    let size : c.self.inside.channels.size ≡ c.args.self.now.size = ap (λ (v : PlainCounts). v.size) c.self.view_is in
    let low = c.has.ensures.placed on in
    omega (arith, size, low)
