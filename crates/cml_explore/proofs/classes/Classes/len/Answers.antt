use Rattle.std.proofs.Common.{◌≡◌, sym, ap, ◌∙◌, length, arith}
use Rattle.cml_explore.proofs.ClassLemmas.{class_count}
use Rattle.cml_explore.proofs.classes.Classes.len.Goals as goal

pub returns : goal.returns
returns c =
    let many : c.len.result ≡ length c.self.inside.summaries.items = omega (arith, c.self.inside.summaries.ok.0) in
    many ∙ (sym (class_count (λ d. d.items) c.self.inside.details.keys c.self.inside.summaries.items c.self.invariant) ∙ ap length c.self.view_is)
