use Rattle.std.proofs.Common.{◌≡◌, ◌≢◌, ◌∙◌, ap, sym, arith}
use Rattle.cml_index.specs.Numbers.{has}
use Rattle.cml_index.specs.HeadCounts.{PlainCounts, has_count, head_count_of}
use Rattle.cml_index.proofs.Summed.{other_number}
use Rattle.cml_index.proofs.head_counts.HeadCounts.put.Goals as goal

pub set_count-self-inside-requires-clause-within : goal.set_count-self-inside-requires-clause-within
set_count-self-inside-requires-clause-within c =
    let size : c.self.inside.channels.size ≡ c.args.self.now.size = ap (λ (v : PlainCounts). v.size) c.self.view_is in
    omega (arith, size, c.requires, c.self.invariant.long)

pub put-requires : goal.put-requires
put-requires c =
    let size : c.self.inside.channels.size ≡ c.args.self.now.size = ap (λ (v : PlainCounts). v.size) c.self.view_is in
    omega (arith, size, c.requires)

pub invariant_of-self : goal.invariant_of-self
invariant_of-self c =
    let n = c.args.number in
    record {
      long = omega (arith, c.put.ensures.size, c.set_count-self-inside.ensures.len, c.self.invariant.long);
      none = λ m off. let apart : m ≢ n = other_number (has c.put.new.self) n m c.put.ensures.here off in
          c.set_count-self-inside.ensures.beside m apart ∙ c.self.invariant.none m (sym (c.put.ensures.elsewhere m apart) ∙ off);
      whole = c.set_count-self-inside.ensures.sum;
    }

pub returns-clause-elsewhere : goal.returns-clause-elsewhere
returns-clause-elsewhere c m apart = c.put.ensures.elsewhere m apart ∙ ap (λ (v : PlainCounts). has_count v m) c.self.view_is

pub returns-clause-beside : goal.returns-clause-beside
returns-clause-beside c m apart = c.set_count-self-inside.ensures.beside m apart ∙ ap (λ (v : PlainCounts). head_count_of v m) c.self.view_is
