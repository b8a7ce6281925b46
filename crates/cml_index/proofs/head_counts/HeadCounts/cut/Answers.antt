use Rattle.std.proofs.Common.{◌≡◌, ◌≢◌, ◌∙◌, ℕ, Bool, true, false, nat_eq, refl, ap, sym, subst, arith}
use Rattle.cml_index.specs.Numbers.{has}
use Rattle.cml_index.specs.HeadCounts.{PlainCounts, has_count, head_count_of, count_in}
use Rattle.cml_index.proofs.Summed.{one_number, apart_number}
use Rattle.cml_index.proofs.head_counts.HeadCounts.cut.Goals as goal

pub set_count-self-inside-requires-clause-within : goal.set_count-self-inside-requires-clause-within
set_count-self-inside-requires-clause-within c =
    let low = c.has.ensures.placed c.if-has.true in
    omega (arith, low, c.self.invariant.long)

pub invariant_of-self : goal.invariant_of-self
invariant_of-self c =
    record {
      long = omega (arith, c.cut.ensures.size, c.set_count-self-inside.ensures.len, c.self.invariant.long);
      none = λ m off. at m (nat_eq m c.args.number) refl off;
      whole = c.set_count-self-inside.ensures.sum;
    }
  where
    at : (m : ℕ) (b : Bool) → nat_eq m c.args.number ≡ b → has c.cut.new.self m ≡ false → count_in c.set_count-self-inside.new.counts.items m ≡ 0
    at m true e off = subst (λ j. count_in c.set_count-self-inside.new.counts.items j ≡ 0) (sym (one_number m c.args.number e)) c.set_count-self-inside.ensures.here
    at m false e off = let apart : m ≢ c.args.number = (λ is. apart_number m c.args.number e (sym is)) in
        c.set_count-self-inside.ensures.beside m apart ∙ c.self.invariant.none m (sym (c.cut.ensures.elsewhere m apart) ∙ off)

pub returns-then-has-clause-elsewhere : goal.returns-then-has-clause-elsewhere
returns-then-has-clause-elsewhere c m apart = c.cut.ensures.elsewhere m apart ∙ ap (λ (v : PlainCounts). has_count v m) c.self.view_is

pub returns-then-has-clause-beside : goal.returns-then-has-clause-beside
returns-then-has-clause-beside c m apart = c.set_count-self-inside.ensures.beside m apart ∙ ap (λ (v : PlainCounts). head_count_of v m) c.self.view_is

pub returns-else-has-clause-here : goal.returns-else-has-clause-here
returns-else-has-clause-here c = sym (ap (λ (v : PlainCounts). has_count v c.args.number) c.self.view_is) ∙ sym c.has.ensures.value ∙ c.if-has.false
