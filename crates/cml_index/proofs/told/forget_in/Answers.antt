use Rattle.std.proofs.Common.{◌≡◌, ℕ, Bool, true, false, nat_eq, cond, None, refl, ap, sym, subst, ◌∙◌, arith}
use Rattle.std.proofs.lemmas.Bool.Decides.{nat_tests}
use Rattle.indexmap.specs.IndexMap.{get}
use Rattle.cml_index.specs.Told.{lit_in}
use Rattle.cml_index.proofs.told.forget_in.Goals as goal

same_number : (a b : ℕ) → nat_eq a b ≡ true → a ≡ b
same_number a b e = grind (arith, nat_tests)

pub returns-clause-told : goal.returns-clause-told
returns-clause-told c t = at t (nat_eq c.args.tick t) refl
  where
    at : (t : ℕ) (b : Bool) → nat_eq c.args.tick t ≡ b → lit_in (get nat_eq c.swap_remove.new.self t) ≡ lit_in (get nat_eq c.args.ticks.now t)
    at t true e = ap lit_in (c.swap_remove.ensures.updates.0 t
        ∙ ap (λ b. cond b None (get nat_eq c.args.ticks.now t)) e)
        ∙ sym (subst (λ j. lit_in (get nat_eq c.args.ticks.now j) ≡ false) (same_number c.args.tick t e) c.requires)
    at t false e = ap lit_in (c.swap_remove.ensures.updates.0 t ∙ ap (λ b. cond b None (get nat_eq c.args.ticks.now t)) e)
