use Rattle.std.proofs.Common.{◌≡◌, ℕ, Bool, true, false, nat_eq, Option, None, refl, ap, cond, sym, subst, ◌∙◌, arith}
use Rattle.std.proofs.lemmas.Bool.Decides.{nat_tests}
use Rattle.indexmap.specs.IndexMap.{get}
use Rattle.cml_index.specs.declared.stand.LaneState.{LaneState}
use Rattle.cml_index.specs.Stands.{IsLike, IsEmpty}
use Rattle.cml_index.proofs.stand.forget_tick.Goals as goal

same_number : (a b : ℕ) → nat_eq a b ≡ true → a ≡ b
same_number a b e = grind (arith, nat_tests)

like : (s : Option LaneState) → IsLike s s
like s = record { places = refl; late = refl; going = refl }

empty : (s : Option LaneState) → IsEmpty s → IsLike None s
empty s e = record { places = sym e.places; late = sym e.late; going = sym e.going }

pub returns : goal.returns
returns c t = at t (nat_eq c.args.tick t) refl
  where
    at : (t : ℕ) (b : Bool) → nat_eq c.args.tick t ≡ b → IsLike (get nat_eq c.swap_remove.new.self t) (get nat_eq c.args.ticks.now t)
    at t true e =
        let gone : get nat_eq c.swap_remove.new.self t ≡ None = c.swap_remove.ensures.updates.0 t ∙ ap (λ b. cond b None (get nat_eq c.args.ticks.now t)) e in
        subst (λ s. IsLike s (get nat_eq c.args.ticks.now t)) (sym gone)
        (empty (get nat_eq c.args.ticks.now t)
        (subst (λ j. IsEmpty (get nat_eq c.args.ticks.now j)) (same_number c.args.tick t e) c.requires))
    at t false e =
        let same : get nat_eq c.swap_remove.new.self t ≡ get nat_eq c.args.ticks.now t = c.swap_remove.ensures.updates.0 t ∙ ap (λ b. cond b None (get nat_eq c.args.ticks.now t)) e in
        subst (λ s. IsLike s (get nat_eq c.args.ticks.now t)) (sym same) (like (get nat_eq c.args.ticks.now t))
