use Rattle.std.proofs.Common.{rules, ◌≡◌, ℕ, Bool, true, false, nat_eq, Some, None, is_some, refl, ap, sym, subst, ◌∙◌, arith}
use Rattle.std.proofs.lemmas.Bool.Decides.{nat_tests}
use Rattle.indexmap.specs.IndexMap.{get}
use Rattle.cml_index.specs.Told.{lit_in}
use Rattle.cml_index.proofs.told.reserve_tick.Goals as goal

same_number : (a b : ℕ) → nat_eq a b ≡ true → a ≡ b
same_number a b e = grind (arith, nat_tests)

pub returns-clause-told : goal.returns-clause-told
returns-clause-told c t = at t (nat_eq c.args.tick t) refl
  where
    at : (t : ℕ) (b : Bool) → nat_eq c.args.tick t ≡ b → lit_in (get nat_eq c.insert.new.self t) ≡ lit_in (get nat_eq c.args.ticks.now t)
    at t true e =
        let now : get nat_eq c.insert.new.self c.args.tick ≡ Some false = search rules in
        let was : get nat_eq c.args.ticks.now c.args.tick ≡ None = search rules in
        subst (λ j. lit_in (get nat_eq c.insert.new.self j) ≡ lit_in (get nat_eq c.args.ticks.now j)) (same_number c.args.tick t e) (ap lit_in now ∙ sym (ap lit_in was))
    at t false e = let same : get nat_eq c.insert.new.self t ≡ get nat_eq c.args.ticks.now t = search rules in ap lit_in same

pub returns-clause-named : goal.returns-clause-named
returns-clause-named c t = at t (nat_eq c.args.tick t) refl
  where
    at : (t : ℕ) (b : Bool) → nat_eq c.args.tick t ≡ b → is_some (get nat_eq c.args.ticks.now t) ≡ true → is_some (get nat_eq c.insert.new.self t) ≡ true
    at t true e h =
        let now : get nat_eq c.insert.new.self c.args.tick ≡ Some false = search rules in
        subst (λ j. is_some (get nat_eq c.insert.new.self j) ≡ true) (same_number c.args.tick t e) (ap is_some now)
    at t false e h = let same : get nat_eq c.insert.new.self t ≡ get nat_eq c.args.ticks.now t = search rules in ap is_some same ∙ h
