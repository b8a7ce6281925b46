use Rattle.std.proofs.Common.{rules, ◌≡◌, ℕ, Bool, true, false, nat_eq, Option, Some, None, refl, sym, subst, arith}
use Rattle.std.proofs.lemmas.Bool.Decides.{nat_tests}
use Rattle.indexmap.specs.IndexMap.{get}
use Rattle.cml_index.specs.declared.stand.LaneState.{LaneState}
use Rattle.cml_index.specs.Stands.{IsAlike}
use Rattle.cml_index.proofs.stand.make_tick.Goals as goal

same_number : (a b : ℕ) → nat_eq a b ≡ true → a ≡ b
same_number a b e = grind (arith, nat_tests)

alike : (s : Option LaneState) → IsAlike s s
alike s = record { places = refl; late = refl; going = refl; room = omega arith }

pub returns-clause-same : goal.returns-clause-same
returns-clause-same c t = at t (nat_eq c.args.tick t) refl
  where
    at : (t : ℕ) (b : Bool) → nat_eq c.args.tick t ≡ b → IsAlike (get nat_eq c.insert.new.self t) (get nat_eq c.args.ticks.now t)
    at t true e =
        let now : get nat_eq c.insert.new.self c.args.tick ≡ Some c.new.result = search rules in
        let was : get nat_eq c.args.ticks.now c.args.tick ≡ None = search rules in
        subst (λ j. IsAlike (get nat_eq c.insert.new.self j) (get nat_eq c.args.ticks.now j)) (same_number c.args.tick t e)
        (subst (λ s. IsAlike s (get nat_eq c.args.ticks.now c.args.tick)) (sym now)
        (subst (IsAlike (Some c.new.result)) (sym was)
        (record {
          places = c.new.ensures.lane;
          late = c.new.ensures.late;
          going = c.new.ensures.going;
          room = omega
              arith;
        })))
    at t false e = let same : get nat_eq c.insert.new.self t ≡ get nat_eq c.args.ticks.now t = search rules in subst
        (λ s. IsAlike s (get nat_eq c.args.ticks.now t)) (sym same) (alike (get nat_eq c.args.ticks.now t))
