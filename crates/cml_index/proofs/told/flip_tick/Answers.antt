use Rattle.std.proofs.Common.{rules, ◌≡◌, Bool, true, false, nat_eq, cond, Some, is_some, refl, ap, ◌∙◌}
use Rattle.std.specs.Option.{IsSome}
use Rattle.indexmap.specs.IndexMap.{get}
use Rattle.cml_index.proofs.told.flip_tick.Goals as goal

pub returns-in-Some-clause-named : goal.returns-in-Some-clause-named
returns-in-Some-clause-named c t = at (nat_eq c.args.tick t) refl
  where
    there : IsSome (get nat_eq c.args.ticks.now c.args.tick)
    there = search rules

    at : (b : Bool) → nat_eq c.args.tick t ≡ b → is_some (get nat_eq c.args.ticks.now t) ≡ true → is_some (get nat_eq (c.get_mut.follows.lender c.args.lit) t) ≡ true
    at true e h = let u = (c.get_mut.follows.holds c.args.lit).3 there in ap is_some (u.0 t ∙ ap (λ b. cond b (Some c.args.lit) (get nat_eq c.args.ticks.now t)) e)
    at false e h = let u = (c.get_mut.follows.holds c.args.lit).3 there in ap is_some (u.0 t ∙ ap (λ b. cond b (Some c.args.lit) (get nat_eq c.args.ticks.now t)) e) ∙ h
