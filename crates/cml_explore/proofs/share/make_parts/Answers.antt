use Rattle.std.proofs.Common.{ℕ, sym, subst}
use Rattle.std.specs.Prelude.{IfOk}
use Rattle.std.specs.List.{All}
use Rattle.cml_explore.specs.Merges.{ArePartsTaken}
use Rattle.cml_explore.proofs.PlaceLemmas.{none_placed}
use Rattle.cml_explore.proofs.share.make_parts.Goals as goal

pub lay_all-requires-clause-taken : goal.lay_all-requires-clause-taken
lay_all-requires-clause-taken g c =
    subst (λ (n : ℕ). All (λ one. IfOk one
    (λ taken. ArePartsTaken c.args.program.now c.args.asked.now c.args.round n taken.items)) c.in_ok-all.all.items)
    (sym c.in_ok-places.ensures.long) c.in_ok-all.ensures

pub lay_all-requires-clause-placed : goal.lay_all-requires-clause-placed
lay_all-requires-clause-placed g c = none_placed c.args.program.now c.args.asked.now c.args.round _ c.in_ok-places.ensures.none
