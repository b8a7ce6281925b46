use Rattle.std.proofs.Common.{List, ℕ, inl, inr, refl, subst, sym}
use Rattle.cml_explore.specs.Explored.{IsFirstOutput}
use Rattle.cml_host.proofs.ExploringLemmas.{shows_none}
use Rattle.cml_host.proofs.explore.explore_compared.Goals as goal

pub explore_program-requires-clause-asks : goal.explore_program-requires-clause-asks
explore_program-requires-clause-asks g c κs within =
    let asks = c.requires.asks in
    record { budget = asks.budget; first = asks.first; runs = asks.runs; orders = asks.orders; servers_are = refl; wanted_are = refl; until = asks.until }

pub explore_program-requires-clause-beside : goal.explore_program-requires-clause-beside
explore_program-requires-clause-beside g c κs within =
    λ some. subst (λ (l : List ℕ). IsFirstOutput c.args.script.now.program c.args.asked.now l) (sym c.as_slice.ensures.value) c.in-Ok.ensures

pub returns-in-Err-clause-told : goal.returns-in-Err-clause-told
returns-in-Err-clause-told g c = (shows_none c.args.shows (g.E.Write.contents c.args.err.now.stream.now), inl (refl, inr refl))
