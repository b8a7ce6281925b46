use Rattle.std.proofs.Common.{◌≡◌, Bool, MatchBool, Option, None, refl, subst, sym}
use Rattle.cml_hub.specs.Kept.{Kept}
use Rattle.cml_judge.specs.Stops.{IsStoppedThere}
use Rattle.cml_host.proofs.RanLemmas.{stops_so}
use Rattle.cml_host.proofs.run.stopped.Goals as goal

pub returns-then-asked : goal.returns-then-asked
returns-then-asked c =
    stops_so c.stopped_hub.result c.args.asked.now.stops c.as_slice.result.now c.args.asked.now.properties.items c.args.hub.now c.as_slice.ensures.value c.if-asked.true
    c.stopped_hub.ensures

pub returns-else-asked : goal.returns-else-asked
returns-else-asked c =
    let none : Option Kept = None in
    subst (λ (b : Bool). MatchBool b (IsStoppedThere c.args.asked.now.properties.items c.args.hub.now none) (none ≡ none)) (sym c.if-asked.false) refl
