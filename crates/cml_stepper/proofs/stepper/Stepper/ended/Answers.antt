use Rattle.std.proofs.Common.{List, subst}
use Rattle.std.specs.Prelude.{IfOk}
use Rattle.cml_phrase.specs.declared.place.Place.{Place}
use Rattle.cml_facts.specs.Ends.{IsEnding}
use Rattle.cml_stepper.proofs.stepper.Stepper.ended.Goals as goal

pub returns : goal.returns
returns c = subst (λ (places : List (List Place)). IfOk c.ending_of.result (IsEnding places c.args.hub.now)) c.places.ensures c.ending_of.ensures
