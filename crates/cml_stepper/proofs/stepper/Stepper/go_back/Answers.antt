use Rattle.std.proofs.Common.{List, length, ap, subst}
use Rattle.cml_phrase.specs.declared.place.Place.{Place}
use Rattle.cml_stepper.specs.Questions.{IsQuestion}
use Rattle.cml_stepper.proofs.stepper.Stepper.go_back.Goals as goal

pub returns-clause-undoes : goal.returns-clause-undoes
returns-clause-undoes c = (
  c.in_ok-undo.ensures.back,
  ap length c.schedule-number.ensures.items,
  subst (λ (places : List (List Place)). IsQuestion places c.undo.new.hub c.in_ok-question.question) c.undo.ensures.places c.in_ok-question.ensures,
)
