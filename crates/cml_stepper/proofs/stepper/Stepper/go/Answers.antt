use Rattle.std.proofs.Common.{◌≡◌, List, drop, ap, subst, ◌∙◌}
use Rattle.cml_phrase.specs.declared.place.Place.{Place}
use Rattle.cml_stepper.specs.Questions.{IsQuestion}
use Rattle.cml_stepper.proofs.stepper.Stepper.go.Goals as goal

pub returns-in-Ok-clause-goes : goal.returns-in-Ok-clause-goes
returns-in-Ok-clause-goes c =
    let t = c.in_ok-happened.ensures in
    record {
      adds = t.adds;
      budget = t.budget;
      did = t.told;
      prints = c.in-Ok.ensures.printed ∙ ap (λ n. drop n c.tell.new.hub.course.output) c.printed_len-before.ensures;
      asks = subst (λ (places : List (List Place)). IsQuestion places c.tell.new.hub c.in-Ok.question) t.places c.in-Ok.ensures.question;
    }
