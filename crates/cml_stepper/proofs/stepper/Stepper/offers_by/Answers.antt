use Rattle.std.proofs.Common.{ap, arith, length, subst, ◌∙◌}
use Rattle.cml_scan.specs.World.{PlainWorld}
use Rattle.cml_scan.specs.Scan.{scan}
use Rattle.cml_facts.specs.Turns.{began_in}
use Rattle.cml_stepper.specs.Offers.{AreRows}
use Rattle.cml_stepper.specs.Questions.{is_still, running_from, tick_next}
use Rattle.cml_stepper.proofs.OfferLemmas.{first_rows}
use Rattle.cml_stepper.proofs.QuestionLemmas.{still_first}
use Rattle.cml_stepper.proofs.stepper.Stepper.offers_by.Goals as goal

pub returns : goal.returns
returns c =
    let course = c.args.hub.now.course in
    let w = course.world in
    let runs = running_from 0 w.threads in
    let rows = c.in_ok-listed_rows.listed_rows in
    record {
      spots = c.in_ok-spots.spots.items;
      stand = c.in_ok-spots.ensures.spots;
      ready = rw (c.as_slice.ensures.value, c.listed.ensures, c.requires.ready) at c.in_ok-listed_ready.ensures;
      more_ready = omega (arith, ap length c.requires.ready);
      rows = first_rows w (began_in course) 1 (scan w) rows (subst (λ ms. AreRows w (began_in course) 1 ms rows) c.requires.rows c.in_ok-listed_rows.ensures);
      tick = c.tick_to_come.ensures
          ∙ (ap (λ (v : PlainWorld). tick_next v c.is_still.result) c.book.ensures
          ∙ ap (tick_next w) (c.is_still.ensures ∙ (ap (λ ts. is_still ts c.args.rows.now) c.requires.ready ∙ (ap (is_still runs) c.requires.rows ∙ still_first runs (scan w)))));
    }
