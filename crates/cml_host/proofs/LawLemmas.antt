-- No outcome is left out.
use Rattle.std.proofs.Common.{◌≡◌, ◌∙◌, ℕ, ◌≤◌, true, List, length, ap, sym, arith}
use Rattle.std.specs.Prelude.{Some, Contains}
use Rattle.std.proofs.lemmas.List.Elements.{All-contains}
use Rattle.cml_check.specs.Syntax.{PlainItem}
use Rattle.cml_explore.specs.Outcomes.{ends_from, has_fallen}
use Rattle.cml_hub.specs.Runs.{Run}
use Rattle.cml_schedule.specs.declared.item.Item.{Item}
use Rattle.cml_step.specs.Calls.{text_of}
use Rattle.cml_verify.specs.Verdicts.{EndsIn, RunEnd}
use Rattle.cml_host.specs.Laws.{IsTextOf, NoOutcomeIsLeftOut}
use Rattle.cml_host.specs.Outcomes.{GivesText, PlainOutcomeTold}

some_same : {X : Type 0} (x y : X) → Some x ≡ Some y → x ≡ y
some_same x y h = cc

-- what a schedule gives, that ends so
text_is : (p : List (PlainItem ℕ)) (schedule : List Item) (e : RunEnd) (text : List ℕ) → EndsIn (text_of p) true schedule e → GivesText p schedule text → IsTextOf e text
text_is p schedule e text ends gives =
    let o = gives.0 in
    let fell = has_fallen (text_of p) schedule in
    let same : gives.1.run ≡ ends.run = some_same gives.1.run ends.run (sym gives.1.leads ∙ ends.leads) in (
      o,
      fell,
      gives.2,
      ap Some (gives.1.output_is ∙ ap (λ (r : Run). r.output) same) ∙ ends.printed,
      gives.1.threads_are ∙ (ap (λ (r : Run). ends_from fell 0 r.world.threads) same ∙ ap (λ w. ends_from fell 0 w.threads) ends.world),
    )

pub none_left_out : NoOutcomeIsLeftOut
none_left_out p bound states most schedules told verdict are schedule e within ends =
    let one = verdict.all schedule e within ends in
    let met = All-contains (λ s. (t : PlainOutcomeTold) × Contains told t × GivesText p s t.text × (length t.schedule ≤ length s)) schedules one.0 are.all one.1 in
    (met.0, met.1, text_is p one.0 e met.0.text one.2 met.2, omega (arith, met.3, one.3))
