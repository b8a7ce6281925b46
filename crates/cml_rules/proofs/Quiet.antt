-- Time moves, and a run ends, only where the rules allow no step.
use Rattle.std.proofs.Common.{◌≡◌, Bool, true, false, not, ◌&&◌, List, [], ◌∷◌, refl, ap, sym, ◌∙◌, IsTrue, Contains}
use Rattle.cml_scan.specs.World.{PlainWorld}
use Rattle.cml_scan.specs.Scan.{scan}
use Rattle.cml_scan.specs.declared.meet.Meet.{Meet}
use Rattle.cml_scan.proofs.Enabling.{has_row-Contains}
use Rattle.cml_schedule.specs.declared.item.Item.TheVariants.{Clock}
use Rattle.cml_hub.specs.Runs.{Run, is_allowed, after_item, is_empty, any_runs, next_alarm, has_number, is_none}
use Rattle.cml_rules.specs.Places.{row_of}
use Rattle.cml_rules.specs.Laws.{Step}
use Rattle.cml_rules.specs.Runs.{TimeWaits, TheEndIsStill}
use Rattle.cml_rules.proofs.Stepping.{steps_are_rows}
use Rattle.cml_rules.proofs.Following.{followed, allowed, both_true, some_is}

-- an empty scan has no step
no_row : (rows : List Meet) → is_empty rows ≡ true → (row : Meet) → Contains rows row → ⊥
no_row [] e row h = absurd (no (has_row-Contains [] row h))
  where
    no : false ≡ true → ⊥
    no e = cc
no_row (r ∷ rows) e row h = absurd (no e)
  where
    no : false ≡ true → ⊥
    no e = cc

no_step : (w : PlainWorld) → is_empty (scan w) ≡ true → Step w → ⊥
no_step w e s = no_row (scan w) e (row_of s.derivation) ((steps_are_rows w).row s)

pub time_waits : TimeWaits
time_waits p before after tick now end stood h s =
    let f = followed p before after (Clock tick) end h in
    let same = some_is now f.now (sym stood ∙ f.stood) in
    let a = allowed (is_allowed f.now.world (Clock tick)) (after_item p f.now (Clock tick)) f.next f.then_ in
    let b = both_true (has_number (next_alarm f.now.world) tick && not (any_runs f.now.world)) (is_empty (scan f.now.world)) a.0 in
    no_step now.world (ap (λ (r : Run). is_empty (scan r.world)) same ∙ b.1) s

pub end_is_still : TheEndIsStill
end_is_still w t s =
    let b = both_true (not (any_runs w) && is_empty (scan w)) (is_none (next_alarm w)) (is_true _ t) in
    let c = both_true (not (any_runs w)) (is_empty (scan w)) b.0 in
    no_step w c.1 s
  where
    is_true : (b : Bool) → IsTrue b → b ≡ true
    is_true true h = refl
    is_true false h = cc
