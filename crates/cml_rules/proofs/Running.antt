-- Runs take steps of the rules.
use Rattle.std.proofs.Common.{◌≡◌, ℕ, true, false, ◌&&◌, List, [], ◌∷◌, Some, refl, ap, sym, ◌∙◌, subst}
use Rattle.std.specs.Prelude.{option_and_then}
use Rattle.cml_value.specs.Value.{PlainBase, PlainValue}
use Rattle.cml_scan.specs.World.{PlainWorld}
use Rattle.cml_scan.specs.Scan.{scan, has_row}
use Rattle.cml_scan.specs.declared.meet.Meet.{Meet}
use Rattle.cml_schedule.specs.declared.item.Item.{Item}
use Rattle.cml_schedule.specs.declared.item.Item.TheVariants.{Turn, Meet as Commit, Exchange, Clock}
use Rattle.cml_step.specs.Terms.{Program}
use Rattle.cml_book.specs.declared.command.Committed.{Committed}
use Rattle.cml_book.specs.Commit.{base_awaited, after, hands}
use Rattle.cml_book.specs.Swaps.{is_swap, are_swaps}
use Rattle.cml_book.proofs.Commits.{commit_is}
use Rattle.cml_hub.specs.Runs.{Run, met, advance, opening, stands}
use Rattle.cml_rules.specs.Rules.{Communicate, sends, swaps, Synchronizes, alone, together}
use Rattle.cml_rules.specs.Places.{ends_at, row_of}
use Rattle.cml_rules.specs.Runs.{AreSwaps, FitsItem, TakesStep, RunsTakeSteps}
use Rattle.cml_rules.proofs.Committing.{base_is, step_of}
use Rattle.cml_rules.proofs.Following.{stands-append, followed, allowed, both_true}

meet_swaps : {t u : ℕ} {a b : PlainBase} {x y : PlainValue} (m : Communicate t u a b x y) → is_swap a ≡ true → AreSwaps m
meet_swaps (sends c v h) e = absurd (no e)
  where
    no : false ≡ true → ⊥
    no e = cc
meet_swaps (swaps s x y h) e = tt

exchange_fits : {w w' : PlainWorld} {c : Committed} (row : Meet) (d : Synchronizes w w' c) → are_swaps w (row_of d) ≡ true → FitsItem (Exchange row) d
exchange_fits row (alone t g b s v w' p d h) e = no e
  where
    no : false ≡ true → ⊥
    no e = cc
exchange_fits {w = w} row (together t u g h a b r s x y p q d e m) f =
    let two = both_true (is_swap (base_awaited w t (ends_at d))) (is_swap (base_awaited w u (ends_at e))) f in
    meet_swaps m (ap is_swap (sym (base_is w t d p)) ∙ two.0)

-- a row that is taken, where it is in the scan
took : (p : Program) (before : List Item) (item : Item) (row : Meet) (now : Run) → stands p before ≡ Some now → advance p now item ≡ Some (met p now row) → has_row (scan now.world) row ≡ true
    → ((d : Synchronizes now.world (after now.world row) (hands now.world row)) → row_of d ≡ row → FitsItem item d) → TakesStep p before item row
took p before item row now stood then_ has fit =
    let s = step_of now.world row (after now.world row) (hands now.world row) (commit_is now.world row has) in
    record {
      now = now;
      next = met p now row;
      gives = hands now.world row;
      stood = stood;
      stands_next = stands-append p (Some (opening p)) before (item ∷ []) ∙ ap (λ o. option_and_then (λ r. advance p r item) o) stood ∙ then_;
      step = s.0;
      of_row = s.1;
      fits = fit s.0 s.1;
      goes_on = refl;
    }

pub runs_take_steps : RunsTakeSteps
runs_take_steps p before after (Turn t) row end takes h = absurd takes
runs_take_steps p before after (Clock tick) row end takes h = absurd takes
runs_take_steps p before after (Commit taken) row end takes h =
    let f = followed p before after (Commit taken) end h in
    let a = allowed (has_row (scan f.now.world) taken) (Some (met p f.now taken)) f.next f.then_ in
    subst (TakesStep p before (Commit taken)) takes (took p before (Commit taken) taken f.now f.stood (f.then_ ∙ sym a.1) a.0 (λ d e. tt))
runs_take_steps p before after (Exchange taken) row end takes h =
    let f = followed p before after (Exchange taken) end h in
    let a = allowed (has_row (scan f.now.world) taken && are_swaps f.now.world taken) (Some (met p f.now taken)) f.next f.then_ in
    let two = both_true (has_row (scan f.now.world) taken) (are_swaps f.now.world taken) a.0 in
    subst (TakesStep p before (Exchange taken)) takes
    (took p before (Exchange taken) taken f.now f.stood (f.then_ ∙ sym a.1) two.0 (λ d e. exchange_fits taken d (ap (are_swaps f.now.world) e ∙ two.1)))
