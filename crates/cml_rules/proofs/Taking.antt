-- A run can take each step of the rules.
use Rattle.std.proofs.Common.{◌≡◌, true, if◌then◌else◌, [], ◌∷◌, Some, None, ap, ◌∙◌}
use Rattle.std.specs.Prelude.{option_and_then}
use Rattle.cml_scan.specs.Scan.{scan, has_row}
use Rattle.cml_scan.proofs.Enabling.{has_row-Contains}
use Rattle.cml_schedule.specs.declared.item.Item.TheVariants.{Meet as Commit}
use Rattle.cml_hub.specs.Runs.{met, advance, opening, all_resumed}
use Rattle.cml_rules.specs.Places.{row_of}
use Rattle.cml_rules.specs.Runs.{StepsCanBeTaken}
use Rattle.cml_rules.proofs.Stepping.{steps_are_rows}
use Rattle.cml_rules.proofs.Committing.{after_is, hands_is}
use Rattle.cml_rules.proofs.Following.{stands-append}

pub steps_can_be_taken : StepsCanBeTaken
steps_can_be_taken p items now stood s =
    let row = row_of s.derivation in
    let has : has_row (scan now.world) row ≡ true = has_row-Contains (scan now.world) row ((steps_are_rows now.world).row s) in
    let on : advance p now (Commit row) ≡ Some (met p now row) = ap (λ b. if b then Some (met p now row) else None) has in
    record {
      next = met p now row;
      stands_next = stands-append p (Some (opening p)) items (Commit row ∷ []) ∙ ap (λ o. option_and_then (λ r. advance p r (Commit row)) o) stood ∙ on;
      world = after_is s.derivation;
      goes_on = ap (all_resumed p now.terms) (hands_is s.derivation);
    }
