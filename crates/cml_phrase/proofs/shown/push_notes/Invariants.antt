use Rattle.std.proofs.Common.{◌≡◌, ◌++◌, drop, map}
use Rattle.std.specs.List.{flat_map}
use Rattle.cml_phrase.specs.Diagnoses.{plain_note}
use Rattle.cml_phrase.specs.Shown.{shown_note}
use Rattle.cml_phrase.proofs.shown.push_notes.Given as goal

abbrev pub invariant-loop-note : goal.invariant-loop-note
invariant-loop-note l =
    l.out.items ++ flat_map (shown_note l.number l.text) (map plain_note (drop l.note-index l.notes)) ≡ l.fn.out.items ++ flat_map (shown_note l.number l.text) (map plain_note l.notes)
