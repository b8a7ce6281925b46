use Rattle.std.proofs.Common.{◌≡◌, ◌≤◌, ◌++◌, ◌∷◌, [], length, ap, sym, subst, ◌∙◌}
use Rattle.std.specs.Option.{option_copied}
use Rattle.cml_index.specs.Slots.{is_slot, late_at, room_at}
use Rattle.cml_index.proofs.Walks.{same_slot_is, on_ok_both}
use Rattle.cml_index.proofs.lanes.Lanes.note_of.Goals as goal

pub returns-in-Some-clause-here : goal.returns-in-Some-clause-here
returns-in-Some-clause-here c =
    on_ok_both c.note.result c.note.ensures.here.late c.note.ensures.here.room (λ late room k e.
    let is : k ≡ c.in-Some.slot.now = same_slot_is k c.in-Some.slot.now (sym (ap (λ s. is_slot k (option_copied s)) c.in-Some.is) ∙ e) in (
      subst (λ j. late_at c.note.new.self j ≡ late_at c.args.self.now j ++ c.args.leaf ∷ []) (sym is) late,
      subst (λ j. length (late_at c.note.new.self j) ≤ room_at c.note.new.self j) (sym is) room,
    ))
