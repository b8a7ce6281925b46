use Rattle.std.proofs.Common.{refl, ap, ◌∙◌}
use Rattle.cml_index.specs.Slots.{slot_leaves}
use Rattle.cml_index.proofs.Lit.{still_indexed}
use Rattle.cml_index.proofs.Walks.{on_ok_both}
use Rattle.cml_index.proofs.state.IndexState.make_room.Goals as goal

pub returns-clause-indexed : goal.returns-clause-indexed
returns-clause-indexed c =
    let s = c.make_places.new.self in
    still_indexed s.entries.items s.lanes c.make_room.new.self s.live s.live s.flags.entries s.flags.entries s.leaves
    s.crossing s.lit c.make_places.ensures.indexed c.make_room.ensures.same c.make_room.ensures.going (λ n. refl)
    (λ n. refl) (record { same = λ l. refl; named = λ k h. h })

pub returns-clause-room : goal.returns-clause-room
returns-clause-room c =
    let made = c.in_ok-make_places.ensures in
    on_ok_both c.make_room.result c.make_room.ensures.late c.make_room.ensures.room (λ late room. record {
      seat = made.seat;
      places = made.places;
      small = made.small;
      late = λ k. late k ∙ ap (slot_leaves k 0) c.waits.ensures.slots;
      room = room;
      named = made.named;
    })
