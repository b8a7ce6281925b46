-- A hub may cross threads, with its table, its objects and its machines.
use denote.Builtin.{unit}
use denote.RattleType.{RattleType}
use mathlib.Core.List.{[], ◌∷◌}
use denote.Struct.Tuple.{TupleAt}
use denote.Model.Local.{Parts, rows}
use denote.Model.Goals.{send, sync, has_of, part_has}
use denote.Model.Marks.{both_send, both_sync}
use denote.Param.Send.{IsSend, IsSync, sendable}
use denote.Param.SendFields.{declared_send, declared_sync}
use Rattle.std.specs.contracts.alloc.Global as Global
use Rattle.std.specs.contracts.impls.GlobalAllocator.TheImpl.{ghosts as heap}
use Rattle.std.proofs.Crossing.{crosses}
use Rattle.std.proofs.MapsCrossing.{crosses as maps}
use Rattle.std.proofs.MapsCrossingOver.{crosses as sets}
use Rattle.atomic_table.proofs.shared.Seat.TheSendSync.{the_send as seat_send}
use Rattle.atomic_table.proofs.shared.Shared.TheSendSync.{the_sync as places_sync}
use Rattle.atomic_table.proofs.send_lease.SendLease.TheSendSync.{the_sync as lease_sync}
use Rattle.atomic_table.specs.contracts.owned.Table as Table
use Rattle.crossbeam_utils.specs.contracts.atomic.seq_cell.Wide as Wide
use Rattle.indexmap.specs.contracts.map.IndexMap as IndexMap
use Rattle.indexmap.specs.contracts.columns.Columns as Columns
use Rattle.indexmap.specs.contracts.index_table.IndexTable as IndexTable
use Rattle.cml_index.specs.contracts.index.OfferIndex as OfferIndex
use Rattle.cml_index.specs.contracts.entries.Entries as Entries
use Rattle.cml_index.specs.contracts.entry.Entry as Entry
use Rattle.cml_index.specs.contracts.entry.Spare as Spare
use Rattle.cml_objects.specs.contracts.register.Register as Register
use Rattle.cml_objects.specs.contracts.clock.Clock as Clock
use Rattle.cml_book.specs.contracts.state.State as State
use Rattle.cml_book.specs.contracts.book.Book as Book
use Rattle.cml_step.specs.contracts.entries.Frame.TheKnot as frame
use Rattle.cml_step.specs.contracts.entries.Frame as Frame
use Rattle.cml_step.specs.declared.entries.Frame.TheDeep as frames
use Rattle.cml_step.specs.contracts.machine.Machine as Machine
use Rattle.cml_step.specs.contracts.undo.Undo as Undo
use Rattle.cml_hub.specs.contracts.course.Course as Course
use Rattle.cml_hub.specs.contracts.course.Course.TheInside as CourseParts
use Rattle.cml_hub.specs.contracts.hub.Hub as Hub
use Rattle.cml_stream.specs.contracts.counts.Counting as Counting
use Rattle.cml_work.specs.contracts.locked.Locked as Locked
use Rattle.cml_work.specs.contracts.shared.Shared as Shared
use Rattle.cml_work.specs.contracts.waiters.Waiters as Waiters
use Rattle.cml_work.proofs.Crossing.{all_cross}

-- a map of the table, by its two columns and its places
columns_send : (K V : RattleType) → IsSend K → IsSend V → IsSend (Columns.the_row K V Global.the_row heap)
columns_send K V k v = search (sendable, crosses) depth 60 fits 100000

places_send : IsSend (IndexTable.the_row Global.the_row heap)
places_send = search (sendable, crosses) depth 60 fits 100000

map_send : (K V S H : RattleType) (e : _) (h : _) (b : _) (r : _) → IsSend K → IsSend V → IsSend S → IsSend (IndexMap.the_row K V S Global.the_row H e h b r heap)
map_send K V S H e h b r k v s = let c = columns_send K V k v in let p = places_send in search (sendable, crosses) depth 60 fits 100000

-- the table
entry_send : IsSend Entry.the_row
entry_send = search all_cross depth 60 fits 100000

spare_send : IsSend Spare.the_row
spare_send = search all_cross depth 60 fits 100000

entries_send : IsSend Entries.the_row
entries_send = search (sendable, crosses, entry_send) depth 60 fits 100000

index_send : IsSend OfferIndex.the_row
index_send = search (sendable, crosses, spare_send, entries_send, map_send) depth 60 fits 100000

-- the book
clock_send : IsSend Clock.the_row
clock_send = search (sendable, crosses, maps) depth 60 fits 100000

register_send : (S W F : RattleType) (k : _) → IsSend S → IsSend (Register.the_row S W F k)
register_send S W F k s = search (sendable, crosses, maps, sets) depth 60 fits 100000

state_send : IsSend State.the_row
state_send = search (all_cross, clock_send, register_send) depth 60 fits 100000

book_send : (T : RattleType) (k : _) → IsSend T → IsSend (Book.the_row T k)
book_send T k s = search (all_cross, state_send) depth 60 fits 100000

-- the machines: a frame of a stack reaches those below it
module _ (p : Parts frame.frame) (s : (j : frames.the_members) → IsSend (rows frame.frame p j)) (y : (j : frames.the_members) → IsSync (rows frame.frame p j)) where
  frame_sends : (i : frames.the_members) → IsSend (rows frame.frame (frame.step p) i)
  frame_sends frames.member-Frame = has_of frame.frame send (frame.step p) frames.member-Frame (part_has send (frame.view-Frame p) (search all_cross depth 60 fits 100000))

  frame_syncs : (i : frames.the_members) → IsSync (rows frame.frame (frame.step p) i)
  frame_syncs frames.member-Frame = has_of frame.frame sync (frame.step p) frames.member-Frame (part_has sync (frame.view-Frame p) (search all_cross depth 60 fits 100000))

frame_send : IsSend Frame.the_row
frame_send = both_send frame.frame frame.step frame.sizes frame_sends frame_syncs frames.member-Frame

frame_sync : IsSync Frame.the_row
frame_sync = both_sync frame.frame frame.step frame.sizes frame_sends frame_syncs frames.member-Frame

machine_send : IsSend Machine.the_row
machine_send = search (all_cross, frame_send, frame_sync) depth 60 fits 100000

-- what undoes a slice
undo_send : IsSend Undo.the_row
undo_send = search (all_cross, machine_send) depth 60 fits 100000

-- the hub
course_parts : IsSend CourseParts.the_row
course_parts = declared_send CourseParts.the_type (search (all_cross, index_send, book_send, machine_send, undo_send) depth 60 fits 100000)

course_send : IsSend Course.the_row
course_send = search (sendable, course_parts) depth 60 fits 100000

hub_send : IsSend Hub.the_row
hub_send = search (all_cross, course_send) depth 60 fits 100000

-- the board of the marks
table_sync : (S V K P : RattleType) (g : _) → IsSend S → IsSync (Table.the_row S V K P Global.the_row g heap)
table_sync S V K P g s = search (sendable, crosses, places_sync, lease_sync) depth 60 fits 100000

board_sync : (S D Q N : RattleType) (q : _) → IsSend S → IsSync (Wide.the_row S D Q N Global.the_row q heap)
board_sync S D Q N q s =
    declared_sync (Wide.the_type S D Q N Global.the_row q heap) (table_sync S D unit Q (record { holds = λ x. q.holds x; first = q.first }) s, tt)

-- what lies under the lock, and the lock
waiters_send : IsSend Waiters.the_row
waiters_send = search (sendable, crosses) depth 60 fits 100000

locked_send : (O C : RattleType) (o : _) (c : _) → IsSend O → IsSend C → IsSend (Locked.the_row O C o c)
locked_send O C o c s u = search (sendable, crosses, hub_send, seat_send, waiters_send) depth 60 fits 100000

pub shared_sync : (O C : RattleType) (o : _) (c : _) → IsSend O → IsSend C → IsSync (Shared.the_row O C o c)
shared_sync O C o c s u =
    let l = locked_send O C o c s u in
    declared_sync (Shared.the_type O C o c)
    (search (sendable, crosses) depth 60 fits 100000, (search (sendable, crosses) depth 60 fits 100000, (search (sendable, crosses) depth 60 fits 100000, (search (sendable, board_sync), tt))))

-- a stream that is counted, and what a closure has captured
pub counting_send : (ℓ : _) (W : RattleType) → IsSend W → IsSend (Counting.the_row ℓ W)
counting_send ℓ W s = search (sendable, crosses) depth 60 fits 100000

pub captured_send : (name : _) (A B C D : RattleType) → IsSend A → IsSend B → IsSend C → IsSend D → IsSend (TupleAt name (A ∷ B ∷ C ∷ D ∷ []))
captured_send name A B C D a b c d = search sendable depth 60 fits 100000
