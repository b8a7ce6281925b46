use Rattle.std.proofs.Common.{arith, ap, ◌∙◌, ◌<◌, length, length-set, refl, rules}
use Rattle.cml_step.specs.AskViews.{plain_ask}
use Rattle.cml_hub.specs.Dones.{CanSettle}
use Rattle.cml_hub.specs.Trails.{AddsTurn}
use Rattle.cml_hub.proofs.Adding.{put_settles, added_over}
use Rattle.cml_hub.proofs.Settled.{set_there}
use Rattle.cml_hub.proofs.trail.Trail.add_slice.Goals as goal

pub index_mut-requires : goal.index_mut-requires
index_mut-requires c = omega (arith, c.requires.there, c.thread-thread.ensures, ap (λ m. m.thread) c.start.ensures)

pub add_turn-requires-clause-there : goal.add_turn-requires-clause-there
add_turn-requires-clause-there c =
    let ms = c.args.self.now.machines.items in
    omega (arith, c.requires.there, c.thread-thread.ensures, ap (λ m. m.thread) c.start.ensures, length-set ms c.thread-thread.result.0 c.into_end-end.result.0)

pub add_turn-requires-clause-settles : goal.add_turn-requires-clause-settles
add_turn-requires-clause-settles c =
    let ms = c.args.self.now.machines.items in
    let thread = c.thread-thread.result.0 in
    let lt : thread < length ms = omega (arith, c.requires.there, c.thread-thread.ensures, ap (λ m. m.thread) c.start.ensures) in
    put_settles ms _ thread c.into_end-end.result.0 (λ x. CanSettle x c.args.made.prepared.done) refl lt (rw c.into_end-end.ensures.end c.requires.settles)

pub add_turn-requires-clause-asked : goal.add_turn-requires-clause-asked
add_turn-requires-clause-asked c = rw c.into_end-end.ensures.ask c.requires.asked

pub add_turn-requires-clause-room : goal.add_turn-requires-clause-room
add_turn-requires-clause-room c =
    let r = c.requires.room in
    record { lists = record { items = r.lists.items; machines = search rules; origins = r.lists.origins }; output = r.output }

pub returns-clause-thread : goal.returns-clause-thread
returns-clause-thread c = c.thread-thread.ensures ∙ ap (λ m. m.thread) c.start.ensures

pub returns-clause-adds : goal.returns-clause-adds
returns-clause-adds c =
    let old = c.args.self.now in
    let thread = c.thread-thread.result in
    let end = c.into_end-end.result.0 in
    let lt : thread.0 < length old.machines.items = omega (arith, c.requires.there, c.thread-thread.ensures, ap (λ m. m.thread) c.start.ensures) in
    let adds = c.add_turn.ensures.adds end (set_there old.machines.items thread.0 end lt) in
    let added : AddsTurn old thread end (plain_ask c.into_end-end.result.1) c.args.made c.add_turn.new.self =
    added_over old _ c.add_turn.new.self thread end (plain_ask c.into_end-end.result.1) c.args.made
    (record { items = refl; machines = refl; output = refl; used = refl; origins = refl; faults = refl }) adds in
    rw (c.into_end-end.ensures.ask, c.into_end-end.ensures.end) at added
