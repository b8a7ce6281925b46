use Rattle.std.proofs.Common.{arith, ap, ◌∙◌, ◌≡◌, length, rules}
use Rattle.std.specs.Prelude.{slice_get, slice_set, Some}
use Rattle.cml_step.specs.AskViews.{plain_ask}
use Rattle.cml_hub.proofs.Adding.{taken_is, room_is, kept_still}
use Rattle.cml_hub.proofs.MarkLemmas.{got_is}
use Rattle.cml_hub.proofs.trail.Trail.take_turn.Goals as goal

pub index_mut-requires : goal.index_mut-requires
index_mut-requires c = omega (arith, c.requires.there, ap length c.reserve.ensures.keeps.machines)

pub take_turn-requires-clause-goes : goal.take_turn-requires-clause-goes
take_turn-requires-clause-goes c =
    let m = c.index_mut.result.now in
    c.requires.goes m (got_is c.args.self.now.machines.items c.args.thread.0 m m c.requires.there (rw c.reserve.ensures.keeps.machines at c.index_mut.ensures.value))

pub returns-clause-taken : goal.returns-clause-taken
returns-clause-taken c =
    let old = c.args.self.now in
    let start = c.index_mut.result.now in
    let end = c.take_turn.new.machine in
    let k = c.reserve.ensures.keeps in
    let at : slice_get old.machines.items c.args.thread.0 ≡ Some start = got_is old.machines.items c.args.thread.0 start start c.requires.there (rw k.machines at c.index_mut.ensures.value) in
    taken_is c.take_turn.result c.args.program.now c.args.thread.0 (plain_ask c.take_turn.new.ask) old _ c.args.book.now c.take_turn.new.book start end at
    (record {
      items = k.items;
      machines = ap (λ ms. slice_set ms c.args.thread.0 end) k.machines;
      output = c.take_turn.ensures.bytes ∙ k.output;
      used = k.used;
      origins = k.origins;
      faults = k.faults;
    }) c.take_turn.ensures.slice c.take_turn.ensures.done

pub returns-clause-room : goal.returns-clause-room
returns-clause-room c =
    room_is c.take_turn.result _ (record { items = c.in_ok-reserve.ensures.room.items; machines = search rules; origins = c.in_ok-reserve.ensures.room.origins })
    c.take_turn.ensures.room

pub returns-clause-err : goal.returns-clause-err
returns-clause-err c =
    let old = c.args.self.now in
    let start = c.index_mut.result.now in
    let end = c.take_turn.new.machine in
    let k = c.reserve.ensures.keeps in
    let at : slice_get old.machines.items c.args.thread.0 ≡ Some start = got_is old.machines.items c.args.thread.0 start start c.requires.there (rw k.machines at c.index_mut.ensures.value) in
    kept_still c.take_turn.result old _ c.args.thread.0 c.args.book.now c.take_turn.new.book start end at
    (record {
      items = k.items;
      machines = ap (λ ms. slice_set ms c.args.thread.0 end) k.machines;
      output = c.take_turn.ensures.bytes ∙ k.output;
      used = k.used;
      origins = k.origins;
      faults = k.faults;
    }) c.take_turn.ensures.err
