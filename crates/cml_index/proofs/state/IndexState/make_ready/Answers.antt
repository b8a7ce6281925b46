use Rattle.std.specs.Prelude.{Result, Ok, Err, OnOk}
use Rattle.cml_scan.proofs.Ordered.{Every-weaker}
use Rattle.cml_index.specs.declared.slot.Slot.TheVariants.{Waiters}
use Rattle.cml_index.specs.Posts as spec
use Rattle.cml_index.proofs.Lit.{reserved_indexed}
use Rattle.cml_index.proofs.state.IndexState.make_ready.Goals as goal

pub returns-in_err-reserve_lights-clause-indexed : goal.returns-in_err-reserve_lights-clause-indexed
returns-in_err-reserve_lights-clause-indexed c =
    reserved_indexed c.args.self.now.entries.items c.args.self.now.lanes c.args.self.now.live
    c.args.self.now.flags.entries c.reserve_lights.new.flags.entries c.args.self.now.leaves c.args.self.now.crossing
    c.args.self.now.lit c.requires.indexed c.reserve_lights.ensures.kept

pub make_room-requires-clause-indexed : goal.make_room-requires-clause-indexed
make_room-requires-clause-indexed c =
    reserved_indexed c.args.self.now.entries.items c.args.self.now.lanes c.args.self.now.live
    c.args.self.now.flags.entries c.reserve_lights.new.flags.entries c.args.self.now.leaves c.args.self.now.crossing
    c.args.self.now.lit c.requires.indexed c.reserve_lights.ensures.kept

any_end : {A E X : Type 0} (r : Result A E) → X → OnOk r X
any_end (Ok a) x = x
any_end (Err e) x = tt

pub returns-clause-lights : goal.returns-clause-lights
returns-clause-lights c =
    any_end c.make_room.result (Every-weaker (λ l. spec.is_named c.reserve_lights.new.flags.entries (Waiters l))
    (λ l. spec.is_named c.make_room.new.self.flags.entries (Waiters l)) c.args.lit.now
    (λ l h. c.make_room.ensures.kept (Waiters l) h) c.in_ok-reserve_lights.ensures.there)
