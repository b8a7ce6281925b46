use Rattle.std.proofs.Common.{◌∙◌}
use Rattle.cml_index.specs.Posts as spec
use Rattle.cml_index.proofs.Lit.{reserved_indexed}
use Rattle.cml_index.proofs.Forgotten.{all_out}
use Rattle.cml_index.proofs.state.IndexState.leave_only.Goals as goal

pub returns-in_err-reserve_lights-clause-indexed : goal.returns-in_err-reserve_lights-clause-indexed
returns-in_err-reserve_lights-clause-indexed c =
    reserved_indexed c.args.self.now.entries.items c.args.self.now.lanes c.args.self.now.live
    c.args.self.now.flags.entries c.reserve_lights.new.flags.entries c.args.self.now.leaves c.args.self.now.crossing
    c.args.self.now.lit c.requires.indexed c.reserve_lights.ensures.kept

pub tell_and_leave-requires-clause-indexed : goal.tell_and_leave-requires-clause-indexed
tell_and_leave-requires-clause-indexed c =
    reserved_indexed c.args.self.now.entries.items c.args.self.now.lanes c.args.self.now.live
    c.args.self.now.flags.entries c.reserve_lights.new.flags.entries c.args.self.now.leaves c.args.self.now.crossing
    c.args.self.now.lit c.requires.indexed c.reserve_lights.ensures.kept

pub tell_and_leave-requires-clause-there : goal.tell_and_leave-requires-clause-there
tell_and_leave-requires-clause-there c = record { there = c.requires.ready.there; once = c.requires.ready.once }

pub forget_all-requires-clause-out : goal.forget_all-requires-clause-out
forget_all-requires-clause-out c = all_out c.args.lit.now c.args.unlit.now
    (spec.told c.reserve_lights.new.flags.entries) (spec.told c.tell_and_leave.new.self.flags.entries)
    c.requires.ready.apart c.tell_and_leave.ensures.left.lights

pub forget_all-requires-clause-idle : goal.forget_all-requires-clause-idle
forget_all-requires-clause-idle c k = c.tell_and_leave.ensures.freed.late k ∙ c.requires.idle k
