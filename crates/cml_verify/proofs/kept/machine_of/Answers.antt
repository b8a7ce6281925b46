use Rattle.std.proofs.Common.{Some, ap, sym, ◌∙◌}
use Rattle.cml_verify.specs.Places.{there}
use Rattle.cml_verify.proofs.kept.machine_of.Goals as goal

pub returns : goal.returns
returns c = sym (rw c.in-Some.is at c.machine.ensures.machine) ∙ ap (λ m. Some m) (sym c.in_ok-copy-in-Some.ensures)

pub unreachable-requires : goal.unreachable-requires
unreachable-requires c =
    let t = there c.args.hub.now.course.world.threads c.args.thread.0 c.requires in
    (rw c.in-None.is at c.machine.ensures.stands) t.0 t.1
