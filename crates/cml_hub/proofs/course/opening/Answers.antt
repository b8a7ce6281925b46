use Rattle.std.proofs.Common.{refl}
use Rattle.cml_step.specs.Calls.{text_of}
use Rattle.cml_hub.proofs.Opening.{main_is, spawned_first}
use Rattle.cml_hub.proofs.course.opening.Goals as goal

pub returns-in-Ok-spawn : goal.returns-in-Ok-spawn
returns-in-Ok-spawn c =
    let main = main_is c.args.program.now c.main.result c.main.ensures.found in
    let call = c.in-Ok.ensures.ok in
    record {
      first = c.in-Ok-start.machine;
      alone = rw (c.in_ok-push.ensures.items, c.new-machines.ensures.items) refl;
      zeroth = c.in-Ok-start.ensures.thread;
      term = rw (main) (rw (call, c.new.ensures.items) at c.in-Ok-start.ensures.term);
      stands = (c.in-Ok-start.ensures.fits, c.in-Ok-start.ensures.awaits);
      world = spawned_first (text_of c.args.program.now) c.new-threads.result c.spawn.new.self c.in-Ok-spawn.field-0 c.new-threads.ensures c.in-Ok-spawn.ensures;
    }
