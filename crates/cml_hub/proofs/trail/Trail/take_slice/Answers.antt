use Rattle.std.proofs.Common.{ap, ◌∙◌, ◌≡◌}
use Rattle.cml_hub.proofs.Turning.{slice_here}
use Rattle.cml_hub.proofs.trail.Trail.take_slice.Goals as goal

pub prepare-requires-clause-running : goal.prepare-requires-clause-running
prepare-requires-clause-running c = rw (c.thread-thread.ensures ∙ ap (λ m. m.thread) c.start.ensures) c.requires.running

pub prepare-requires-clause-ready : goal.prepare-requires-clause-ready
prepare-requires-clause-ready c =
    let slice = slice_here c.args.program.now c.args.ran.now c.requires.program c.steps-steps.ensures.meant in
    record {
      fits = rw c.end.ensures slice.fits;
      awaits = rw (c.end.ensures, c.ask.ensures) slice.awaits;
      agrees = rw c.ask.ensures slice.agrees;
    }

pub returns-in_err-prepared-clause-keeps : goal.returns-in_err-prepared-clause-keeps
returns-in_err-prepared-clause-keeps c =
    let k = c.reserve.ensures.keeps in
    record { items = k.items; machines = k.machines; output = c.prepare.ensures.bytes ∙ k.output; used = k.used; origins = k.origins; faults = k.faults }

pub returns-clause-keeps : goal.returns-clause-keeps
returns-clause-keeps c =
    let k = c.reserve.ensures.keeps in
    record { items = k.items; machines = k.machines; output = c.prepare.ensures.bytes ∙ k.output; used = k.used; origins = k.origins; faults = k.faults }

pub returns-clause-done : goal.returns-clause-done
returns-clause-done c =
    let number : c.thread-thread.result.0 ≡ c.args.ran.now.start.thread = c.thread-thread.ensures ∙ ap (λ m. m.thread) c.start.ensures in
    rw (number, c.ask.ensures, c.end.ensures) at c.in_ok-prepared.ensures.ok

pub returns-clause-room : goal.returns-clause-room
returns-clause-room c =
    let r = c.in_ok-reserve.ensures.room in
    record { lists = record { items = r.items; machines = r.machines; origins = r.origins }; output = c.in_ok-prepared.ensures.room }
