use Rattle.std.proofs.Common.{length, sym, ap, ◌∙◌, arith}
use Rattle.cml_hub.proofs.Onward.{stands_begun, begun_is}
use Rattle.cml_hub.proofs.hub.Hub.begin.Goals as goal

pub add-requires-clause-next : goal.add-requires-clause-next
add-requires-clause-next c =
    sym (ap length (c.reserve.ensures.marks ∙ c.new-marks.ensures.marks))

pub add-requires-clause-room : goal.add-requires-clause-room
add-requires-clause-room c =
    omega (arith, c.in-Ok.ensures.room)

pub add-requires-clause-more : goal.add-requires-clause-more
add-requires-clause-more c =
    c.in-Ok.ensures.more

pub invariant_of-result : goal.invariant_of-result
invariant_of-result c =
    rw (
      c.add.ensures.marks,
      c.reserve.ensures.marks,
      c.new-marks.ensures.marks,
      c.add.ensures.queue,
      c.reserve.ensures.queue,
      c.new-marks.ensures.queue,
      c.new.ensures.items,
    )
    (stands_begun c.args.program c.in_ok-course.course c.args.budget c.args.watch c.in_ok-course.ensures.ok
    c.requires.budget c.requires.watch)

pub returns-in-Ok-clause-ok : goal.returns-in-Ok-clause-ok
returns-in-Ok-clause-ok c =
    rw (
      c.add.ensures.marks,
      c.reserve.ensures.marks,
      c.new-marks.ensures.marks,
      c.add.ensures.queue,
      c.reserve.ensures.queue,
      c.new-marks.ensures.queue,
      c.new.ensures.items,
    )
    (begun_is c.args.program c.in_ok-course.course c.args.budget c.args.watch c.in_ok-course.ensures.ok)

pub returns-in-Err-clause-err : goal.returns-in-Err-clause-err
returns-in-Err-clause-err c =
    c.into_program.ensures.program ∙ c.in_ok-course.ensures.ok.program
