use Rattle.std.proofs.Common.{refl}
use Rattle.cml_scan.specs.declared.meet.Meet.TheVariants.{Pair}
use Rattle.cml_hub.specs.Moves.{PartiesAway}
use Rattle.cml_hub.proofs.Marking.{away_still}
use Rattle.cml_hub.proofs.Played.{two_last}
use Rattle.cml_hub.proofs.hub.place_all.Goals as goal

pub make_ready-requires-clause-away : goal.make_ready-requires-clause-away
make_ready-requires-clause-away c =
    rw (c.in-Single.is) at c.requires.away

pub make_ready-requires-in-Pair-clause-away : goal.make_ready-requires-in-Pair-clause-away
make_ready-requires-in-Pair-clause-away c =
    let p : PartiesAway c.args.marks.now.marks (Pair c.in-Pair.head c.in-Pair.head_leaf c.in-Pair.other c.in-Pair.other_leaf) = rw (c.in-Pair.is) at c.requires.away in
    p.0

pub make_ready-requires-in-Pair-2-clause-away : goal.make_ready-requires-in-Pair-2-clause-away
make_ready-requires-in-Pair-2-clause-away c =
    let p : PartiesAway c.args.marks.now.marks (Pair c.in-Pair.head c.in-Pair.head_leaf c.in-Pair.other c.in-Pair.other_leaf) = rw (c.in-Pair.is) at c.requires.away in
    rw (c.make_ready-in-Pair.ensures.marks) (away_still c.args.marks.now.marks c.in-Pair.head.0 c.in-Pair.other.0 p.2 p.1)

pub returns-in-Single-clause-marks : goal.returns-in-Single-clause-marks
returns-in-Single-clause-marks c =
    rw (c.in-Single.is, c.make_ready.ensures.marks) refl

pub returns-in-Pair-clause-marks : goal.returns-in-Pair-clause-marks
returns-in-Pair-clause-marks c =
    rw (c.in-Pair.is, c.make_ready-in-Pair-2.ensures.marks, c.make_ready-in-Pair.ensures.marks) refl

pub returns-in-Single-clause-queue : goal.returns-in-Single-clause-queue
returns-in-Single-clause-queue c =
    rw (c.in-Single.is, c.make_ready.ensures.queue) refl

pub returns-in-Pair-clause-queue : goal.returns-in-Pair-clause-queue
returns-in-Pair-clause-queue c =
    rw (c.in-Pair.is, c.make_ready-in-Pair-2.ensures.queue, c.make_ready-in-Pair.ensures.queue) (two_last c.args.marks.now.queue c.in-Pair.head c.in-Pair.other)
