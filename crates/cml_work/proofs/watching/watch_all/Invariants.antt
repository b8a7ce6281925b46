use Rattle.std.proofs.Common.{◌≡◌}
use Rattle.std.specs.Io.KnownBytes.{Appends}
use Rattle.cml_work.specs.Marks.{BeginsWith, WasShown, shown_of}
use Rattle.cml_work.specs.Seen.{texts_of}
use Rattle.cml_work.proofs.watching.watch_all.Given as goal

-- the lines of those that were seen were written, and what the mark was shown begins with them
abbrev pub invariant-loop : goal.invariant-loop
invariant-loop g l =
    Appends (g.W.Write.contents l.fn.writer.stream.now) (g.W.Write.contents l.writer.stream.now) (texts_of l.seen.items)
    × WasShown g.O.Opening.board (shown_of l.mark) l.mark
    × BeginsWith (shown_of l.mark) l.seen.items
    × (l.writer.stream.ghost_name ≡ l.fn.writer.stream.ghost_name)
    × (l.writer.failed ≡ l.fn.writer.failed)
