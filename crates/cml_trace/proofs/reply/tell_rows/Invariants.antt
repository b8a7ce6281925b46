use Rattle.std.proofs.Common.{◌≡◌, drop}
use Rattle.std.specs.List.{flat_map}
use Rattle.cml_trace.specs.Replies.{row_line, rows_text}
use Rattle.cml_trace.proofs.PageLemmas.{Told}
use Rattle.cml_trace.proofs.reply.tell_rows.Given as goal

abbrev pub invariant-loop-row : goal.invariant-loop-row
invariant-loop-row g l =
    Told (rows_text l.rows) (flat_map row_line (drop l.row-index l.rows)) l.fn.page l.page
    (g.W.Write.contents l.fn.writer.stream.now) (g.W.Write.contents l.writer.stream.now)
    × (l.writer.stream.ghost_name ≡ l.fn.writer.stream.ghost_name)
    × (l.writer.failed ≡ 0)
