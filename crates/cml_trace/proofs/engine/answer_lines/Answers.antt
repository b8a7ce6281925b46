use Rattle.std.proofs.Common.{◌∙◌, refl}
use Rattle.cml_scan.specs.Scan.{scan}
use Rattle.cml_book.specs.Step.{world_after}
use Rattle.cml_trace.specs.declared.batch.Stop.TheVariants as stop
use Rattle.cml_trace.specs.Batches.{Gathers}
use Rattle.cml_trace.specs.Pages.{Tells, TellsStart}
use Rattle.cml_trace.specs.Replies.{rows_text}
use Rattle.cml_stream.specs.Streams.{stream}
use Rattle.cml_trace.proofs.EngineLemmas.{on_err, Standing-start, Standing-batch, Standing-rows, answered_bad, answered_end, counted_end, begun_batch, begun_rows, begun_bad, begun_here}
use Rattle.cml_trace.proofs.engine.answer_lines.Goals as goal

pub loop-book-init : goal.loop-book-init
loop-book-init g c = (Standing-start c.args.book.now c.args.lines.now c.args.page.now (g.W.Write.contents c.args.writer.now.stream.now), refl, c.requires)

pub returns-in_err-do_commands-clause-err : goal.returns-in_err-do_commands-clause-err
returns-in_err-do_commands-clause-err g c =
    on_err c.from_residual.result
    (begun_batch c.spelled_or_faulty.ensures _ _ _ _ _ _ _ _ _ _ _ _ _ c.loop-book.invariant.0 c.gather-commands.ensures c.in_err-do_commands.ensures.err)

pub loop-book-preserved : goal.loop-book-preserved
loop-book-preserved g c =
    let commands = c.gather-commands.result.commands.items in
    let gathered : Gathers c.loop-book.lines c.gather-commands.new.lines commands stop.Rows = rw c.in-Rows.is at c.gather-commands.ensures in
    let here = Standing-batch _ _ _ _ _ _ _ _ _ _ _ _ _ c.loop-book.invariant.0 gathered c.in_ok-do_commands.ensures.ok in
    let output = stream (g.W.Write.contents c.do_commands.new.writer.stream.now) (g.W.Write.contents c.do_rows.new.writer.stream.now) in
    let told : Tells c.do_commands.new.page c.do_rows.new.page output (rows_text (scan (world_after commands c.loop-book.book))) =
    rw c.in_ok-do_commands.ensures.world at c.in_ok-do_rows-in-Rows.ensures.ok in (
      rw c.in_ok-do_commands.ensures.world (Standing-rows _ _ _ _ _ _ _ _ _ _ _ here gathered.stops told),
      c.do_rows.ensures.same_reference ∙ c.do_commands.ensures.same_reference ∙ c.loop-book.invariant.1,
      c.in_ok-do_rows-in-Rows.ensures.failed,
    )

pub returns-in_err-do_rows-in-Rows-clause-err : goal.returns-in_err-do_rows-in-Rows-clause-err
returns-in_err-do_rows-in-Rows-clause-err g c =
    let commands = c.gather-commands.result.commands.items in
    let gathered : Gathers c.loop-book.lines c.gather-commands.new.lines commands stop.Rows = rw c.in-Rows.is at c.gather-commands.ensures in
    let here = Standing-batch _ _ _ _ _ _ _ _ _ _ _ _ _ c.loop-book.invariant.0 gathered c.in_ok-do_commands.ensures.ok in
    let output = stream (g.W.Write.contents c.do_commands.new.writer.stream.now) (g.W.Write.contents c.do_rows.new.writer.stream.now) in
    let told : TellsStart c.do_commands.new.page c.do_rows.new.page output (rows_text (scan (world_after commands c.loop-book.book))) =
    rw c.in_ok-do_commands.ensures.world at c.in_err-do_rows-in-Rows.ensures.err in
    on_err c.from_residual-in_err-do_rows-in-Rows.result (begun_rows c.spelled_or_faulty.ensures _ _ _ _ _ _ _ _ _ _ _ here gathered.stops told)

pub returns-in_err-tell_bad-in-Bad-clause-err : goal.returns-in_err-tell_bad-in-Bad-clause-err
returns-in_err-tell_bad-in-Bad-clause-err g c =
    let commands = c.gather-commands.result.commands.items in
    let gathered : Gathers c.loop-book.lines c.gather-commands.new.lines commands (stop.Bad c.in-Bad.number) = rw c.in-Bad.is at c.gather-commands.ensures in
    let here = Standing-batch _ _ _ _ _ _ _ _ _ _ _ _ _ c.loop-book.invariant.0 gathered c.in_ok-do_commands.ensures.ok in
    on_err c.from_residual-in_err-tell_bad-in-Bad.result (begun_bad _ _ _ c.gather-commands.new.lines _ _ _ _ _ _ _ c.in-Bad.number here gathered.stops c.in_err-tell_bad-in-Bad.ensures.err)

pub returns-in-Bad-clause-ok : goal.returns-in-Bad-clause-ok
returns-in-Bad-clause-ok g c =
    let commands = c.gather-commands.result.commands.items in
    let gathered : Gathers c.loop-book.lines c.gather-commands.new.lines commands (stop.Bad c.in-Bad.number) = rw c.in-Bad.is at c.gather-commands.ensures in
    let here = Standing-batch _ _ _ _ _ _ _ _ _ _ _ _ _ c.loop-book.invariant.0 gathered c.in_ok-do_commands.ensures.ok in
    answered_bad _ _ _ _ c.gather-commands.new.lines _ _ _ _ _ _ _ c.in-Bad.number here gathered.stops c.in_ok-tell_bad-in-Bad.ensures.ok

pub returns-in-End-clause-ok : goal.returns-in-End-clause-ok
returns-in-End-clause-ok g c =
    let commands = c.gather-commands.result.commands.items in
    let gathered : Gathers c.loop-book.lines c.gather-commands.new.lines commands stop.End = rw c.in-End.is at c.gather-commands.ensures in
    let here = Standing-batch _ _ _ _ _ _ _ _ _ _ _ _ _ c.loop-book.invariant.0 gathered c.in_ok-do_commands.ensures.ok in
    rw c.in_ok-do_commands.ensures.world (answered_end _ _ _ c.gather-commands.new.lines _ _ _ _ _ here gathered.stops)

pub returns-in-End-clause-counted : goal.returns-in-End-clause-counted
returns-in-End-clause-counted g c =
    let commands = c.gather-commands.result.commands.items in
    let gathered : Gathers c.loop-book.lines c.gather-commands.new.lines commands stop.End = rw c.in-End.is at c.gather-commands.ensures in
    let here = Standing-batch _ _ _ _ _ _ _ _ _ _ _ _ _ c.loop-book.invariant.0 gathered c.in_ok-do_commands.ensures.ok in
    λ done. counted_end _ _ _ c.gather-commands.new.lines _ _ _ _ _ here gathered.stops

pub returns-in-Memory-clause-err : goal.returns-in-Memory-clause-err
returns-in-Memory-clause-err g c =
    let here = Standing-batch _ _ _ _ _ _ _ _ _ _ _ _ _ c.loop-book.invariant.0 c.gather-commands.ensures c.in_ok-do_commands.ensures.ok in
    begun_here c.spelled_or_faulty.ensures _ _ _ _ _ _ _ _ here
