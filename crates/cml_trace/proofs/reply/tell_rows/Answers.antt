use Rattle.std.proofs.Common.{rules, ◌≡◌, ◌++◌, ◌+◌, ◌∙◌, drop, get_or, ap, sym, length, codes}
use Rattle.std.specs.List.{flat_map}
use Rattle.cml_scan.specs.declared.meet.Meet.{Meet}
use Rattle.cml_scan.specs.declared.meet.Meet.TheVariants.{Single}
use Rattle.cml_trace.specs.Replies.{line, spaced, row_line, rows_text}
use Rattle.cml_trace.proofs.EngineLemmas.{on_err}
use Rattle.cml_trace.proofs.PageLemmas.{TellsStart-nothing, Told-start, Told-line, Told-begun, Told-stopped, next_text}
use Rattle.cml_trace.proofs.reply.tell_rows.Goals as goal

pub returns-in_err-line-clause-err : goal.returns-in_err-line-clause-err
returns-in_err-line-clause-err g c =
    on_err c.from_residual.result (TellsStart-nothing c.args.page.now (rows_text c.args.rows.now) (g.W.Write.contents c.args.writer.now.stream.now))

pub returns-in_err-add-clause-err : goal.returns-in_err-add-clause-err
returns-in_err-add-clause-err g c =
    let rows = flat_map row_line c.args.rows.now in
    let text : c.as_str.result.now ≡ line (codes "rows" ++ spaced (length c.args.rows.now)) = search rules in
    on_err c.from_residual-in_err-add.result
    (Told-begun (rows_text c.args.rows.now) _ rows c.as_str.result.now _ _ _ _ _ _ (Told-start (rows_text c.args.rows.now) c.args.page.now _) (ap (λ t. t ++ rows) (sym text)) c.in_err-add.ensures.err)

pub returns-in_err-push_row-clause-err : goal.returns-in_err-push_row-clause-err
returns-in_err-push_row-clause-err g c = on_err c.from_residual-in_err-push_row.result (Told-stopped _ _ _ _ _ _ c.loop-row.invariant.0)

pub returns-in_err-add-2-clause-err : goal.returns-in_err-add-2-clause-err
returns-in_err-add-2-clause-err g c =
    let i = c.loop-row.row-index in
    let rest = flat_map row_line (drop (i + 1) c.args.rows.now) in
    let nobody : Meet = Single (record { 0 = 0 }) 0 in
    let text : c.as_str-in-loop-row.result.now ≡ row_line (get_or c.args.rows.now i nobody) = search rules in
    let next : flat_map row_line (drop i c.args.rows.now) ≡ c.as_str-in-loop-row.result.now ++ rest =
    next_text row_line c.args.rows.now i nobody c.loop-row-test.true ∙ ap (λ t. t ++ rest) (sym text) in
    on_err c.from_residual-in_err-add-2.result (Told-begun _ _ rest c.as_str-in-loop-row.result.now _ _ _ _ _ _ c.loop-row.invariant.0 next c.in_err-add-2.ensures.err)

pub loop-row-preserved : goal.loop-row-preserved
loop-row-preserved g c =
    let i = c.loop-row.row-index in
    let rest = flat_map row_line (drop (i + 1) c.args.rows.now) in
    let nobody : Meet = Single (record { 0 = 0 }) 0 in
    let text : c.as_str-in-loop-row.result.now ≡ row_line (get_or c.args.rows.now i nobody) = search rules in
    let next : flat_map row_line (drop i c.args.rows.now) ≡ c.as_str-in-loop-row.result.now ++ rest =
    next_text row_line c.args.rows.now i nobody c.loop-row-test.true ∙ ap (λ t. t ++ rest) (sym text) in (
      Told-line _ _ rest c.as_str-in-loop-row.result.now _ _ _ _ _ _ c.loop-row.invariant.0 next c.in_ok-add-2.ensures.ok,
      c.add-in-loop-row.ensures.same_reference ∙ c.loop-row.invariant.1,
      c.in_ok-add-2.ensures.failed,
    )
