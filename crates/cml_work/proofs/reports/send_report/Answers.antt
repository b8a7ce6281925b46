use Rattle.std.proofs.Common.{rules, ◌≡◌, ◌∙◌, ◌++◌, ℕ, List, Err, ap, subst, sym}
use Rattle.std.specs.List.{flat_map}
use Rattle.std.proofs.KnownBytes.{Appends-trans}
use Rattle.std.proofs.lemmas.List.Folds.{flat_map-map}
use Rattle.cml_schedule.specs.Reports.{report_row_line, wait_line}
use Rattle.cml_stream.specs.Streams.{stream, Takes, TakesStart}
use Rattle.cml_work.specs.Lines.{report_head, waits_line}
use Rattle.cml_work.specs.Seen.{IsSentOut}
use Rattle.cml_work.proofs.Sending.{start_behind, start_more, sent_behind}
use Rattle.cml_work.proofs.reports.send_report.Goals as goal

pub returns-in_err-send_line-clause-sent : goal.returns-in_err-send_line-clause-sent
returns-in_err-send_line-clause-sent g c =
    let a = g.W.Write.contents c.args.writer.now.stream.now in
    let b = g.W.Write.contents c.send_line.new.writer.stream.now in
    let r = c.args.report.now in
    let rows = flat_map report_row_line r.rows in
    let is : c.from_residual.result ≡ Err c.in_err-send_line.field-0.0 = search rules in
    let sent = subst (λ (ts : List ℕ). TakesStart (stream a b) ts) (c.as_str.ensures.value ∙ c.head_line.ensures) c.in_err-send_line.ensures.sent in
    rw is (start_more a b (report_head r ++ rows) (flat_map wait_line r.waiting) (start_more a b (report_head r) rows sent))

pub returns-in_err-send_rows-clause-sent : goal.returns-in_err-send_rows-clause-sent
returns-in_err-send_rows-clause-sent g c =
    let a = g.W.Write.contents c.args.writer.now.stream.now in
    let b = g.W.Write.contents c.send_line.new.writer.stream.now in
    let d = g.W.Write.contents c.send_rows.new.writer.stream.now in
    let r = c.args.report.now in
    let rows = flat_map report_row_line r.rows in
    let is : c.from_residual-in_err-send_rows.result ≡ Err c.in_err-send_rows.field-0.0 = search rules in
    let first = subst (λ (ts : List ℕ). Takes (stream a b) ts) (c.as_str.ensures.value ∙ c.head_line.ensures) c.in_ok-send_line.ensures.sent in
    let then = subst (λ (ts : List ℕ). TakesStart (stream b d) ts) (ap (flat_map report_row_line) c.rows.ensures) c.in_err-send_rows.ensures.sent in
    rw is (start_more a d (report_head r ++ rows) (flat_map wait_line r.waiting) (start_behind a b d (report_head r) rows first then))

pub returns-clause-sent : goal.returns-clause-sent
returns-clause-sent g c =
    let a = g.W.Write.contents c.args.writer.now.stream.now in
    let b = g.W.Write.contents c.send_line.new.writer.stream.now in
    let d = g.W.Write.contents c.send_rows.new.writer.stream.now in
    let e = g.W.Write.contents c.send_waiting.new.writer.stream.now in
    let r = c.args.report.now in
    let rows = flat_map report_row_line r.rows in
    let first = subst (λ (ts : List ℕ). Takes (stream a b) ts) (c.as_str.ensures.value ∙ c.head_line.ensures) c.in_ok-send_line.ensures.sent in
    let then = subst (λ (ts : List ℕ). Takes (stream b d) ts) (ap (flat_map report_row_line) c.rows.ensures) c.in_ok-send_rows.ensures.sent in
    let same : flat_map waits_line c.waiting.result.now ≡ flat_map wait_line r.waiting =
    sym (flat_map-map wait_line (λ t. t.0) c.waiting.result.now) ∙ ap (flat_map wait_line) c.waiting.ensures in
    let last = subst (λ (ts : List ℕ). IsSentOut ts c.send_waiting.result (stream d e)) same c.send_waiting.ensures.sent in
    sent_behind a d e (report_head r ++ rows) (flat_map wait_line r.waiting) c.send_waiting.result (Appends-trans a b d (report_head r) rows first then) last
