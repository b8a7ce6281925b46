use Rattle.std.proofs.Common.{rules, ◌≡◌, ◌+◌, ◌++◌, ◌∙◌, length, ap, subst, arith}
use Rattle.std.proofs.lemmas.List.Elements.{All-append}
use Rattle.cml_stream.specs.Streams.{stream}
use Rattle.cml_trace.specs.declared.fault.TraceEnd.{TraceEnd}
use Rattle.cml_trace.specs.declared.fault.TraceEnd.TheVariants.{Done, Bad, TooLong}
use Rattle.cml_trace.specs.Answers.{trace_lines}
use Rattle.cml_trace.specs.Lines.{TraceLines, lines_from}
use Rattle.cml_trace.specs.Live.{PlainBegun}
use Rattle.cml_trace.specs.Runs.{AreWritten, AreWrittenTo}
use Rattle.cml_trace.proofs.EngineLemmas.{on_err}
use Rattle.cml_trace.proofs.LiveLemmas.{lines_are, cut_nothing, cut_writing, cut_written, on_no_line, on_lines, few_ended, ends_bad, never_long}
use Rattle.cml_trace.proofs.live.hear.Goals as goal

pub returns-in_err-add-in-None-clause-err : goal.returns-in_err-add-in-None-clause-err
returns-in_err-add-in-None-clause-err g c = λ input came.
    on_err c.from_residual.result (cut_nothing c.spelled_or_faulty.ensures c.args.begun.now c.args.book.now input c.args.given.now _ came)

pub returns-in_ok-add-in-None-clause-ok : goal.returns-in_ok-add-in-None-clause-ok
returns-in_ok-add-in-None-clause-ok g c = λ input came.
    on_no_line c.args.begun.now c.add.new.self c.args.book.now input c.args.given.now _ came
    (All-append (λ b. b ≡ 10 → ⊥) c.args.begun.now.bytes c.args.given.now c.is_not_ended.ensures c.in-None.ensures.none) c.in_ok-add-in-None.ensures

pub returns-in_err-extend_from_slice-in-Some-clause-err : goal.returns-in_err-extend_from_slice-in-Some-clause-err
returns-in_err-extend_from_slice-in-Some-clause-err g c = λ input came.
    on_err c.from_residual-in_err-extend_from_slice-in-Some.result
    (cut_nothing c.spelled_or_faulty.ensures c.args.begun.now c.args.book.now input c.args.given.now _ came)

pub returns-in_err-answer_now-in-Some-clause-err : goal.returns-in_err-answer_now-in-Some-clause-err
returns-in_err-answer_now-in-Some-clause-err g c = λ input came.
    let old = c.args.begun.now in
    let number : c.number.result ≡ old.number = c.number.ensures ∙ ap (λ (b : PlainBegun). b.number) c.take-text.ensures.left in
    let text : c.as_slice.result.now ≡ old.bytes ++ c.in-Some.front.now = search rules in
    let lines : c.new-lines.result ≡ lines_from old.number (old.bytes ++ c.in-Some.front.now) = lines_are c.new-lines.result _ _ _ _ c.new-lines.ensures number text in
    let output = stream (g.W.Write.contents c.args.writer.now.stream.now) (g.W.Write.contents c.answer_now.new.writer.stream.now) in
    let written : AreWrittenTo (lines_from old.number (old.bytes ++ c.in-Some.front.now)) c.args.book.now output =
    subst (λ (ls : TraceLines). AreWrittenTo ls c.args.book.now output) lines c.in_err-answer_now-in-Some.ensures.err in
    on_err c.from_residual-in_err-answer_now-in-Some.result
    (cut_writing c.spelled_or_faulty.ensures old c.args.book.now input output c.args.given.now c.in-Some.front.now c.in-Some.rest.now came c.in-Some.ensures.cut written)

pub returns-in_err-extend_from_slice-in-Done-clause-err : goal.returns-in_err-extend_from_slice-in-Done-clause-err
returns-in_err-extend_from_slice-in-Done-clause-err g c = λ input came.
    let old = c.args.begun.now in
    let number : c.number.result ≡ old.number = c.number.ensures ∙ ap (λ (b : PlainBegun). b.number) c.take-text.ensures.left in
    let text : c.as_slice.result.now ≡ old.bytes ++ c.in-Some.front.now = search rules in
    let lines : c.new-lines.result ≡ lines_from old.number (old.bytes ++ c.in-Some.front.now) = lines_are c.new-lines.result _ _ _ _ c.new-lines.ensures number text in
    let output = stream (g.W.Write.contents c.args.writer.now.stream.now) (g.W.Write.contents c.answer_now.new.writer.stream.now) in
    let written : AreWritten (lines_from old.number (old.bytes ++ c.in-Some.front.now)) c.args.book.now c.answer_now.new.book output c.in_ok-answer_now-in-Some.field-0 =
    subst (λ (ls : TraceLines). AreWritten ls c.args.book.now c.answer_now.new.book output c.in_ok-answer_now-in-Some.field-0) lines c.in_ok-answer_now-in-Some.ensures.ok in
    on_err c.from_residual-in_err-extend_from_slice-in-Done.result
    (cut_written c.spelled_or_faulty.ensures old c.args.book.now c.answer_now.new.book input output c.args.given.now c.in-Some.front.now c.in-Some.rest.now _ came c.in-Some.ensures.cut written)

pub returns-in_ok-extend_from_slice-in-Done-clause-ok : goal.returns-in_ok-extend_from_slice-in-Done-clause-ok
returns-in_ok-extend_from_slice-in-Done-clause-ok g c = λ input came.
    let old = c.args.begun.now in
    let number : c.number.result ≡ old.number = c.number.ensures ∙ ap (λ (b : PlainBegun). b.number) c.take-text.ensures.left in
    let text : c.as_slice.result.now ≡ old.bytes ++ c.in-Some.front.now = search rules in
    let lines : c.new-lines.result ≡ lines_from old.number (old.bytes ++ c.in-Some.front.now) = lines_are c.new-lines.result _ _ _ _ c.new-lines.ensures number text in
    let output = stream (g.W.Write.contents c.args.writer.now.stream.now) (g.W.Write.contents c.answer_now.new.writer.stream.now) in
    let written : AreWritten (lines_from old.number (old.bytes ++ c.in-Some.front.now)) c.args.book.now c.answer_now.new.book output Done =
    subst (λ (end : TraceEnd). AreWritten (lines_from old.number (old.bytes ++ c.in-Some.front.now)) c.args.book.now c.answer_now.new.book output end) c.in-Done.is
    (subst (λ (ls : TraceLines). AreWritten ls c.args.book.now c.answer_now.new.book output c.in_ok-answer_now-in-Some.field-0) lines c.in_ok-answer_now-in-Some.ensures.ok) in
    let count : c.number-number.result ≡ old.number + length (trace_lines (old.bytes ++ c.in-Some.front.now)) =
    c.number-number.ensures ∙ c.in_ok-answer_now-in-Some.ensures.counted c.in-Done.is ∙ ap (λ (ls : TraceLines). ls.number + length ls.left) lines in
    let rest : c.extend_from_slice-in-Done.new.self.items ≡ c.in-Some.rest.now = search rules in
    on_lines old c.go_on.new.self c.args.book.now c.answer_now.new.book input output c.args.given.now c.in-Some.front.now c.in-Some.rest.now c.number-number.result came c.in-Some.ensures.cut
    c.in-Some.ensures.last written count (c.go_on.ensures ∙ ap (λ bs. record { number = c.number-number.result; bytes = bs }) rest)

pub returns-in_ok-extend_from_slice-in-Done-clause-room : goal.returns-in_ok-extend_from_slice-in-Done-clause-room
returns-in_ok-extend_from_slice-in-Done-clause-room g c =
    let old = c.args.begun.now in
    let number : c.number.result ≡ old.number = c.number.ensures ∙ ap (λ (b : PlainBegun). b.number) c.take-text.ensures.left in
    let text : c.as_slice.result.now ≡ old.bytes ++ c.in-Some.front.now = search rules in
    let lines : c.new-lines.result ≡ lines_from old.number (old.bytes ++ c.in-Some.front.now) = lines_are c.new-lines.result _ _ _ _ c.new-lines.ensures number text in
    let count : c.number-number.result ≡ old.number + length (trace_lines (old.bytes ++ c.in-Some.front.now)) =
    c.number-number.ensures ∙ c.in_ok-answer_now-in-Some.ensures.counted c.in-Done.is ∙ ap (λ (ls : TraceLines). ls.number + length ls.left) lines in
    let few = few_ended old c.args.given.now c.in-Some.front.now c.in-Some.rest.now c.number-number.result c.in-Some.ensures.cut c.is_not_ended.ensures count in
    let now = ap (λ (b : PlainBegun). b.number) c.go_on.ensures in
    omega (arith, few, now)

pub returns-in-Bad-clause-ok : goal.returns-in-Bad-clause-ok
returns-in-Bad-clause-ok g c = λ input came.
    let old = c.args.begun.now in
    let number : c.number.result ≡ old.number = c.number.ensures ∙ ap (λ (b : PlainBegun). b.number) c.take-text.ensures.left in
    let text : c.as_slice.result.now ≡ old.bytes ++ c.in-Some.front.now = search rules in
    let lines : c.new-lines.result ≡ lines_from old.number (old.bytes ++ c.in-Some.front.now) = lines_are c.new-lines.result _ _ _ _ c.new-lines.ensures number text in
    let output = stream (g.W.Write.contents c.args.writer.now.stream.now) (g.W.Write.contents c.answer_now.new.writer.stream.now) in
    let written : AreWritten (lines_from old.number (old.bytes ++ c.in-Some.front.now)) c.args.book.now c.answer_now.new.book output (Bad c.in-Bad.number) =
    subst (λ (end : TraceEnd). AreWritten (lines_from old.number (old.bytes ++ c.in-Some.front.now)) c.args.book.now c.answer_now.new.book output end) c.in-Bad.is
    (subst (λ (ls : TraceLines). AreWritten ls c.args.book.now c.answer_now.new.book output c.in_ok-answer_now-in-Some.field-0) lines c.in_ok-answer_now-in-Some.ensures.ok) in
    ends_bad old c.args.book.now c.answer_now.new.book input output c.args.given.now c.in-Some.front.now c.in-Some.rest.now c.in-Bad.number came c.in-Some.ensures.cut written

pub returns-in-TooLong-clause-ok : goal.returns-in-TooLong-clause-ok
returns-in-TooLong-clause-ok g c = λ input came.
    let output = stream (g.W.Write.contents c.args.writer.now.stream.now) (g.W.Write.contents c.answer_now.new.writer.stream.now) in
    let written : AreWritten c.new-lines.result c.args.book.now c.answer_now.new.book output TooLong =
    subst (λ (end : TraceEnd). AreWritten c.new-lines.result c.args.book.now c.answer_now.new.book output end) c.in-TooLong.is c.in_ok-answer_now-in-Some.ensures.ok in
    absurd (never_long c.new-lines.result.number c.args.book.now c.new-lines.result.left written.text written.answered)
