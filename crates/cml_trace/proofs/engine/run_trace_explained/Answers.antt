use Rattle.std.proofs.Common.{rules, ◌≡◌, ℕ, List, sym, subst}
use Rattle.cml_stream.specs.Streams.{stream}
use Rattle.cml_trace.specs.Runs.{Came}
use Rattle.cml_trace.proofs.EngineLemmas.{broken}
use Rattle.cml_trace.proofs.engine.run_trace_explained.Goals as goal

pub returns-clause-ok : goal.returns-clause-ok
returns-clause-ok g c =
    let input = stream (g.R.Read.remaining c.args.reader.now.stream.now) (g.R.Read.remaining c.read_all.new.reader.stream.now) in
    let same : c.as_slice.result.now ≡ c.in_ok-input.input.items = search rules in
    let all : Came input c.in_ok-input.input.items = record { given = c.in_ok-input.ensures.bytes; whole = c.in_ok-input.ensures.end } in
    let came = subst (λ (bytes : List ℕ). Came input bytes) (sym same) all in
    c.answer_and_tell-result.ensures.ok input came

pub returns-clause-err : goal.returns-clause-err
returns-clause-err g c =
    let input = stream (g.R.Read.remaining c.args.reader.now.stream.now) (g.R.Read.remaining c.read_all.new.reader.stream.now) in
    let output = stream (g.W.Write.contents c.args.writer.now.stream.now) (g.W.Write.contents c.answer_and_tell-result.new.writer.stream.now) in
    let same : c.as_slice.result.now ≡ c.in_ok-input.input.items = search rules in
    let all : Came input c.in_ok-input.input.items = record { given = c.in_ok-input.ensures.bytes; whole = c.in_ok-input.ensures.end } in
    let came = subst (λ (bytes : List ℕ). Came input bytes) (sym same) all in
    broken c.answer_and_tell-result.result input output c.answer_and_tell-result.new.writer.failed c.answer_and_tell-result.ensures.failed (c.answer_and_tell-result.ensures.err input came)
