use Rattle.std.proofs.Common.{rules, ◌≡◌, ◌≢◌, ◌++◌, ℕ, List, [], ◌∷◌, subst}
use Rattle.cml_stream.specs.Streams.{stream}
use Rattle.cml_stepper.specs.Steppers.{places_known}
use Rattle.cml_host.specs.Stepped.{IsAnsweredBy, IsUnanswered}
use Rattle.cml_host.proofs.SayLemmas.{on_err}
use Rattle.cml_host.proofs.TalkLemmas.{cut_answer, cut_before, feed_alone, line_answered, typed_on}
use Rattle.cml_host.proofs.WriteLemmas.{writes_none}
use Rattle.cml_host.proofs.step.type_byte.Goals as goal

pub returns-in_err-extend_from_slice-clause-err : goal.returns-in_err-extend_from_slice-clause-err
returns-in_err-extend_from_slice-clause-err g c = λ given came.
    on_err c.from_residual.result _ (cut_before (places_known c.args.stepper.now) c.args.hub.now c.args.typed.now.items (c.args.byte ∷ []) given _ came (writes_none _))

pub returns-then-byte-ne10-clause-ok : goal.returns-then-byte-ne10-clause-ok
returns-then-byte-ne10-clause-ok g c = λ given came.
    let other : c.args.byte ≢ 10 = search rules in
    let longer : c.extend_from_slice.new.self.items ≡ c.args.typed.now.items ++ c.args.byte ∷ [] = search rules in
    typed_on (places_known c.args.stepper.now) c.args.hub.now c.args.typed.now.items _ c.args.byte given _ other longer came

pub returns-in_err-ends-clause-err : goal.returns-in_err-ends-clause-err
returns-in_err-ends-clause-err g c = λ given came.
    let s = places_known c.args.stepper.now in
    let begun = c.args.typed.now.items in
    let output = stream (g.O.Write.contents c.args.out.now.stream.now) (g.O.Write.contents c.reply.new.out.stream.now) in
    let feed : c.args.byte ≡ 10 = search rules in
    on_err c.from_residual-in_err-ends.result _
    (cut_answer s c.args.hub.now begun (c.args.byte ∷ []) given _ _ (feed_alone begun c.args.byte feed) came
    (subst (λ (line : List ℕ). IsUnanswered s c.args.hub.now line output) c.as_slice.ensures.value c.in_err-ends.ensures.err))

pub returns-clause-ok : goal.returns-clause-ok
returns-clause-ok g c = λ given came.
    let s = places_known c.args.stepper.now in
    let begun = c.args.typed.now.items in
    let output = stream (g.O.Write.contents c.args.out.now.stream.now) (g.O.Write.contents c.reply.new.out.stream.now) in
    let feed : c.args.byte ≡ 10 = search rules in
    line_answered s c.args.hub.now begun c.clear.new.self.items c.args.byte c.in_ok-ends.ends c.reply.new.hub given output feed c.clear.ensures.items came
    (subst (λ (line : List ℕ). IsAnsweredBy s c.args.hub.now line c.in_ok-ends.ends c.reply.new.hub) c.as_slice.ensures.value c.in_ok-ends.ensures.ok.0) c.in_ok-ends.ensures.ok.1
