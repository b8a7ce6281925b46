use Rattle.std.proofs.Common.{rules, ◌≡◌, List, [], OnOk, IfErr, subst}
use Rattle.std.specs.Result.{IsErrAnd}
use Rattle.cml_stream.specs.Streams.{stream}
use Rattle.cml_phrase.specs.Spots.{all_places}
use Rattle.cml_phrase.specs.declared.place.Place.{Place}
use Rattle.cml_stepper.specs.Steppers.{places_known}
use Rattle.cml_host.specs.Stepped.{IsNotHeld, TalksOut}
use Rattle.cml_trace.specs.declared.fault.TraceFault.TheVariants as fault
use Rattle.cml_host.proofs.TalkLemmas.{cut_start, err_as, on_ok}
use Rattle.cml_host.proofs.WriteLemmas.{writes_none}
use Rattle.cml_host.proofs.step.hold.Goals as goal

pub returns-in_err-stepper-clause-err : goal.returns-in_err-stepper-clause-err
returns-in_err-stepper-clause-err g c =
    let s = all_places c.args.subject.now.text.items c.args.subject.now.forms.items in
    let had = g.I.Read.remaining c.args.input.now.stream.now in
    let held = g.O.Write.contents c.args.out.now.stream.now in
    let same : IsErrAnd c.from_residual.result (λ e. e ≡ fault.Memory) = search rules in
    err_as c.from_residual.result fault.Memory (IsNotHeld s c.args.hub.now (stream had had) (stream held held)) same (cut_start s c.args.hub.now had (stream held held) (writes_none held))

pub talk-result-requires-clause-there : goal.talk-result-requires-clause-there
talk-result-requires-clause-there g c = c.in_ok-stepper.ensures.there c.args.hub.now.course c.requires.start

pub returns-clause-ok : goal.returns-clause-ok
returns-clause-ok g c =
    let places : places_known c.in_ok-stepper.stepper ≡ all_places c.args.subject.now.text.items c.args.subject.now.forms.items = search rules in
    let given = stream (g.I.Read.remaining c.args.input.now.stream.now) (g.I.Read.remaining c.talk-result.new.input.stream.now) in
    let output = stream (g.O.Write.contents c.args.out.now.stream.now) (g.O.Write.contents c.talk-result.new.out.stream.now) in
    subst (λ (s : List (List Place)). OnOk c.talk-result.result (TalksOut s c.args.hub.now [] c.talk-result.new.hub given output)) places c.talk-result.ensures.ok

pub returns-clause-err : goal.returns-clause-err
returns-clause-err g c =
    let places : places_known c.in_ok-stepper.stepper ≡ all_places c.args.subject.now.text.items c.args.subject.now.forms.items = search rules in
    let given = stream (g.I.Read.remaining c.args.input.now.stream.now) (g.I.Read.remaining c.talk-result.new.input.stream.now) in
    let output = stream (g.O.Write.contents c.args.out.now.stream.now) (g.O.Write.contents c.talk-result.new.out.stream.now) in
    subst (λ (s : List (List Place)). IfErr c.talk-result.result (IsNotHeld s c.args.hub.now given output)) places c.talk-result.ensures.err

pub returns-clause-leads : goal.returns-clause-leads
returns-clause-leads g c = on_ok c.talk-result.result _ c.schedule-led.ensures.leads
