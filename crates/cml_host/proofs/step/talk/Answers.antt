use Rattle.std.proofs.Common.{rules, ◌≡◌, ◌∙◌, ℕ, true, false, List, [], sym, subst}
use Rattle.std.specs.Result.{IsErrAnd}
use Rattle.cml_stream.specs.Streams.{stream}
use Rattle.cml_stepper.specs.Steppers.{places_known}
use Rattle.cml_host.specs.Stepped.{IsNotHeld, TalksOn}
use Rattle.cml_host.proofs.TalkLemmas.{cut_start, err_as, lost_turn, on_start, on_turn, out_turn, turn_lost, turn_on, turn_over}
use Rattle.cml_trace.specs.declared.fault.TraceFault.TheVariants as fault
use Rattle.cml_host.proofs.WriteLemmas.{writes_none}
use Rattle.cml_host.proofs.step.talk.Goals as goal

pub returns-in_err-asked-clause-err : goal.returns-in_err-asked-clause-err
returns-in_err-asked-clause-err g c =
    let s = places_known c.args.stepper.now in
    let had = g.I.Read.remaining c.args.input.now.stream.now in
    let output = stream (g.O.Write.contents c.args.out.now.stream.now) (g.O.Write.contents c.args.out.now.stream.now) in
    let same : IsErrAnd c.from_residual.result (λ e. e ≡ fault.Memory) = search rules in
    err_as c.from_residual.result fault.Memory (IsNotHeld s c.args.hub.now (stream had had) output) same (cut_start s c.args.hub.now had output (writes_none _))

pub returns-in_err-send-clause-err : goal.returns-in_err-send-clause-err
returns-in_err-send-clause-err g c =
    let s = places_known c.args.stepper.now in
    let had = g.I.Read.remaining c.args.input.now.stream.now in
    let output = stream (g.O.Write.contents c.args.out.now.stream.now) (g.O.Write.contents c.send.new.out.stream.now) in
    let same : IsErrAnd c.from_residual-in_err-send.result (λ e. e ≡ fault.Write) = search rules in
    err_as c.from_residual-in_err-send.result fault.Write (IsNotHeld s c.args.hub.now (stream had had) output) same (cut_start s c.args.hub.now had output c.send.ensures.wrote)

pub loop-init : goal.loop-init
loop-init g c =
    let s = places_known c.args.stepper.now in
    let hub = c.args.hub.now in
    let had = g.I.Read.remaining c.args.input.now.stream.now in
    let output = stream (g.O.Write.contents c.args.out.now.stream.now) (g.O.Write.contents c.send.new.out.stream.now) in
    let none : c.new-typed.result.items ≡ [] = search rules in
    record {
      stands = subst (λ (bs : List ℕ). TalksOn s hub [] bs hub (stream had had) output) (sym none) (on_start s hub had output c.send.ensures.wrote);
      script = search rules;
      none_out = c.requires.none_out;
      there = c.requires.there;
      calls = c.requires.uncalled.0;
      unread = c.requires.uncalled.1;
      unwritten = search rules;
      flushed = search rules;
      same_in = search rules;
      same_out = search rules;
    }

pub returns-in_err-take_turn-clause-err : goal.returns-in_err-take_turn-clause-err
returns-in_err-take_turn-clause-err g c =
    let s = places_known c.args.stepper.now in
    let had = g.I.Read.remaining c.args.input.now.stream.now in
    let has = g.I.Read.remaining c.loop.input.stream.now in
    let have = g.I.Read.remaining c.take_turn.new.input.stream.now in
    let held = g.O.Write.contents c.args.out.now.stream.now in
    let hold = g.O.Write.contents c.loop.out.stream.now in
    let holds = g.O.Write.contents c.take_turn.new.out.stream.now in
    let why = c.in_err-take_turn.field-0.0 in
    let same : IsErrAnd c.from_residual-in_err-take_turn.result (λ e. e ≡ why) = search rules in
    err_as c.from_residual-in_err-take_turn.result why (IsNotHeld s c.args.hub.now (stream had have) (stream held holds)) same
    (lost_turn s c.args.hub.now c.loop.typed.items c.loop.hub had has have held hold holds why c.loop.invariant.stands
    (turn_lost (places_known c.loop.stepper) s c.loop.hub c.loop.typed.items (stream has have) (stream hold holds) why c.loop.invariant.script c.in_err-take_turn.ensures.err))

pub returns-then-branch-clause-ok : goal.returns-then-branch-clause-ok
returns-then-branch-clause-ok g c =
    let s = places_known c.args.stepper.now in
    let had = g.I.Read.remaining c.args.input.now.stream.now in
    let has = g.I.Read.remaining c.loop.input.stream.now in
    let have = g.I.Read.remaining c.take_turn.new.input.stream.now in
    let held = g.O.Write.contents c.args.out.now.stream.now in
    let hold = g.O.Write.contents c.loop.out.stream.now in
    let holds = g.O.Write.contents c.take_turn.new.out.stream.now in
    let over : c.in_ok-take_turn.field-0 ≡ true = search rules in
    out_turn s c.args.hub.now [] c.loop.typed.items c.loop.hub had has have held hold holds c.loop.invariant.stands c.take_turn.new.hub
    (turn_over (places_known c.loop.stepper) s c.loop.hub c.loop.typed.items c.take_turn.new.typed.items c.in_ok-take_turn.field-0 c.take_turn.new.hub (stream has have) (stream hold holds)
    c.loop.invariant.script over c.in_ok-take_turn.ensures.ok)

pub loop-preserved : goal.loop-preserved
loop-preserved g c =
    let s = places_known c.args.stepper.now in
    let had = g.I.Read.remaining c.args.input.now.stream.now in
    let has = g.I.Read.remaining c.loop.input.stream.now in
    let have = g.I.Read.remaining c.take_turn.new.input.stream.now in
    let held = g.O.Write.contents c.args.out.now.stream.now in
    let hold = g.O.Write.contents c.loop.out.stream.now in
    let holds = g.O.Write.contents c.take_turn.new.out.stream.now in
    let on : c.in_ok-take_turn.field-0 ≡ false = search rules in
    record {
      stands = on_turn s c.args.hub.now [] c.loop.typed.items c.loop.hub had has have held hold holds c.loop.invariant.stands c.take_turn.new.typed.items c.take_turn.new.hub
          (turn_on (places_known c.loop.stepper) s c.loop.hub c.loop.typed.items c.take_turn.new.typed.items c.in_ok-take_turn.field-0 c.take_turn.new.hub (stream has have) (stream hold holds)
          c.loop.invariant.script on c.in_ok-take_turn.ensures.ok);
      script = c.in_ok-take_turn.ensures.ready.0 ∙ c.loop.invariant.script;
      none_out = c.in_ok-take_turn.ensures.ready.1;
      there = c.in_ok-take_turn.ensures.ready.2;
      calls = search rules;
      unread = c.in_ok-take_turn.ensures.cause.0;
      unwritten = c.in_ok-take_turn.ensures.cause.1;
      flushed = c.in_ok-take_turn.ensures.flushed c.loop.invariant.flushed;
      same_in = c.take_turn.ensures.same.0 ∙ c.loop.invariant.same_in;
      same_out = c.take_turn.ensures.same.1 ∙ c.loop.invariant.same_out;
    }

pub returns-clause-err : goal.returns-clause-err
returns-clause-err g c = (c.loop.typed.items, c.loop.hub, c.loop.invariant.stands)
