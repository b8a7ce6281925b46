use Rattle.std.proofs.Common.{rules, ◌≡◌, ◌∙◌, ap, refl, arith}
use Rattle.std.specs.Result.{IsErrAnd}
use Rattle.std.proofs.KnownBytes.{Keeps-refl}
use Rattle.cml_trace.specs.Live.{PlainBegun}
use Rattle.cml_trace.proofs.LiveLemmas.{Talking-start, Talking-on, Talking-ends, Talking-stands, Talking-fault}
use Rattle.cml_trace.proofs.live.take_turns.Goals as goal

pub loop-init : goal.loop-init
loop-init g c = record {
  stands = Talking-start c.args.book.now c.args.begun.now _ _ c.requires.start.0 c.requires.start.1;
  room = omega (arith, ap (λ (b : PlainBegun). b.number) c.requires.start.1);
  calls = c.requires.uncalled.0;
  unread = c.requires.uncalled.1;
  unwritten = c.requires.uncalled.2;
  flushed = λ h. h;
  same_in = refl;
  same_out = refl;
}

pub returns-in_err-take_turn-clause-err : goal.returns-in_err-take_turn-clause-err
returns-in_err-take_turn-clause-err g c =
    let same : IsErrAnd c.from_residual.result (λ fault. fault ≡ c.in_err-take_turn.field-0.0) = search rules in
    Talking-fault c.loop.book c.loop.begun _ _ _ _ _ _ c.loop.invariant.stands c.from_residual.result c.in_err-take_turn.field-0.0 same c.in_err-take_turn.ensures.err

pub returns-in-End-clause-ok : goal.returns-in-End-clause-ok
returns-in-End-clause-ok g c =
    Talking-ends c.loop.book c.loop.begun _ _ _ _ _ _ c.loop.invariant.stands c.in-End.end (rw c.in-End.is at c.in_ok-take_turn.ensures.ok)

pub loop-preserved : goal.loop-preserved
loop-preserved g c = record {
  stands = Talking-on c.loop.book c.loop.begun _ _ _ _ _ _ c.loop.invariant.stands c.take_turn.new.begun c.take_turn.new.book (rw c.in-On.is at c.in_ok-take_turn.ensures.ok);
  room = omega (arith, c.in_ok-take_turn.ensures.room, c.loop.invariant.room);
  calls = search rules;
  unread = c.in_ok-take_turn.ensures.cause.0;
  unwritten = c.in_ok-take_turn.ensures.cause.1;
  flushed = λ h. c.in_ok-take_turn.ensures.flushed (c.loop.invariant.flushed h);
  same_in = c.take_turn.ensures.same.0 ∙ c.loop.invariant.same_in;
  same_out = c.take_turn.ensures.same.1 ∙ c.loop.invariant.same_out;
}

pub returns-clause-err : goal.returns-clause-err
returns-clause-err g c =
    Talking-stands c.loop.book c.loop.begun _ _ _ _ _ _ c.loop.invariant.stands (Keeps-refl _) (Keeps-refl _)
