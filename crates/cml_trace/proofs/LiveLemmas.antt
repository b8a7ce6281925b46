-- Turns of a live trace, one after another.
use Rattle.std.proofs.Common.{◌≡◌, ℕ, ◌+◌, ◌≤◌, Result, Ok, Err, OnErr, IfErr, List, [], ◌∷◌, ◌++◌, Option, Some}
use Rattle.std.proofs.Common.{None, length, refl, ap, sym, ◌∙◌, subst, inl, inr, ⊎_elim, append_assoc, append-nil}
use Rattle.std.proofs.Common.{length-append, arith}
use Rattle.std.specs.Result.{IsErrAnd}
use Rattle.std.specs.Io.KnownBytes.{Consumes, Keeps}
use Rattle.std.proofs.KnownBytes.{Appends-trans, Appends-nil, Appends-kept, Consumes-trans, Consumes-kept, Consumes-nil}
use Rattle.cml_scan.specs.World.{PlainWorld}
use Rattle.cml_book.specs.Step.{empty_world}
use Rattle.cml_text.specs.Laws.{SpelledOrFaulty}
use Rattle.cml_stream.specs.Streams.{Stream, stream, Supplies, IsSpent, Takes, TakesStart, IsUntouched}
use Rattle.cml_trace.specs.declared.fault.TraceEnd.{TraceEnd}
use Rattle.cml_trace.specs.declared.fault.TraceEnd.TheVariants.{Done, Bad, TooLong}
use Rattle.cml_trace.specs.declared.fault.TraceFault.{TraceFault}
use Rattle.cml_trace.specs.declared.fault.TraceFault.TheVariants.{Read, Turns, Write, Memory}
use Rattle.cml_trace.specs.Answers.{answer_to, after_order, trace_lines, Answers, AnswersTrace, AreDone, max_input}
use Rattle.cml_trace.specs.Laws.{LiveAnswersAsTrace}
use Rattle.cml_trace.specs.Faults.{IsWriteFailure}
use Rattle.cml_trace.specs.Lines.{TraceLines, HasNoFeed, lines_from}
use Rattle.cml_trace.specs.Live.{PlainBegun, TurnGoesOn, AnswersStart, Ends, TurnIsCut, IsTurnBroken, HasAnswered, IsHeardOut, LiveIsCut, LiveIsStopped}
use Rattle.cml_trace.specs.Runs.{AreWritten, AreWrittenTo}
use Rattle.cml_trace.proofs.AnswerLemmas.{has_answer}
use Rattle.cml_trace.proofs.DoneLemmas.{done_answers, done_leads, done_both, bad_whatever}
use Rattle.cml_trace.proofs.EngineLemmas.{all_written}
use Rattle.cml_trace.proofs.LineLemmas.{lines_both, line_alone, lines_on, few_more}

-- what answers some lines begins what answers them and those behind
record Extended (n : ℕ) (w : PlainWorld) (all : List (List ℕ)) (text : List ℕ) : Type 0 where
  more : List ℕ
  end : TraceEnd
  answered : Answers n w all (text ++ more) end

extended : SpelledOrFaulty → (n : ℕ) (w : PlainWorld) (some behind : List (List ℕ)) (text : List ℕ) (end : TraceEnd) → Answers n w some text end → Extended n w (some ++ behind) text
extended law n w [] behind text end a =
    let next = has_answer law n w behind in
    record { more = next.text; end = next.end; answered = subst (λ (t : List ℕ). Answers n w behind (t ++ next.text) next.end) (sym a.0) next.answered }
extended law n w (first ∷ some) behind text end (inl a) =
    let next = extended law (n + 1) (after_order a.0 w) some behind a.1 end a.4 in
    record {
      more = next.more;
      end = next.end;
      answered = inl (a.0, a.1 ++ next.more, a.2, ap (λ t. t ++ next.more) a.3 ∙ append_assoc (answer_to a.0 w) a.1 next.more, next.answered);
    }
extended law n w (first ∷ some) behind text end (inr a) =
    record { more = []; end = end; answered = inr (a.0, append-nil text ∙ a.1, a.2) }

start_more : (output : Stream) (text more : List ℕ) → TakesStart output text → TakesStart output (text ++ more)
start_more output text more t = (t.0, t.1 ++ more, ap (λ ts. ts ++ more) t.2 ∙ append_assoc t.0 t.1 more, t.3)

-- what was written begins what answers more lines, too
start_extended : SpelledOrFaulty → (n : ℕ) (w : PlainWorld) (some behind : List (List ℕ)) (output : Stream) (text : List ℕ) (end : TraceEnd) → Answers n w some text end → TakesStart output text →
    AnswersStart n w (some ++ behind) output
start_extended law n w some behind output text end a t =
    let whole = extended law n w some behind text end a in
    record { text = text ++ whole.more; end = whole.end; answered = whole.answered; written = start_more output text whole.more t }

-- the lines that more bytes make of those that were begun, where a line ended in them
lines_cut : (bytes given front rest ahead : List ℕ) → given ≡ front ++ 10 ∷ rest →
    trace_lines ((bytes ++ given) ++ ahead) ≡ trace_lines (bytes ++ front) ++ trace_lines (rest ++ ahead)
lines_cut bytes given front rest ahead is =
    ap (λ bs. trace_lines ((bytes ++ bs) ++ ahead)) is
    ∙ ap (λ bs. trace_lines (bs ++ ahead)) (sym (append_assoc bytes front (10 ∷ rest)))
    ∙ ap trace_lines (append_assoc (bytes ++ front) (10 ∷ rest) ahead)
    ∙ lines_both (bytes ++ front) (rest ++ ahead)

lines_ended : (bytes given front rest : List ℕ) → given ≡ front ++ 10 ∷ rest → HasNoFeed rest → trace_lines (bytes ++ given) ≡ trace_lines (bytes ++ front) ++ rest ∷ []
lines_ended bytes given front rest is none =
    ap (λ bs. trace_lines (bytes ++ bs)) is ∙ ap trace_lines (sym (append_assoc bytes front (10 ∷ rest)))
    ∙ lines_both (bytes ++ front) rest ∙ ap (λ ls. trace_lines (bytes ++ front) ++ ls) (line_alone rest none)

-- the lines that are answered in a turn
pub lines_are : (all : TraceLines) (n m : ℕ) (bs cs : List ℕ) → all ≡ record { number = n; left = trace_lines bs } → n ≡ m → bs ≡ cs → all ≡ lines_from m cs
lines_are all n m bs cs e number text = e ∙ ap (λ k. lines_from k bs) number ∙ ap (λ xs. lines_from m xs) text

-- nothing was written yet
pub cut_nothing : SpelledOrFaulty → (old : PlainBegun) (w : PlainWorld) (input : Stream) (given : List ℕ) (held : Option (List ℕ)) → Supplies input given → TurnIsCut old w input (stream held held)
cut_nothing law old w input given held came = record {
  given = given;
  came = came;
  begun = inr (λ ahead. let all = has_answer law old.number w (trace_lines ((old.bytes ++ given) ++ ahead)) in
      record { text = all.text; end = all.end; answered = all.answered; written = ([], all.text, refl, Appends-nil held) });
}

-- a prefix of what answers the lines that ended was written
pub cut_writing : SpelledOrFaulty → (old : PlainBegun) (w : PlainWorld) (input output : Stream) (given front rest : List ℕ) → Supplies input given → given ≡ front ++ 10 ∷ rest →
    AreWrittenTo (lines_from old.number (old.bytes ++ front)) w output → TurnIsCut old w input output
cut_writing law old w input output given front rest came is a = record {
  given = given;
  came = came;
  begun = inr (λ ahead. subst (λ (ls : List (List ℕ)). AnswersStart old.number w ls output) (sym (lines_cut old.bytes given front rest ahead is))
      (start_extended law old.number w (trace_lines (old.bytes ++ front)) (trace_lines (rest ++ ahead)) output a.text a.end a.answered a.written));
}

-- all of it was written
pub cut_written : SpelledOrFaulty → (old : PlainBegun) (w v : PlainWorld) (input output : Stream) (given front rest : List ℕ) (end : TraceEnd) → Supplies input given → given ≡ front ++ 10 ∷ rest →
    AreWritten (lines_from old.number (old.bytes ++ front)) w v output end → TurnIsCut old w input output
cut_written law old w v input output given front rest end came is a =
    cut_writing law old w input output given front rest came is (record { text = a.text; end = end; answered = a.answered; written = all_written output a.text a.written })

-- no line ended
pub on_no_line : (old new : PlainBegun) (w : PlainWorld) (input : Stream) (given : List ℕ) (held : Option (List ℕ)) → Supplies input given → HasNoFeed (old.bytes ++ given) →
    new ≡ record { number = old.number; bytes = old.bytes ++ given } → TurnGoesOn old new w w input (stream held held)
on_no_line old new w input given held came none is =
    let number : new.number ≡ old.number + 0 = ap (λ (b : PlainBegun). b.number) is ∙ (let same : old.number ≡ old.number + 0 = omega arith in same) in
    record {
      given = given;
      whole = [];
      text = [];
      came = came;
      lines = line_alone (old.bytes ++ given) none ∙ ap (λ (b : PlainBegun). b.bytes ∷ []) (sym is);
      number = number;
      answered = (refl, refl);
      written = Appends-nil held;
    }

-- lines ended, and none of them was bad
pub on_lines : (old new : PlainBegun) (w v : PlainWorld) (input output : Stream) (given front rest : List ℕ) (number : ℕ) → Supplies input given → given ≡ front ++ 10 ∷ rest → HasNoFeed rest →
    AreWritten (lines_from old.number (old.bytes ++ front)) w v output Done → number ≡ old.number + length (trace_lines (old.bytes ++ front)) →
    new ≡ record { number = number; bytes = rest } → TurnGoesOn old new w v input output
on_lines old new w v input output given front rest number came is none a count now = record {
  given = given;
  whole = trace_lines (old.bytes ++ front);
  text = a.text;
  came = came;
  lines = lines_ended old.bytes given front rest is none ∙ ap (λ (b : PlainBegun). trace_lines (old.bytes ++ front) ++ b.bytes ∷ []) (sym now);
  number = ap (λ (b : PlainBegun). b.number) now ∙ count;
  answered = a.leads refl;
  written = a.written;
}

pub kept_nothing : (a b : Option (List ℕ)) → Keeps a b → Consumes a b []
kept_nothing a b kept = Consumes-kept a a b [] (Consumes-nil a) kept

-- nothing came
pub on_nothing : (old : PlainBegun) (w : PlainWorld) (had has held : Option (List ℕ)) → HasNoFeed old.bytes → Keeps had has → TurnGoesOn old old w w (stream had has) (stream held held)
on_nothing old w had has held none kept =
    let number : old.number ≡ old.number + 0 = omega arith in
    record {
      given = [];
      whole = [];
      text = [];
      came = kept_nothing had has kept;
      lines = ap trace_lines (append-nil old.bytes) ∙ line_alone old.bytes none;
      number = number;
      answered = (refl, refl);
      written = Appends-nil held;
    }

pub few_ended : (old : PlainBegun) (given front rest : List ℕ) (number : ℕ) → given ≡ front ++ 10 ∷ rest → HasNoFeed old.bytes →
    number ≡ old.number + length (trace_lines (old.bytes ++ front)) → number ≤ old.number + length given
few_ended old given front rest number is none count =
    let few = few_more old.bytes front none in
    let all = ap length is ∙ length-append front (10 ∷ rest) in omega arith

-- a line that ended is bad
pub ends_bad : (old : PlainBegun) (w v : PlainWorld) (input output : Stream) (given front rest : List ℕ) (k : ℕ) → Supplies input given → given ≡ front ++ 10 ∷ rest →
    AreWritten (lines_from old.number (old.bytes ++ front)) w v output (Bad k) → Ends old w input output (Bad k)
ends_bad old w v input output given front rest k came is a = record {
  given = given;
  text = a.text;
  came = came;
  answered = inr (λ ahead. subst (λ (ls : List (List ℕ)). Answers old.number w ls a.text (Bad k)) (sym (lines_cut old.bytes given front rest ahead is))
      (bad_whatever old.number w (trace_lines (old.bytes ++ front)) a.text k (trace_lines (rest ++ ahead)) a.answered));
  written = a.written;
}

-- lines are never too long
pub never_long : (n : ℕ) (w : PlainWorld) (all : List (List ℕ)) (text : List ℕ) → Answers n w all text TooLong → ⊥
never_long n w [] text a = let clash = a.1 in cc
never_long n w (first ∷ all) text (inl a) = never_long (n + 1) (after_order a.0 w) all a.1 a.4
never_long n w (first ∷ all) text (inr a) = let clash = a.2 in cc

pub cut_last : (old : PlainBegun) (w : PlainWorld) (input output : Stream) → Supplies input [] → IsSpent input → AreWrittenTo (lines_from old.number old.bytes) w output → TurnIsCut old w input output
cut_last old w input output came spent a = record {
  given = [];
  came = came;
  begun = inl (
    spent,
    subst (λ (bs : List ℕ). AnswersStart old.number w (trace_lines bs) output) (sym (append-nil old.bytes))
        (record { text = a.text; end = a.end; answered = a.answered; written = a.written }),
  );
}

-- a fault that is none of reading
pub broken_cut : {A : Type 0} (r : Result A TraceFault) (old : PlainBegun) (w : PlainWorld) (input output : Stream) (failed : ℕ) → IsWriteFailure r failed → OnErr r (TurnIsCut old w input output) →
    IfErr r (IsTurnBroken old w input output)
broken_cut (Ok a) old w input output failed is cut = tt
broken_cut (Err Read) old w input output failed is cut = absurd is
broken_cut (Err Turns) old w input output failed is cut = absurd is
broken_cut (Err Write) old w input output failed is cut = cut
broken_cut (Err Memory) old w input output failed is cut = cut

-- Where a live trace stands between two turns.
pub record Talking (v : PlainWorld) (begun : PlainBegun) (input output : Stream) : Type 0 where
  pub heard : List ℕ
  pub whole : List (List ℕ)
  pub text : List ℕ
  pub came : Supplies input heard
  pub lines : trace_lines heard ≡ whole ++ begun.bytes ∷ []
  pub number : begun.number ≡ 1 + length whole
  pub done : AreDone empty_world whole text v
  pub written : Takes output text

pub Talking-start : (v : PlainWorld) (begun : PlainBegun) (had held : Option (List ℕ)) → v ≡ empty_world → begun
    ≡ record { number = 1; bytes = [] } → Talking v begun (stream had had) (stream held held)
Talking-start v begun had held empty first =
    let number : begun.number ≡ 1 + 0 = ap (λ (b : PlainBegun). b.number) first in
    record {
      heard = [];
      whole = [];
      text = [];
      came = Consumes-nil had;
      lines = ap (λ (b : PlainBegun). b.bytes ∷ []) (sym first);
      number = number;
      done = (refl, empty);
      written = Appends-nil held;
    }

module _ (v : PlainWorld) (begun : PlainBegun) (had left leaves held mid holds : Option (List ℕ)) (s : Talking v begun (stream had left) (stream held mid)) where
  -- what answers the bytes from here on answers all after what was written
  leads_on : (bytes text : List ℕ) (end : TraceEnd) → Answers begun.number v (trace_lines (begun.bytes ++ bytes)) text end → Answers 1 empty_world (trace_lines (s.heard ++ bytes)) (s.text ++ text) end
  leads_on bytes text end a =
      subst (λ (ls : List (List ℕ)). Answers 1 empty_world ls (s.text ++ text) end) (sym (lines_on s.heard bytes s.whole begun.bytes s.lines))
      (done_leads 1 empty_world s.whole s.text v s.done (trace_lines (begun.bytes ++ bytes)) text end
      (subst (λ (n : ℕ). Answers n v (trace_lines (begun.bytes ++ bytes)) text end) s.number a))

  pub Talking-on : (next : PlainBegun) (u : PlainWorld) → TurnGoesOn begun next v u (stream left leaves) (stream mid holds) → Talking u next (stream had leaves) (stream held holds)
  Talking-on next u t =
      let first = s.number in
      let longer = length-append s.whole t.whole in
      let more = t.number in
      let number : next.number ≡ 1 + length (s.whole ++ t.whole) = omega arith in
      record {
        heard = s.heard ++ t.given;
        whole = s.whole ++ t.whole;
        text = s.text ++ t.text;
        came = Consumes-trans had left leaves s.heard t.given s.came t.came;
        lines = lines_on s.heard t.given s.whole begun.bytes s.lines ∙ ap (λ ls. s.whole ++ ls) t.lines ∙ sym (append_assoc s.whole t.whole (next.bytes ∷ []));
        number = number;
        done = done_both empty_world v u s.whole t.whole s.text t.text s.done t.answered;
        written = Appends-trans held mid holds s.text t.text s.written t.written;
      }

  pub Talking-ends : (end : TraceEnd) → Ends begun v (stream left leaves) (stream mid holds) end → IsHeardOut (stream had leaves) (stream held holds) end
  Talking-ends end t = record {
    heard = s.heard ++ t.given;
    text = s.text ++ t.text;
    came = Consumes-trans had left leaves s.heard t.given s.came t.came;
    answered = ⊎_elim
        (λ (a : IsSpent (stream left leaves) × Answers begun.number v (trace_lines (begun.bytes ++ t.given)) t.text end). inl (a.0, leads_on t.given t.text end a.1))
        (λ (a : (ahead : List ℕ) → Answers begun.number v (trace_lines ((begun.bytes ++ t.given) ++ ahead)) t.text end). inr (λ ahead.
        subst (λ (bs : List ℕ). Answers 1 empty_world (trace_lines bs) (s.text ++ t.text) end) (sym (append_assoc s.heard t.given ahead))
        (leads_on (t.given ++ ahead) t.text end
        (subst (λ (bs : List ℕ). Answers begun.number v (trace_lines bs) t.text end) (append_assoc begun.bytes t.given ahead) (a ahead)))))
        t.answered;
    written = Appends-trans held mid holds s.text t.text s.written t.written;
  }

  start_on : (bytes : List ℕ) → AnswersStart begun.number v (trace_lines (begun.bytes ++ bytes)) (stream mid holds) → AnswersStart 1 empty_world (trace_lines (s.heard ++ bytes)) (stream held holds)
  start_on bytes a = record {
    text = s.text ++ a.text;
    end = a.end;
    answered = leads_on bytes a.text a.end a.answered;
    written = (
      s.text ++ a.written.0,
      a.written.1,
      ap (λ ts. s.text ++ ts) a.written.2 ∙ sym (append_assoc s.text a.written.0 a.written.1),
      Appends-trans held mid holds s.text a.written.0 s.written a.written.3,
    );
  }

  pub Talking-cut : TurnIsCut begun v (stream left leaves) (stream mid holds) → LiveIsCut (stream had leaves) (stream held holds)
  Talking-cut t = record {
    heard = s.heard ++ t.given;
    came = Consumes-trans had left leaves s.heard t.given s.came t.came;
    begun = ⊎_elim
        (λ (a : IsSpent (stream left leaves) × AnswersStart begun.number v (trace_lines (begun.bytes ++ t.given)) (stream mid holds)). inl (a.0, start_on t.given a.1))
        (λ (a : (ahead : List ℕ) → AnswersStart begun.number v (trace_lines ((begun.bytes ++ t.given) ++ ahead)) (stream mid holds)). inr (λ ahead.
        subst (λ (bs : List ℕ). AnswersStart 1 empty_world (trace_lines bs) (stream held holds)) (sym (append_assoc s.heard t.given ahead))
        (start_on (t.given ++ ahead)
        (subst (λ (bs : List ℕ). AnswersStart begun.number v (trace_lines bs) (stream mid holds)) (append_assoc begun.bytes t.given ahead) (a ahead)))))
        t.begun;
  }

  pub Talking-stands : IsUntouched (stream left leaves) → IsUntouched (stream mid holds) → HasAnswered (stream had leaves) (stream held holds)
  Talking-stands unread unwritten = record {
    heard = s.heard;
    whole = s.whole;
    begun = begun.bytes;
    text = s.text;
    came = Consumes-kept had left leaves s.heard s.came unread;
    lines = s.lines;
    answered = done_answers 1 empty_world s.whole s.text v s.done;
    written = Appends-kept held mid holds s.text s.written unwritten;
  }

  Talking-broken : (fault : TraceFault) → IsTurnBroken begun v (stream left leaves) (stream mid holds) fault → LiveIsStopped (stream had leaves) (stream held holds) fault
  Talking-broken Read t = Talking-stands t.0 t.1
  Talking-broken Turns t = absurd t
  Talking-broken Write t = Talking-cut t
  Talking-broken Memory t = Talking-cut t

  pub Talking-fault : (r : Result TraceEnd TraceFault) (fault : TraceFault) → IsErrAnd r (λ e. e ≡ fault) → IsTurnBroken begun v (stream left leaves) (stream mid holds) fault →
      IfErr r (LiveIsStopped (stream had leaves) (stream held holds))
  Talking-fault (Ok a) fault same t = tt
  Talking-fault (Err e) fault same t =
      subst (λ (f : TraceFault). LiveIsStopped (stream had leaves) (stream held holds) f) (sym same) (Talking-broken fault t)

-- what was heard out is answered as the trace that was there
live_answer : (all : List ℕ) (after : Option (List ℕ)) (output : Stream) (end : TraceEnd) → length all ≤ max_input → IsHeardOut (stream (Some all) after) output end →
    (text : List ℕ) × AnswersTrace all text end × Takes output text
live_answer all None output end short h = absurd h.came
live_answer all (Some rest) output end short h =
    let whole : all ≡ h.heard ++ rest = h.came in
    let answered : Answers 1 empty_world (trace_lines all) h.text end =
    ⊎_elim
    (λ (a : IsSpent (stream (Some all) (Some rest)) × Answers 1 empty_world (trace_lines h.heard) h.text end).
    let same : all ≡ h.heard = whole ∙ ap (λ bs. h.heard ++ bs) a.0 ∙ append-nil h.heard in
    subst (λ (bs : List ℕ). Answers 1 empty_world (trace_lines bs) h.text end) (sym same) a.1)
    (λ (a : (ahead : List ℕ) → Answers 1 empty_world (trace_lines (h.heard ++ ahead)) h.text end).
    subst (λ (bs : List ℕ). Answers 1 empty_world (trace_lines bs) h.text end) (sym whole) (a rest))
    h.answered in
    (h.text, inl (short, answered), h.written)

pub live_answers_as_trace : LiveAnswersAsTrace
live_answers_as_trace all after output end short h = live_answer all after output end short h
