-- Going through a run by hand, turn by turn.
use Rattle.std.proofs.Common.{◌≡◌, ◌≢◌, inl, inr, ℕ, zero, suc, ◌==◌, ◌<◌, ◌≤◌, Bool, true, false, cond, List, [], ◌∷◌, ◌++◌}
use Rattle.std.proofs.Common.{length, get_or, take, Option, Result, Ok, Err, OnOk, OnErr, IfErr, refl, sym, ap, subst, ◌∙◌}
use Rattle.std.proofs.Common.{append_assoc, arith}
use Rattle.std.specs.Io.KnownBytes.{Consumes, Keeps}
use Rattle.std.specs.Result.{IsErrAnd}
use Rattle.std.proofs.KnownBytes.{Consumes-nil, Consumes-trans, Consumes-kept}
use Rattle.std.proofs.lemmas.Bool.Decides.{nat_tests}
use Rattle.cml_stream.specs.Streams.{Stream, stream, IsSpent, Supplies}
use Rattle.cml_hub.specs.Kept.{Kept}
use Rattle.cml_phrase.specs.declared.place.Place.{Place}
use Rattle.cml_stepper.specs.Sessions.{Session}
use Rattle.cml_trace.specs.Faults.{IsWriteFailure}
use Rattle.cml_host.specs.Narrated.{Writes}
use Rattle.cml_host.specs.Stepped.{lines_typed, Leaves, TalksOn, TalksOut, TalkIsCut, IsAnsweredBy, IsUnanswered, IsTurnTaken, IsTurnLost, IsNotHeld}
use Rattle.cml_trace.specs.declared.fault.TraceFault.{TraceFault}
use Rattle.cml_trace.specs.declared.fault.TraceFault.TheVariants as fault
use Rattle.cml_host.proofs.WriteLemmas.{writes_none, writes_on, writes_kept}
use Rattle.cml_stepper.proofs.SessionLemmas.{one_line, session_both}

-- ---- one byte

no_feed : (b : ℕ) → b ≢ 10 → (b == 10) ≡ false
no_feed b other = grind (arith, nat_tests)

-- a byte that ends no line
byte_on : (begun : List ℕ) (b : ℕ) → b ≢ 10 → Leaves begun (b ∷ []) [] (begun ++ b ∷ [])
byte_on begun b other = λ more. ap (λ t. cond t (begun ∷ lines_typed [] more) (lines_typed (begun ++ b ∷ []) more)) (no_feed b other)

-- it was typed
pub typed_on : (s : List (List Place)) (h : Kept) (begun left : List ℕ) (b : ℕ) (given : Stream) (held : Option (List ℕ)) → b ≢ 10 → left ≡ begun ++ b ∷ [] → Supplies given (b ∷ [])
    → IsTurnTaken s h begun false left h given (stream held held)
typed_on s h begun left b given held other is came = record {
  heard = b ∷ [];
  lines = [];
  came = came;
  leaves = subst (Leaves begun (b ∷ []) []) (sym is) (byte_on begun b other);
  session = (refl, refl);
  wrote = writes_none held;
}

-- one byte came
pub one_came : (had has : Option (List ℕ)) (n : ℕ) (buffer : List ℕ) (b : ℕ) → length buffer ≡ 1 → 0 < n → n ≤ 1 → b ≡ get_or buffer 0 b → Consumes had has (take n buffer) →
    Supplies (stream had has) (b ∷ [])
one_came had has n [] b one some few is came = absurd (omega arith)
one_came had has zero (x ∷ []) b one some few is came = absurd (omega arith)
one_came had has (suc zero) (x ∷ []) b one some few is came = subst (λ (k : ℕ). Consumes had has (k ∷ [])) (sym is) came
one_came had has (suc (suc n)) (x ∷ []) b one some few is came = absurd (omega arith)
one_came had has n (x ∷ y ∷ more) b one some few is came = absurd (omega arith)

-- one line was answered
answered_alone : (s : List (List Place)) (old new : Kept) (line : List ℕ) (ends : Bool) → IsAnsweredBy s old line ends new → Session s old (line ∷ []) ends new
answered_alone s old new line ends (reply, answers, is) =
    subst (λ (e : Bool). Session s old (line ∷ []) e new) (sym is) (one_line s old new line reply answers)

-- a line ended, and was answered
pub line_answered : (s : List (List Place)) (old : Kept) (begun left : List ℕ) (b : ℕ) (ends : Bool) (new : Kept) (given output : Stream) → b ≡ 10 → left ≡ [] → Supplies given (b ∷ [])
    → IsAnsweredBy s old begun ends new → Writes output → IsTurnTaken s old begun ends left new given output
line_answered s old begun left b true new given output feed none came a wrote = record {
  heard = 10 ∷ [];
  ends = true;
  came = subst (λ k. Supplies given (k ∷ [])) feed came;
  over = inl refl;
  session = answered_alone s old new begun true a;
  wrote = wrote;
}
line_answered s old begun left b false new given output feed none came a wrote = record {
  heard = 10 ∷ [];
  lines = begun ∷ [];
  came = subst (λ k. Supplies given (k ∷ [])) feed came;
  leaves = subst (Leaves begun (10 ∷ []) (begun ∷ [])) (sym none) (λ more. refl);
  session = answered_alone s old new begun false a;
  wrote = wrote;
}

-- nothing was answered
pub cut_before : (s : List (List Place)) (old : Kept) (begun bytes : List ℕ) (given output : Stream) → Supplies given bytes → Writes output → TalkIsCut s old begun given output
cut_before s old begun bytes given output came wrote = record {
  heard = bytes;
  first = [];
  rest = lines_typed begun bytes;
  ends = false;
  new = old;
  came = came;
  lines = refl;
  session = (refl, refl);
  wrote = wrote;
}

-- the line that these bytes end was not answered, or only the start of the answer was written
pub cut_answer : (s : List (List Place)) (old : Kept) (begun bytes : List ℕ) (given : Stream) (held holds : Option (List ℕ)) → lines_typed begun bytes ≡ begun ∷ [] → Supplies given bytes
    → IsUnanswered s old begun (stream held holds) → TalkIsCut s old begun given (stream held holds)
cut_answer s old begun bytes given held holds alone came (inl kept) = cut_before s old begun bytes given (stream held holds) came (writes_kept held held holds (writes_none held) kept)
cut_answer s old begun bytes given held holds alone came (inr (ends, new, a, wrote)) = record {
  heard = bytes;
  first = begun ∷ [];
  rest = [];
  ends = ends;
  new = new;
  came = came;
  lines = alone;
  session = answered_alone s old new begun ends a;
  wrote = wrote;
}

pub feed_alone : (begun : List ℕ) (b : ℕ) → b ≡ 10 → lines_typed begun (b ∷ []) ≡ begun ∷ []
feed_alone begun b feed = ap (λ k. lines_typed begun (k ∷ [])) feed

-- ---- the end of the input

pub begun_alone : (begun : List ℕ) → 0 < length begun → lines_typed begun [] ≡ begun ∷ []
begun_alone [] some = absurd (omega arith)
begun_alone (b ∷ bytes) some = refl

-- nothing was typed of the last line
pub nothing_left : (s : List (List Place)) (h : Kept) (begun left : List ℕ) (given : Stream) (held : Option (List ℕ)) → length begun ≡ 0 → Supplies given [] → IsSpent given
    → IsTurnTaken s h begun true left h given (stream held held)
nothing_left s h [] left given held none came spent = record {
  heard = [];
  ends = false;
  came = came;
  over = inr spent;
  session = (refl, refl);
  wrote = writes_none held;
}
nothing_left s h (b ∷ bytes) left given held none came spent = absurd (omega arith)

-- the last line was answered
pub last_answered : (s : List (List Place)) (old : Kept) (begun left : List ℕ) (ends : Bool) (new : Kept) (given output : Stream) → 0 < length begun → Supplies given [] → IsSpent given
    → IsAnsweredBy s old begun ends new → Writes output → IsTurnTaken s old begun true left new given output
last_answered s old begun left ends new given output some came spent a wrote = record {
  heard = [];
  ends = ends;
  came = came;
  over = inr spent;
  session = subst (λ (lines : List (List ℕ)). Session s old lines ends new) (sym (begun_alone begun some)) (answered_alone s old new begun ends a);
  wrote = wrote;
}

-- ---- no byte

pub nothing_came : (s : List (List Place)) (h : Kept) (begun : List ℕ) (had has held : Option (List ℕ)) → Keeps had has →
    IsTurnTaken s h begun false begun h (stream had has) (stream held held)
nothing_came s h begun had has held kept = record {
  heard = [];
  lines = [];
  came = Consumes-kept had had has [] (Consumes-nil had) kept;
  leaves = λ more. refl;
  session = (refl, refl);
  wrote = writes_none held;
}

-- ---- turn by turn

-- the question was written, or a start of it
pub on_start : (s : List (List Place)) (h : Kept) (had : Option (List ℕ)) (output : Stream) → Writes output → TalksOn s h [] [] h (stream had had) output
on_start s h had output wrote = record {
  heard = [];
  lines = [];
  came = Consumes-nil had;
  leaves = λ more. refl;
  session = (refl, refl);
  wrote = wrote;
}

pub cut_start : (s : List (List Place)) (h : Kept) (had : Option (List ℕ)) (output : Stream) → Writes output → TalkIsCut s h [] (stream had had) output
cut_start s h had output wrote = cut_before s h [] [] (stream had had) output (Consumes-nil had) wrote

module _ (s : List (List Place)) (old : Kept) (begun left : List ℕ) (mid : Kept)
    (had has have held hold holds : Option (List ℕ))
    (t : TalksOn s old begun left mid (stream had has) (stream held hold)) where
  pub on_turn : (next : List ℕ) (new : Kept) → TalksOn s mid left next new (stream has have) (stream hold holds) → TalksOn s old begun next new (stream had have) (stream held holds)
  on_turn next new u = record {
    heard = t.heard ++ u.heard;
    lines = t.lines ++ u.lines;
    came = Consumes-trans had has have t.heard u.heard t.came u.came;
    leaves = λ more.
        ap (lines_typed begun) (append_assoc t.heard u.heard more) ∙ t.leaves (u.heard ++ more) ∙ ap (λ (ls : List (List ℕ)). t.lines ++ ls) (u.leaves more)
        ∙ sym (append_assoc t.lines u.lines (lines_typed next more));
    session = session_both s old mid new t.lines u.lines false t.session u.session;
    wrote = writes_on held hold holds t.wrote u.wrote;
  }

  pub out_turn : (new : Kept) → TalksOut s mid left new (stream has have) (stream hold holds) → TalksOut s old begun new (stream had have) (stream held holds)
  out_turn new u = record {
    heard = t.heard ++ u.heard;
    ends = u.ends;
    came = Consumes-trans had has have t.heard u.heard t.came u.came;
    over = u.over;
    session = subst (λ (ls : List (List ℕ)). Session s old ls u.ends new) (sym (t.leaves u.heard))
        (session_both s old mid new t.lines (lines_typed left u.heard) u.ends t.session u.session);
    wrote = writes_on held hold holds t.wrote u.wrote;
  }

  pub cut_turn : TalkIsCut s mid left (stream has have) (stream hold holds) → TalkIsCut s old begun (stream had have) (stream held holds)
  cut_turn u = record {
    heard = t.heard ++ u.heard;
    first = t.lines ++ u.first;
    rest = u.rest;
    ends = u.ends;
    new = u.new;
    came = Consumes-trans had has have t.heard u.heard t.came u.came;
    lines = t.leaves u.heard ∙ ap (λ (ls : List (List ℕ)). t.lines ++ ls) u.lines ∙ sym (append_assoc t.lines u.first u.rest);
    session = session_both s old mid u.new t.lines u.first u.ends t.session u.session;
    wrote = writes_on held hold holds t.wrote u.wrote;
  }

  pub still_on : Keeps has have → Keeps hold holds → TalksOn s old begun left mid (stream had have) (stream held holds)
  still_on unread unwritten = record {
    heard = t.heard;
    lines = t.lines;
    came = Consumes-kept had has have t.heard t.came unread;
    leaves = t.leaves;
    session = t.session;
    wrote = writes_kept held hold holds t.wrote unwritten;
  }

-- a turn came to a fault
pub lost_turn : (s : List (List Place)) (start : Kept) (left : List ℕ) (mid : Kept) (had has have held hold holds : Option (List ℕ)) (why : TraceFault)
    → TalksOn s start [] left mid (stream had has) (stream held hold) → IsTurnLost s mid left (stream has have) (stream hold holds) why
    → IsNotHeld s start (stream had have) (stream held holds) why
lost_turn s start left mid had has have held hold holds fault.Read t lost = (left, mid, still_on s start [] left mid had has have held hold holds t lost.0 lost.1)
lost_turn s start left mid had has have held hold holds fault.Turns t lost = absurd lost
lost_turn s start left mid had has have held hold holds fault.Write t lost = cut_turn s start [] left mid had has have held hold holds t lost
lost_turn s start left mid had has have held hold holds fault.Memory t lost = cut_turn s start [] left mid had has have held hold holds t lost

-- a fault that is none of reading
pub lost_cut : {A : Type 0} (r : Result A TraceFault) (s : List (List Place)) (old : Kept) (begun : List ℕ) (input output : Stream) (failed : ℕ) → IsWriteFailure r failed
    → OnErr r (TalkIsCut s old begun input output) → IfErr r (IsTurnLost s old begun input output)
lost_cut (Ok a) s old begun input output failed is cut = tt
lost_cut (Err fault.Read) s old begun input output failed is cut = absurd is
lost_cut (Err fault.Turns) s old begun input output failed is cut = absurd is
lost_cut (Err fault.Write) s old begun input output failed is cut = cut
lost_cut (Err fault.Memory) s old begun input output failed is cut = cut

-- what is so of this fault
pub err_as : {A : Type 0} (r : Result A TraceFault) (why : TraceFault) (P : TraceFault → Type 0) → IsErrAnd r (λ e. e ≡ why) → P why → IfErr r P
err_as (Ok a) why P same p = tt
err_as (Err e) why P same p = subst P (sym same) p

pub on_ok : {A B : Type 0} (r : Result A B) (P : Type 0) → P → OnOk r P
on_ok (Ok a) P p = p
on_ok (Err e) P p = tt

-- a turn after which it is over, or goes on, and one that came to a fault, of the script that is gone through
pub turn_over : (t s : List (List Place)) (old : Kept) (begun left : List ℕ) (over : Bool) (new : Kept) (input output : Stream) → t ≡ s → over ≡ true
    → IsTurnTaken t old begun over left new input output → TalksOut s old begun new input output
turn_over t s old begun left over new input output same is taken =
    subst (λ (b : Bool). IsTurnTaken s old begun b left new input output) is (subst (λ (u : List (List Place)). IsTurnTaken u old begun over left new input output) same taken)

pub turn_on : (t s : List (List Place)) (old : Kept) (begun left : List ℕ) (over : Bool) (new : Kept) (input output : Stream) → t ≡ s → over ≡ false
    → IsTurnTaken t old begun over left new input output → TalksOn s old begun left new input output
turn_on t s old begun left over new input output same is taken =
    subst (λ (b : Bool). IsTurnTaken s old begun b left new input output) is (subst (λ (u : List (List Place)). IsTurnTaken u old begun over left new input output) same taken)

pub turn_lost : (t s : List (List Place)) (old : Kept) (begun : List ℕ) (input output : Stream)
    (why : TraceFault) → t ≡ s → IsTurnLost t old begun input output why → IsTurnLost s old begun input output why
turn_lost t s old begun input output why same lost = subst (λ (u : List (List Place)). IsTurnLost u old begun input output why) same lost
