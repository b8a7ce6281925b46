-- A trace has one answer.
use Rattle.std.proofs.Common.{◌≡◌, ℕ, ◌+◌, ◌≤◌, ◌<◌, ◌⊎◌, List, [], ◌∷◌, ◌++◌, Some, None, length, codes, refl, ap, sym, ◌∙◌, subst, inl, inr, arith, Bool, true, false, nat_lt}
use Rattle.std.proofs.lemmas.Bool.Decides.{nat_tests}
use Rattle.cml_scan.specs.World.{PlainWorld}
use Rattle.cml_book.specs.Step.{empty_world}
use Rattle.cml_text.specs.Laws.{SpelledOrFaulty, SpelledHasNoFault, SpellsOneAtMost}
use Rattle.cml_trace.specs.declared.order.Request.{Request}
use Rattle.cml_trace.specs.declared.fault.TraceEnd.{TraceEnd}
use Rattle.cml_trace.specs.declared.fault.TraceEnd.TheVariants.{TooLong}
use Rattle.cml_trace.specs.Orders.{AsksFor, IsBad, order_of}
use Rattle.cml_trace.specs.Replies.{line}
use Rattle.cml_trace.specs.Answers.{answer_to, after_order, trace_lines, Answers, max_input, AnswersTrace}
use Rattle.cml_trace.specs.Laws.{OneAnswer, HasOneAnswer}
use Rattle.cml_trace.proofs.AnswerLemmas.{has_answer}

pub asks_one : SpellsOneAtMost → (first : List ℕ) (a b : Request) → AsksFor first a → AsksFor first b → a ≡ b
asks_one once first a b x y =
    let same : order_of x.0 ≡ order_of y.0 = ap order_of (once first x.0 y.0 x.1 y.1) in
    let there : Some a ≡ Some b = sym x.2 ∙ same ∙ y.2 in
    cc

pub asks_not_bad : SpellsOneAtMost → SpelledHasNoFault → (first : List ℕ) (a : Request) → AsksFor first a → IsBad first → ⊥
asks_not_bad once faultless first a x (inl f) =
    let clash : None ≡ Some f.0 = sym (faultless first x.0 x.1) ∙ f.1 in cc
asks_not_bad once faultless first a x (inr y) =
    let same : order_of x.0 ≡ order_of y.0 = ap order_of (once first x.0 y.0 x.1 y.1) in
    let clash : Some a ≡ None = sym x.2 ∙ same ∙ y.2 in cc

-- two answers are the same
pub record Same (text other : List ℕ) (end way : TraceEnd) : Type 0 where
  pub texts : other ≡ text
  pub ends : way ≡ end

pub answers_one : SpellsOneAtMost → SpelledHasNoFault → (n : ℕ) (w : PlainWorld) (all : List (List ℕ)) (text other : List ℕ) (end way : TraceEnd) →
    Answers n w all text end → Answers n w all other way → Same text other end way
answers_one once faultless n w [] text other end way x y = record { texts = y.0 ∙ sym x.0; ends = y.1 ∙ sym x.1 }
answers_one once faultless n w (first ∷ behind) text other end way (inl x) (inl y) =
    let same : y.0 ≡ x.0 = asks_one once first y.0 x.0 y.2 x.2 in
    let moved : Answers (n + 1) (after_order x.0 w) behind y.1 way = subst (λ (o : Request). Answers (n + 1) (after_order o w) behind y.1 way) same y.4 in
    let next = answers_one once faultless (n + 1) (after_order x.0 w) behind x.1 y.1 end way x.4 moved in
    record {
      texts = y.3 ∙ ap (λ o. answer_to o w ++ y.1) same ∙ ap (λ t. answer_to x.0 w ++ t) next.texts ∙ sym x.3;
      ends = next.ends;
    }
answers_one once faultless n w (first ∷ behind) text other end way (inl x) (inr y) = absurd (asks_not_bad once faultless first x.0 x.2 y.0)
answers_one once faultless n w (first ∷ behind) text other end way (inr x) (inl y) = absurd (asks_not_bad once faultless first y.0 y.2 x.0)
answers_one once faultless n w (first ∷ behind) text other end way (inr x) (inr y) = record { texts = y.1 ∙ sym x.1; ends = y.2 ∙ sym x.2 }

trace_one : SpellsOneAtMost → SpelledHasNoFault → (trace text other : List ℕ) (end way : TraceEnd) →
    AnswersTrace trace text end → AnswersTrace trace other way → Same text other end way
trace_one once faultless trace text other end way (inl x) (inl y) = answers_one once faultless 1 _ (trace_lines trace) text other end way x.1 y.1
trace_one once faultless trace text other end way (inl x) (inr y) = absurd (omega (arith, x.0, y.0))
trace_one once faultless trace text other end way (inr x) (inl y) = absurd (omega (arith, x.0, y.0))
trace_one once faultless trace text other end way (inr x) (inr y) = record { texts = y.1 ∙ sym x.1; ends = y.2 ∙ sym x.2 }

one_of : SpellsOneAtMost → SpelledHasNoFault → (trace text : List ℕ) (end : TraceEnd) → AnswersTrace trace text end → OneAnswer trace
one_of once faultless trace text end a = record {
  text = text;
  end = end;
  answered = a;
  same_text = λ other way b. (trace_one once faultless trace text other end way a b).texts;
  same_end = λ other way b. (trace_one once faultless trace text other end way a b).ends;
}

is_long : (n : ℕ) → nat_lt max_input n ≡ true → max_input < n
is_long n e = grind (arith, nat_tests)

is_short : (n : ℕ) → nat_lt max_input n ≡ false → n ≤ max_input
is_short n e = grind (arith, nat_tests)

short_or_long_by : (n : ℕ) (b : Bool) → nat_lt max_input n ≡ b → (n ≤ max_input) ⊎ (max_input < n)
short_or_long_by n true e = inr (is_long n e)
short_or_long_by n false e = inl (is_short n e)

short_or_long : (n : ℕ) → (n ≤ max_input) ⊎ (max_input < n)
short_or_long n = short_or_long_by n (nat_lt max_input n) refl

one_by : SpelledOrFaulty → SpellsOneAtMost → SpelledHasNoFault → (trace : List ℕ) → (length trace ≤ max_input) ⊎ (max_input < length trace) → OneAnswer trace
one_by law once faultless trace (inl short) =
    let h = has_answer law 1 empty_world (trace_lines trace) in
    one_of once faultless trace h.text h.end (inl (short, h.answered))
one_by law once faultless trace (inr long) = one_of once faultless trace (line (codes "too long")) TooLong (inr (long, refl, refl))

pub has_one_answer : SpelledOrFaulty → SpellsOneAtMost → SpelledHasNoFault → HasOneAnswer
has_one_answer law once faultless trace = one_by law once faultless trace (short_or_long (length trace))
