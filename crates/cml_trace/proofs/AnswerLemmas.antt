-- How the answers to lines put together the answer to a trace.
use Rattle.std.proofs.Common.{◌≡◌, ℕ, ◌+◌, ◌⊎◌, List, [], ◌∷◌, ◌++◌, Option, Some, None, refl, inl, inr}
use Rattle.std.specs.List.{flat_map}
use Rattle.cml_scan.specs.World.{PlainWorld}
use Rattle.cml_book.specs.declared.command.Command.{Command}
use Rattle.cml_book.specs.Step.{replies_of}
use Rattle.cml_text.specs.Forms.{PlainSexpr}
use Rattle.cml_text.specs.Faults.{PlainFault}
use Rattle.cml_text.specs.Texts.{Spells, fault_of}
use Rattle.cml_text.specs.Laws.{SpelledOrFaulty}
use Rattle.cml_trace.specs.declared.order.Request.{Request}
use Rattle.cml_trace.specs.declared.fault.TraceEnd.{TraceEnd}
use Rattle.cml_trace.specs.declared.fault.TraceEnd.TheVariants.{Done, Bad}
use Rattle.cml_trace.specs.Orders.{AsksFor, IsBad, order_of}
use Rattle.cml_trace.specs.Replies.{reply_text}
use Rattle.cml_trace.specs.Answers.{answer_to, after_order, bad_line, Answers}

-- what a line asks for, or that it is bad
asked_or_bad : (first : List ℕ) (forms : List PlainSexpr) → Spells first forms → (o : Option Request) → order_of forms ≡ o → ((what : Request) × AsksFor first what) ⊎ IsBad first
asked_or_bad first forms spells (Some what) e = inl (what, (forms, spells, e))
asked_or_bad first forms spells None e = inr (inr (forms, spells, e))

asks_or_bad : SpelledOrFaulty → (first : List ℕ) → (o : Option PlainFault) → fault_of first ≡ o → ((what : Request) × AsksFor first what) ⊎ IsBad first
asks_or_bad law first (Some fault) e = inr (inl (fault, e))
asks_or_bad law first None e = let read = law first e in asked_or_bad first read.0 read.1 (order_of read.0) refl

-- some text answers the lines
pub record HasAnswer (n : ℕ) (w : PlainWorld) (all : List (List ℕ)) : Type 0 where
  pub text : List ℕ
  pub end : TraceEnd
  pub answered : Answers n w all text end

has_answer_of : (n : ℕ) (w : PlainWorld) (first : List ℕ) (behind : List (List ℕ)) → ((m : ℕ) (v : PlainWorld) → HasAnswer m v behind) →
    ((what : Request) × AsksFor first what) ⊎ IsBad first → HasAnswer n w (first ∷ behind)
has_answer_of n w first behind next (inl asked) =
    let rest = next (n + 1) (after_order asked.0 w) in
    record { text = answer_to asked.0 w ++ rest.text; end = rest.end; answered = inl (asked.0, rest.text, asked.1, refl, rest.answered) }
has_answer_of n w first behind next (inr bad) = record { text = bad_line n; end = Bad n; answered = inr (bad, refl, refl) }

pub has_answer : SpelledOrFaulty → (n : ℕ) (w : PlainWorld) (all : List (List ℕ)) → HasAnswer n w all
has_answer law n w [] = record { text = []; end = Done; answered = (refl, refl) }
has_answer law n w (first ∷ behind) = has_answer_of n w first behind (λ m v. has_answer law m v behind) (asks_or_bad law first (fault_of first) refl)

-- what these commands are answered
abbrev pub replies_text : List Command → PlainWorld → List ℕ
replies_text cs w = flat_map reply_text (replies_of cs w)
