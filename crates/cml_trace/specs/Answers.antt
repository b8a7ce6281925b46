-- The answer to a trace.
use Rattle.std.specs.Prelude.{◌≡◌, ◌⊎◌, ℕ, ◌+◌, ◌<◌, ◌≤◌, ◌==◌, List, [], ◌∷◌, ◌++◌, length, codes}
use Rattle.std.specs.List.{slice_split}
use Rattle.cml_scan.specs.World.{PlainWorld}
use Rattle.cml_scan.specs.Scan.{scan}
use Rattle.cml_book.specs.Step.{step, empty_world}
use Rattle.cml_trace.specs.declared.order.Request.{Request}
use Rattle.cml_trace.specs.declared.order.Request.TheVariants as order
use Rattle.cml_trace.specs.declared.fault.TraceEnd.{TraceEnd}
use Rattle.cml_trace.specs.declared.fault.TraceEnd.TheVariants.{Done, Bad, TooLong}
use Rattle.cml_trace.specs.Orders.{AsksFor, IsBad}
use Rattle.cml_trace.specs.Replies.{line, spaced, rows_text, reply_text}

-- The lines of a trace: a line feed (10) ends one. What stands after the last line feed is a line too, and skipped where it is empty.
abbrev pub trace_lines : List ℕ → List (List ℕ)
trace_lines input = slice_split (λ b. b == 10) input

-- The answer to an order in this world: nothing where there is nothing to do, all rows that are enabled, or the reply to its command.
abbrev pub answer_to : Request → PlainWorld → List ℕ
answer_to order.Skip w = []
answer_to order.Rows w = rows_text (scan w)
answer_to (order.Do c) w = reply_text (step w c).1

-- the world after an order
abbrev pub after_order : Request → PlainWorld → PlainWorld
after_order order.Skip w = w
after_order order.Rows w = w
after_order (order.Do c) w = (step w c).0

-- the answer to the bad line of this number
abbrev pub bad_line : ℕ → List ℕ
bad_line n = line (codes "bad" ++ spaced n)

-- The text that answers these lines, of which the first has this number, from this world on, and how it ends. A line is answered by what
-- it asks for, and the lines after it follow in the world after it. A bad line is answered by its number, and ends the trace.
abbrev pub Answers : ℕ → PlainWorld → List (List ℕ) → List ℕ → TraceEnd → Type 0
Answers n w [] text end = (text ≡ []) × (end ≡ Done)
Answers n w (first ∷ behind) text end =
    ((what : Request) × (rest : List ℕ) × AsksFor first what × (text ≡ answer_to what w ++ rest)
    × Answers (n + 1) (after_order what w) behind rest end)
    ⊎ (IsBad first × (text ≡ bad_line n) × (end ≡ Bad n))

-- These lines are answered by this text from this world on, none of them is bad, and they lead to that world.
abbrev pub AreDone : PlainWorld → List (List ℕ) → List ℕ → PlainWorld → Type 0
AreDone w [] text v = (text ≡ []) × (v ≡ w)
AreDone w (first ∷ behind) text v =
    (what : Request) × (rest : List ℕ) × AsksFor first what × (text ≡ answer_to what w ++ rest) × AreDone (after_order what w) behind rest v

-- the most bytes of a trace
abbrev pub max_input : ℕ
max_input = 1048576

-- The text that answers a whole trace, and how it ends. Nothing of a trace that is too long is done.
abbrev pub AnswersTrace : List ℕ → List ℕ → TraceEnd → Type 0
AnswersTrace input text end =
    ((length input ≤ max_input) × Answers 1 empty_world (trace_lines input) text end)
    ⊎ ((max_input < length input) × (text ≡ line (codes "too long")) × (end ≡ TooLong))
