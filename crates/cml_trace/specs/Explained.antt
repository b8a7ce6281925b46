-- What is told of the lines of a trace where they are explained: why a command was refused, and why a line is bad.
use Rattle.std.specs.Prelude.{◌≡◌, ◌⊎◌, ℕ, ◌+◌, List, [], ◌∷◌, ◌++◌, Option, Some, None}
use Rattle.cml_scan.specs.World.{PlainWorld}
use Rattle.cml_book.specs.declared.command.Command.{Command}
use Rattle.cml_book.specs.declared.command.Reply.{Reply}
use Rattle.cml_book.specs.declared.command.Reply.TheVariants as reply
use Rattle.cml_book.specs.declared.refusal.Refusal.{Refusal}
use Rattle.cml_book.specs.Step.{step}
use Rattle.cml_trace.specs.declared.order.Request.{Request}
use Rattle.cml_trace.specs.declared.order.Request.TheVariants as order
use Rattle.cml_trace.specs.declared.why.Told.{Told}
use Rattle.cml_trace.specs.declared.why.Bad.{Bad}
use Rattle.cml_trace.specs.declared.why.Cause.{Cause}
use Rattle.cml_trace.specs.declared.why.Cause.TheVariants as cause
use Rattle.cml_trace.specs.Whys.{why_of}
use Rattle.cml_trace.specs.Orders.{AsksFor, IsBad}
use Rattle.cml_trace.specs.Answers.{after_order}
use Rattle.cml_trace.specs.Bads.{IsBadFor}

-- this is told of the line of this number, and nothing else
abbrev pub line_told : ℕ → Cause → List Told
line_told n why = record { line = n; cause = why } ∷ []

-- why the command of a reply was refused, if it was
abbrev pub refusal_in : Reply → Option Refusal
refusal_in (reply.Refused why) = Some why
refusal_in _ = None

-- what is told of a command in this world, where it was refused
abbrev pub told_of_refusal : ℕ → PlainWorld → Command → Option Refusal → List Told
told_of_refusal n w c (Some why) = line_told n (cause.Refused (why_of w c why))
told_of_refusal n w c None = []

-- what is told of the order of a line
abbrev pub told_of : ℕ → PlainWorld → Request → List Told
told_of n w (order.Do c) = told_of_refusal n w c (refusal_in (step w c).1)
told_of n w _ = []

-- What is told of these lines, of which the first has this number, from this world on: of each what is told of its order, in the world
-- after the lines before it; and of a bad line, which is the last, why it is no command.
abbrev pub Explains : ℕ → PlainWorld → List (List ℕ) → List Told → Type 0
Explains n w [] told = told ≡ []
Explains n w (first ∷ behind) told =
    ((what : Request) × (rest : List Told) × AsksFor first what × (told ≡ told_of n w what ++ rest) × Explains (n + 1) (after_order what w) behind rest)
    ⊎ ((why : Bad) × IsBad first × IsBadFor first why × (told ≡ line_told n (cause.Bad why)))
