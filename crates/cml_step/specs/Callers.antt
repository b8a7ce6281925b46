-- Calls that wait above others for the one that runs.
use Rattle.std.specs.Prelude.{ℕ, ◌+◌, ◌<◌, List, [], ◌∷◌, length}
use Rattle.cml_check.specs.Syntax.{PlainItem}
use Rattle.cml_step.specs.declared.call.Call.{Call}
use Rattle.cml_step.specs.Calls.{entry_of}
use Rattle.cml_step.specs.Stacks.{CallFits}
use Rattle.cml_step.specs.Terms.{Term, max_entries}

-- the entries of these calls, the top one last, above those of `below`
abbrev pub calls_on : List (PlainItem ℕ) → List Call → Term → Term
calls_on p [] below = below
calls_on p (c ∷ cs) below = calls_on p cs (entry_of p c ∷ below)

abbrev pub AllCallsFit : List (PlainItem ℕ) → List Call → Type 0
AllCallsFit p [] = Unit {0}
AllCallsFit p (c ∷ cs) = CallFits p c × AllCallsFit p cs

-- there may be a call above these entries, and so many more below it, and one more on top
abbrev pub HasRoomAbove : ℕ → Term → Type 0
HasRoomAbove room below = (n : ℕ) → n < room → length below + n + 1 < max_entries
