-- Commands that are done by one call: those of the lines up to one that asks for something else.
use Rattle.std.specs.Prelude.{◌≡◌, ◌⊎◌, ℕ, ◌+◌, List, [], ◌∷◌, ◌++◌, length}
use Rattle.cml_book.specs.declared.command.Command.{Command}
use Rattle.cml_trace.specs.declared.order.Request.TheVariants as order
use Rattle.cml_trace.specs.declared.batch.Stop.{Stop}
use Rattle.cml_trace.specs.declared.batch.Stop.TheVariants.{Rows, Bad, End, Memory}
use Rattle.cml_trace.specs.Lines.{TraceLines}
use Rattle.cml_trace.specs.Orders.{AsksFor, IsBad}

-- These lines ask for these commands, in order, and for nothing else.
abbrev pub AskFor : List (List ℕ) → List Command → Type 0
AskFor [] cs = cs ≡ []
AskFor (first ∷ behind) cs =
    (AsksFor first order.Skip × AskFor behind cs)
    ⊎ ((c : Command) × (rest : List Command) × AsksFor first (order.Do c) × (cs ≡ c ∷ rest) × AskFor behind rest)

-- Why no commands are taken from these lines any more, of which the first has this number, and which lines are left then: the first asks
-- for the rows, it is bad, there is none, or memory ran out.
abbrev pub StopsAt : Stop → TraceLines → TraceLines → Type 0
StopsAt Rows here left = (first : List ℕ) × AsksFor first order.Rows × (here.left ≡ first ∷ left.left) × (left.number ≡ here.number + 1)
StopsAt (Bad n) here left = (first : List ℕ) × (behind : List (List ℕ)) × IsBad first × (here.left ≡ first ∷ behind) × (n ≡ here.number)
StopsAt End here left = (here.left ≡ []) × (left.number ≡ here.number)
StopsAt Memory here left = Unit {0}

-- The commands of the first of these lines, up to where it stops.
pub record Gathers (old new : TraceLines) (commands : List Command) (stop : Stop) : Type 0 where
  pub done : List (List ℕ)
  pub others : List (List ℕ)
  pub split : old.left ≡ done ++ others
  pub asked : AskFor done commands
  pub stops : StopsAt stop (record { number = old.number + length done; left = others }) new
