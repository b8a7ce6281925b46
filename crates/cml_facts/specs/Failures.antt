-- The threads of a schedule that ended at a fault, in the order in which they did.
use Rattle.std.specs.Prelude.{ℕ, ◌-◌, take, Bool, true, false, List, [], ◌∷◌, ◌++◌, Option, Some, None, option_and_then, slice_get}
use Rattle.std.specs.Option.{option_to_list}
use Rattle.cml_step.specs.Terms.{Program, Term}
use Rattle.cml_step.specs.Slices.{sliced, sliced_from}
use Rattle.cml_step.specs.Asks.{PlainAsk}
use Rattle.cml_schedule.specs.declared.item.Item.{Item}
use Rattle.cml_schedule.specs.declared.item.Item.TheVariants.{Turn}
use Rattle.cml_hub.specs.Performed.{performed}
use Rattle.cml_hub.specs.Deeds.{is_fault}
use Rattle.cml_hub.specs.Runs.{Run, opening, advance}

-- How a thread ended at a fault: its number, what it asked for by its last step (which was refused, or is a fault itself), and where it stood
-- before that step.
pub record Failure : Type 0 where
  pub thread : ℕ
  pub ask : PlainAsk
  pub stood : Term

-- where a thread stands before the last step of its slice
abbrev pub before_last : Program → ℕ → Term → Term
before_last p t term = (sliced_from p t ((sliced p t term).steps - 1) 0 term).end

-- a thread whose slice ends at a fault, from where it stands
abbrev pub failure_of : Program → ℕ → Term → Failure
failure_of p t term = record { thread = t; ask = (sliced p t term).ask; stood = before_last p t term }

abbrev pub failure_if : Bool → Failure → Option Failure
failure_if true f = Some f
failure_if false f = None

-- a turn of the thread from where it stands in this run, if it ends at a fault
abbrev pub failure_from : Program → Run → ℕ → Term → Option Failure
failure_from p r t term = failure_if (is_fault (performed r.world t (sliced p t term).ask).1) (failure_of p t term)

-- the thread that ends at a fault by an item, if one does: only a turn does so
abbrev pub failure_by : Program → Run → Item → Option Failure
failure_by p r (Turn t) = option_and_then (failure_from p r t.0) (slice_get r.terms t.0)
failure_by p r item = None

-- those of these items, in order, from this run on
abbrev pub failures_from : Program → Option Run → List Item → List Failure
failures_from p r [] = []
failures_from p r (item ∷ items) =
    option_to_list (option_and_then (λ now. failure_by p now item) r) ++ failures_from p (option_and_then (λ now. advance p now item) r) items

-- those of a schedule
abbrev pub failures : Program → List Item → List Failure
failures p items = failures_from p (Some (opening p)) items

-- so many of them are told
abbrev pub fault_limit : ℕ
fault_limit = 20

abbrev pub first_failures : Program → List Item → List Failure
first_failures p items = take fault_limit (failures p items)
