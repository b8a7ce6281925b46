-- What a line of a trace asks for: rows, or one of the commands spawn, chan, swapchan, ivar, mvar, mvar V, mailbox, mchan, port X, copy P,
-- iput I V, mput M V, mail B V, multicast X V, nack T, sync T G, commit T L, commit T L U M, end T, clock K. V is a value, G a group, K a
-- tick; every other letter is a number: in commit T and U of threads, L and M of their leaves; else T of a thread, X of a multicast
-- channel, P of a port, I and M of a variable, B of a mailbox.
use Rattle.std.specs.Prelude.{◌≡◌, ◌⊎◌, ℕ, List, [], ◌∷◌, Option, Some, None, option_map, option_and_then}
use Rattle.cml_scan.specs.declared.meet.Meet.{Meet}
use Rattle.cml_scan.specs.declared.meet.Meet.TheVariants.{Single, Pair}
use Rattle.cml_book.specs.declared.command.Command.{Command}
use Rattle.cml_book.specs.declared.command.Command.TheVariants as command
use Rattle.cml_text.specs.Faults.{PlainFault}
use Rattle.cml_text.specs.Forms.{PlainSexpr}
use Rattle.cml_text.specs.Texts.{Spells, fault_of}
use Rattle.cml_trace.specs.declared.keyword.Keyword.{Keyword}
use Rattle.cml_trace.specs.declared.keyword.Keyword.TheVariants as keyword
use Rattle.cml_trace.specs.declared.order.Request.{Request}
use Rattle.cml_trace.specs.declared.order.Request.TheVariants as order
use Rattle.cml_trace.specs.Keywords.{head_of}
use Rattle.cml_trace.specs.Given.{both}
use Rattle.cml_value.specs.Value.{PlainValue}
use Rattle.cml_text.specs.Numbers.{number_from, tick_from}
use Rattle.cml_trace.specs.ValueForms.{value_from, number_and_value}
use Rattle.cml_trace.specs.GroupForms.{group_from}

-- a row of one leaf: its thread and its number
abbrev pub single_row : ℕ → ℕ → Meet
single_row t n = Single (record { 0 = t }) n

-- a row of two leaves, each with its thread: the head's, then the other's
abbrev pub pair_row : (ℕ × ℕ) → (ℕ × ℕ) → Meet
pair_row head other = Pair (record { 0 = head.0 }) head.1 (record { 0 = other.0 }) other.1

-- a thread and a leaf
abbrev pub thread_and_leaf : PlainSexpr → PlainSexpr → Option (ℕ × ℕ)
thread_and_leaf t n = both (λ thread leaf. (thread, leaf)) (number_from t) (number_from n)

-- the commands that are a keyword alone
abbrev pub making : Keyword → Option Command
making keyword.Spawn = Some command.Spawn
making keyword.Chan = Some command.MakeChan
making keyword.SwapChan = Some command.MakeSwap
making keyword.IVar = Some command.MakeIVar
making keyword.Mailbox = Some command.MakeMailbox
making keyword.Mchan = Some command.MakeMChan
making _ = None

-- those that name a multicast channel, a port or a thread
abbrev pub naming : Keyword → ℕ → Option Command
naming keyword.Port n = Some (command.MakePort (record { 0 = n }))
naming keyword.Copy n = Some (command.CopyPort (record { 0 = n }))
naming keyword.Nack n = Some (command.Nack (record { 0 = n }))
naming keyword.End n = Some (command.End (record { 0 = n }))
naming _ n = None

-- those that name a variable, a mailbox or a multicast channel, and hand a value over to it
abbrev pub giving : Keyword → ℕ → PlainValue → Option Command
giving keyword.IPut n v = Some (command.IPut (record { 0 = n }) v)
giving keyword.MPut n v = Some (command.MPut (record { 0 = n }) v)
giving keyword.Mail n v = Some (command.Mail (record { 0 = n }) v)
giving keyword.Multicast n v = Some (command.Multicast (record { 0 = n }) v)
giving _ n v = None

abbrev pub making_by : Keyword → List PlainSexpr → Option Command
making_by keyword [] = making keyword
making_by keyword _ = None

abbrev pub naming_by : Keyword → List PlainSexpr → Option Command
naming_by keyword (n ∷ []) = option_and_then (naming keyword) (number_from n)
naming_by keyword _ = None

abbrev pub giving_by : Keyword → List PlainSexpr → Option Command
giving_by keyword forms = option_and_then (λ given. giving keyword given.0 given.1) (number_and_value forms)

-- an M-variable is made empty, or holds a value
abbrev pub mvar_by : List PlainSexpr → Option Command
mvar_by [] = Some (command.MakeMVar None)
mvar_by (v ∷ []) = option_map (λ value. command.MakeMVar (Some value)) (value_from v)
mvar_by _ = None

abbrev pub sync_by : List PlainSexpr → Option Command
sync_by (t ∷ g ∷ []) = both (λ thread group. command.Sync (record { 0 = thread }) group) (number_from t) (group_from g)
sync_by _ = None

abbrev pub commit_by : List PlainSexpr → Option Command
commit_by (t ∷ n ∷ []) = both (λ thread leaf. command.Commit (single_row thread leaf)) (number_from t) (number_from n)
commit_by (t ∷ n ∷ u ∷ m ∷ []) = both (λ head other. command.Commit (pair_row head other)) (thread_and_leaf t n) (thread_and_leaf u m)
commit_by _ = None

abbrev pub clock_by : List PlainSexpr → Option Command
clock_by (k ∷ []) = option_map command.Clock (tick_from k)
clock_by _ = None

-- the command that these forms after its keyword are
abbrev pub command_by : Keyword → List PlainSexpr → Option Command
command_by keyword.MVar forms = mvar_by forms
command_by keyword.Sync forms = sync_by forms
command_by keyword.Commit forms = commit_by forms
command_by keyword.Clock forms = clock_by forms
command_by keyword.Port forms = naming_by keyword.Port forms
command_by keyword.Copy forms = naming_by keyword.Copy forms
command_by keyword.Nack forms = naming_by keyword.Nack forms
command_by keyword.End forms = naming_by keyword.End forms
command_by keyword.IPut forms = giving_by keyword.IPut forms
command_by keyword.MPut forms = giving_by keyword.MPut forms
command_by keyword.Mail forms = giving_by keyword.Mail forms
command_by keyword.Multicast forms = giving_by keyword.Multicast forms
command_by keyword forms = making_by keyword forms

-- the rows are asked for by their keyword alone, with no form after it
abbrev pub rows_by : List PlainSexpr → Option Request
rows_by [] = Some order.Rows
rows_by (form ∷ forms) = None

-- what these forms after their keyword ask for, if they ask for anything: the rows, or a command
abbrev pub order_by : Keyword → List PlainSexpr → Option Request
order_by keyword.Rows forms = rows_by forms
order_by keyword forms = option_map order.Do (command_by keyword forms)

-- what the forms of a line ask for, if they ask for anything: a line without forms asks for nothing to be done
abbrev pub order_of : List PlainSexpr → Option Request
order_of [] = Some order.Skip
order_of (form ∷ forms) = option_and_then (λ head. order_by head.0 head.1) (head_of (form ∷ forms))

-- the line spells forms that ask for this
abbrev pub AsksFor : List ℕ → Request → Type 0
AsksFor line what = (forms : List PlainSexpr) × Spells line forms × (order_of forms ≡ Some what)

-- the line has a fault as a text, or it has forms, and they are neither `rows` nor a command
abbrev pub IsBad : List ℕ → Type 0
IsBad line =
    ((fault : PlainFault) × (fault_of line ≡ Some fault))
    ⊎ ((forms : List PlainSexpr) × Spells line forms × (order_of forms ≡ None))
