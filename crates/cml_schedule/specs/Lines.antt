-- What a line says in a schedule, by its forms. First comes a head, `schedule 1 B`, or `schedule 2 B F S` with the size of the program; then
-- items, `turn T`, `commit T L`, `commit T L U M`, in version 2 `swap T L U M` too, and `clock K`; then `end`. Lines without forms say nothing.
use Rattle.std.specs.Prelude.{ℕ, ◌==◌, ◌&&◌, ◌++◌, Bool, true, false, nat_le, if◌then◌else◌, List, [], ◌∷◌, Option, Some, None, option_map}
use Rattle.cml_text.specs.Forms.{PlainSexpr}
use Rattle.cml_text.specs.Numbers.{number_from, tick_from}
use Rattle.cml_scan.specs.declared.meet.Meet.{Meet}
use Rattle.cml_scan.specs.declared.meet.Meet.TheVariants.{Single, Pair}
use Rattle.cml_check.specs.declared.size.Size.{Size}
use Rattle.cml_schedule.specs.declared.item.Item.{Item}
use Rattle.cml_schedule.specs.declared.item.Item.TheVariants as item
use Rattle.cml_schedule.specs.declared.word.Word.{Word}
use Rattle.cml_schedule.specs.declared.word.Word.TheVariants as word
use Rattle.cml_schedule.specs.declared.line.State.{State}
use Rattle.cml_schedule.specs.declared.line.State.TheVariants.{Opening, Reading, Closed}
use Rattle.cml_schedule.specs.Plans.{PlainPlan}
use Rattle.cml_schedule.specs.Words.{line_word}

-- what the function gives for two values, if both are there
abbrev pub if_both : {A B C : Type 0} → (A → B → C) → Option A → Option B → Option C
if_both f (Some a) (Some b) = Some (f a b)
if_both f _ _ = None

-- the number, if it is from the least to the most
abbrev pub within : ℕ → ℕ → Option ℕ → Option ℕ
within least most (Some n) = if nat_le least n && nat_le n most then Some n else None
within least most None = None

-- the number that the form is, if it is one from the least to the most
abbrev pub number_within : ℕ → ℕ → PlainSexpr → Option ℕ
number_within least most form = within least most (number_from form)

-- whether there is a number, and it is this one
abbrev pub is_expected : ℕ → Option ℕ → Bool
is_expected expected (Some n) = n == expected
is_expected expected None = false

-- the budget of a head of the expected version, 1 to 1,000,000,000
abbrev pub budget_from : ℕ → PlainSexpr → PlainSexpr → Option ℕ
budget_from expected version budget = if is_expected expected (number_from version) then number_within 1 1000000000 budget else None

-- 1 to 1,024 functions, and 0 to 4,096 statements
abbrev pub size_from : PlainSexpr → PlainSexpr → Option Size
size_from functions statements =
    if_both (λ f s. record { functions = f; statements = s }) (number_within 1 1024 functions) (number_within 0 4096 statements)

-- the budget and the size that these forms after the keyword `schedule` say
abbrev pub schedule_by : List PlainSexpr → Option (ℕ × Option Size)
schedule_by (version ∷ budget ∷ []) = option_map (λ b. (b, None)) (budget_from 1 version budget)
schedule_by (version ∷ budget ∷ functions ∷ statements ∷ []) = if_both (λ b s. (b, Some s)) (budget_from 2 version budget) (size_from functions statements)
schedule_by _ = None

abbrev pub head_from : Option Word → List PlainSexpr → Option (ℕ × Option Size)
head_from (Some word.Schedule) forms = schedule_by forms
head_from _ forms = None

-- a row of one leaf: its thread and its number
abbrev pub single_from : PlainSexpr → PlainSexpr → Option Meet
single_from t n = if_both (λ thread leaf. Single (record { 0 = thread }) leaf) (number_from t) (number_from n)

-- a row of two leaves, each with its thread: the head's, then the other's
abbrev pub row_of_two : (ℕ × ℕ) → (ℕ × ℕ) → Meet
row_of_two head other = Pair (record { 0 = head.0 }) head.1 (record { 0 = other.0 }) other.1

-- a thread and a leaf
abbrev pub place_from : PlainSexpr → PlainSexpr → Option (ℕ × ℕ)
place_from t n = if_both (λ thread leaf. (thread, leaf)) (number_from t) (number_from n)

abbrev pub pair_from : PlainSexpr → PlainSexpr → PlainSexpr → PlainSexpr → Option Meet
pair_from t n u m = if_both row_of_two (place_from t n) (place_from u m)

abbrev pub turn_from : List PlainSexpr → Option Item
turn_from (t ∷ []) = option_map (λ thread. item.Turn (record { 0 = thread })) (number_from t)
turn_from _ = None

abbrev pub commit_from : List PlainSexpr → Option Item
commit_from (t ∷ n ∷ []) = option_map item.Meet (single_from t n)
commit_from (t ∷ n ∷ u ∷ m ∷ []) = option_map item.Meet (pair_from t n u m)
commit_from _ = None

abbrev pub swap_by : List PlainSexpr → Option Item
swap_by (t ∷ n ∷ u ∷ m ∷ []) = option_map item.Exchange (pair_from t n u m)
swap_by _ = None

abbrev pub swap_from : Bool → List PlainSexpr → Option Item
swap_from names_swaps forms = if names_swaps then swap_by forms else None

abbrev pub clock_from : List PlainSexpr → Option Item
clock_from (k ∷ []) = option_map item.Clock (tick_from k)
clock_from _ = None

-- the item that a line says; it may name exchanges where the schedule says the size of its program
abbrev pub item_from : Bool → Option Word → List PlainSexpr → Option Item
item_from names_swaps (Some word.Turn) forms = turn_from forms
item_from names_swaps (Some word.Commit) forms = commit_from forms
item_from names_swaps (Some word.Swap) forms = swap_from names_swaps forms
item_from names_swaps (Some word.Clock) forms = clock_from forms
item_from names_swaps _ forms = None

-- the plan that a head begins
abbrev pub opened : Option Word → List PlainSexpr → Option State
opened first forms = option_map (λ head. Reading (record { budget = head.0; size = head.1; items = [] })) (head_from first forms)

abbrev pub is_there : {A : Type 0} → Option A → Bool
is_there None = false
is_there (Some a) = true

-- the plan with one item more
abbrev pub with_item : PlainPlan → Item → PlainPlan
with_item plan item = record plan { items = plan.items ++ item ∷ [] }

-- `end` closes the plan, and an item is one more of it
abbrev pub after_head : PlainPlan → Option Word → List PlainSexpr → Option State
after_head plan (Some word.End) [] = Some (Closed plan)
after_head plan first forms = option_map (λ item. Reading (with_item plan item)) (item_from (is_there plan.size) first forms)

-- how far the schedule was read after a line of these forms, by the keyword that begins the line, if the line fits
abbrev pub after_forms : State → Option Word → List PlainSexpr → Option State
after_forms Opening first forms = opened first forms
after_forms (Reading plan) first forms = after_head plan first forms
after_forms (Closed plan) first forms = None

-- how far the schedule was read after a line of these forms, if the line fits
abbrev pub after_line : State → List PlainSexpr → Option State
after_line state [] = Some state
after_line state (form ∷ forms) = after_forms state (line_word form) forms
