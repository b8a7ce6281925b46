-- The budget of a schedule that is read is from 1 to 1,000,000,000.
use Rattle.std.proofs.Common.{◌≡◌, if◌then◌else◌, ℕ, ◌+◌, Bool, true, false, ◌&&◌, nat_le, List, [], ◌∷◌, Option, Some, None, Ok, option_map, refl, subst, arith, inl, inr}
use Rattle.std.proofs.lemmas.Bool.Decides.{nat_tests}
use Rattle.cml_check.specs.declared.size.Size.{Size}
use Rattle.cml_hub.specs.Kept.{IsBudget}
use Rattle.cml_schedule.specs.declared.item.Item.{Item}
use Rattle.cml_schedule.specs.declared.line.State.{State}
use Rattle.cml_schedule.specs.declared.line.State.TheVariants.{Opening, Reading, Closed}
use Rattle.cml_schedule.specs.declared.word.Word.{Word}
use Rattle.cml_schedule.specs.declared.word.Word.TheVariants as word
use Rattle.cml_schedule.specs.Lines.{if_both, within, is_expected, budget_from, size_from, schedule_by, head_from, is_there, with_item, item_from, after_forms, after_line}
use Rattle.cml_schedule.specs.Plans.{PlainPlan}
use Rattle.cml_schedule.specs.Reading.{LeadsTo, at_end}
use Rattle.cml_schedule.specs.Words.{line_word}
use Rattle.cml_text.specs.Forms.{PlainSexpr}
use Rattle.cml_text.specs.Numbers.{number_from}

chosen : (b : Bool) (o : Option ℕ) (n : ℕ) → (if b then o else None) ≡ Some n → (b ≡ true) × (o ≡ Some n)
chosen true o n e = (refl, e)
chosen false o n e = cc

within_bounds : (o : Option ℕ) (n : ℕ) → within 1 1000000000 o ≡ Some n → IsBudget n
within_bounds None n e = cc
within_bounds (Some m) n e =
    let found = chosen (nat_le 1 m && nat_le m 1000000000) (Some m) n e in
    let test : nat_le 1 m && nat_le m 1000000000 ≡ true = found.0 in
    let same : m ≡ n = cc (found.1) in
    subst IsBudget same (grind (arith, nat_tests, test))

budget_bounds : (expected : ℕ) (version budget : PlainSexpr) (n : ℕ) → budget_from expected version budget ≡ Some n → IsBudget n
budget_bounds expected version budget n e =
    within_bounds (number_from budget) n (chosen (is_expected expected (number_from version)) (within 1 1000000000 (number_from budget)) n e).1

mapped : (o : Option ℕ) (head : ℕ × Option Size) → option_map (λ (b : ℕ). (b, None)) o ≡ Some head → o ≡ Some head.0
mapped None head e = cc
mapped (Some b) head e = cc

joined : (o : Option ℕ) (s : Option Size) (head : ℕ × Option Size) → if_both (λ b z. (b, Some z)) o s ≡ Some head → o ≡ Some head.0
joined None s head e = cc
joined (Some b) None head e = cc
joined (Some b) (Some z) head e = cc

head_bounds : (forms : List PlainSexpr) (head : ℕ × Option Size) → schedule_by forms ≡ Some head → IsBudget head.0
head_bounds (version ∷ budget ∷ []) head e = budget_bounds 1 version budget head.0 (mapped (budget_from 1 version budget) head e)
head_bounds (version ∷ budget ∷ functions ∷ statements ∷ []) head e =
    budget_bounds 2 version budget head.0 (joined (budget_from 2 version budget) (size_from functions statements) head e)
head_bounds _ head e = cc

first_bounds : (first : Option Word) (forms : List PlainSexpr) (head : ℕ × Option Size) → head_from first forms ≡ Some head → IsBudget head.0
first_bounds (Some word.Schedule) forms head e = head_bounds forms head e
first_bounds _ forms head e = cc

-- the budget that was read, if one was
abbrev HasBudget : State → Type 0
HasBudget Opening = Unit {0}
HasBudget (Reading plan) = IsBudget plan.budget
HasBudget (Closed plan) = IsBudget plan.budget

begun : (o : Option (ℕ × Option Size)) (next : State) → ((head : ℕ × Option Size) → o ≡ Some head → IsBudget head.0) →
    option_map (λ (head : ℕ × Option Size). Reading (record { budget = head.0; size = head.1; items = [] })) o ≡ Some next → HasBudget next
begun None next bounds e = cc
begun (Some head) next bounds e =
    let same : Reading (record { budget = head.0; size = head.1; items = [] }) ≡ next = cc in
    subst HasBudget same (bounds head refl)

gone_on : (plan : PlainPlan) (o : Option Item) (next : State) → IsBudget plan.budget →
    option_map (λ (item : Item). Reading (with_item plan item)) o ≡ Some next → HasBudget next
gone_on plan None next budget e = cc
gone_on plan (Some item) next budget e =
    let same : Reading (with_item plan item) ≡ next = cc in
    subst HasBudget same budget

after_bounds : (state : State) (first : Option Word) (forms : List PlainSexpr) (next : State) → HasBudget state →
    after_forms state first forms ≡ Some next → HasBudget next
after_bounds Opening first forms next budget e = begun (head_from first forms) next (first_bounds first forms) e
after_bounds (Reading plan) (Some word.End) [] next budget e = subst HasBudget (let same : Closed plan ≡ next = cc in same) budget
after_bounds (Reading plan) (Some word.End) (form ∷ forms) next budget e =
    gone_on plan (item_from (is_there plan.size) (Some word.End) (form ∷ forms)) next budget e
after_bounds (Reading plan) (Some word.Schedule) forms next budget e = gone_on plan (item_from (is_there plan.size) (Some word.Schedule) forms) next budget e
after_bounds (Reading plan) (Some word.Turn) forms next budget e = gone_on plan (item_from (is_there plan.size) (Some word.Turn) forms) next budget e
after_bounds (Reading plan) (Some word.Commit) forms next budget e = gone_on plan (item_from (is_there plan.size) (Some word.Commit) forms) next budget e
after_bounds (Reading plan) (Some word.Swap) forms next budget e = gone_on plan (item_from (is_there plan.size) (Some word.Swap) forms) next budget e
after_bounds (Reading plan) (Some word.Clock) forms next budget e = gone_on plan (item_from (is_there plan.size) (Some word.Clock) forms) next budget e
after_bounds (Reading plan) None forms next budget e = gone_on plan (item_from (is_there plan.size) None forms) next budget e
after_bounds (Closed plan) first forms next budget e = cc

line_bounds : (state : State) (forms : List PlainSexpr) (next : State) → HasBudget state → after_line state forms ≡ Some next → HasBudget next
line_bounds state [] next budget e = subst HasBudget (let same : state ≡ next = cc in same) budget
line_bounds state (form ∷ forms) next budget e = after_bounds state (line_word form) forms next budget e

end_bounds : (n : ℕ) (state : State) (plan : PlainPlan) → HasBudget state → Ok plan ≡ at_end n state → IsBudget plan.budget
end_bounds n Opening plan budget e = cc
end_bounds n (Reading read) plan budget e = cc
end_bounds n (Closed read) plan budget e = subst (λ (p : PlainPlan). IsBudget p.budget) (let same : read ≡ plan = cc in same) budget

pub plan_bounds : (n : ℕ) (state : State) (lines : List (List ℕ)) (plan : PlainPlan) → HasBudget state → LeadsTo n state lines (Ok plan) → IsBudget plan.budget
plan_bounds n state [] plan budget found = end_bounds n state plan budget found
plan_bounds n state (line ∷ behind) plan budget (inl fit) =
    plan_bounds (n + 1) fit.0 behind plan (line_bounds state fit.1.0 fit.0 budget fit.1.2) fit.2
plan_bounds n state (line ∷ behind) plan budget (inr wrong) = cc (wrong.1)
