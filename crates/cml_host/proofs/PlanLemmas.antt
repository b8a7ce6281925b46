-- What is said of the first bytes of a schedule is said of the whole.
use Rattle.std.proofs.Common.{◌≡◌, ◌∙◌, ◌⊎◌, ◌+◌, ◌<◌, ℕ, Bool, List, take, length, inl, inr, refl, subst, sym, arith}
use Rattle.cml_schedule.specs.Plans.{PlainPlan}
use Rattle.cml_schedule.specs.Reading.{schedule_limit}
use Rattle.cml_host.specs.Plans.{IsPlan, IsNoSchedule, IsSchedule}
use Rattle.cml_host.specs.Scripts.{IsWholeText}
use Rattle.cml_host.specs.Stores.{Content, unknown, nothing, bytes, IsLoaded}
use Rattle.cml_host.proofs.TextLemmas.{all_or_long}

-- what was handed over is all, or too long
all_handed : (all found : List ℕ) → found ≡ take (schedule_limit + 1) all → (found ≡ all) ⊎ ((schedule_limit < length all) × (schedule_limit < length found))
all_handed all found is = go (all_or_long schedule_limit all)
  where
    go : (take (schedule_limit + 1) all ≡ all) ⊎ ((schedule_limit < length all) × (schedule_limit < length (take (schedule_limit + 1) all))) →
        (found ≡ all) ⊎ ((schedule_limit < length all) × (schedule_limit < length found))
    go (inl same) = inl (is ∙ same)
    go (inr long) = inr (long.0, subst (λ (t : List ℕ). schedule_limit < length t) (sym is) long.1)

whole_plan : (all found : List ℕ) (plan : PlainPlan) → found ≡ take (schedule_limit + 1) all → IsSchedule found plan → IsSchedule all plan
whole_plan all found plan is schedule = go (all_handed all found is)
  where
    go : (found ≡ all) ⊎ ((schedule_limit < length all) × (schedule_limit < length found)) → IsSchedule all plan
    go (inl same) = subst (λ (t : List ℕ). IsSchedule t plan) same schedule
    go (inr long) = absurd (omega (arith, long.1, schedule.0))

whole_no_schedule : (explains : Bool) (all found told : List ℕ) (status : ℕ) → found ≡ take (schedule_limit + 1) all → IsNoSchedule explains found told status →
    IsNoSchedule explains all told status
whole_no_schedule explains all found told status is none = go (all_handed all found is) none
  where
    go : (found ≡ all) ⊎ ((schedule_limit < length all) × (schedule_limit < length found)) → IsNoSchedule explains found told status →
        IsNoSchedule explains all told status
    go (inl same) wrong = subst (λ (t : List ℕ). IsNoSchedule explains t told status) same wrong
    go (inr long) (inl short, is) = (inl (long.0, short.1), is)
    go (inr long) (inr wrong, is) = absurd (omega (arith, long.1, wrong.0))

-- what was read of a schedule that lies there
pub plan_there : (content : Content) (found : List ℕ) (plan : PlainPlan) → IsLoaded content schedule_limit found → IsSchedule found plan → IsPlan content plan
plan_there unknown found plan loaded schedule = (found, tt, schedule)
plan_there nothing found plan loaded schedule = absurd loaded
plan_there (bytes all) found plan loaded schedule = (all, refl, whole_plan all found plan loaded schedule)

pub no_plan_there : (explains : Bool) (content : Content) (found told : List ℕ) (status : ℕ) → IsLoaded content schedule_limit found → IsNoSchedule explains found told status →
    (text : List ℕ) × IsWholeText content text × IsNoSchedule explains text told status
no_plan_there explains unknown found told status loaded none = (found, tt, none)
no_plan_there explains nothing found told status loaded none = absurd loaded
no_plan_there explains (bytes all) found told status loaded none = (all, refl, whole_no_schedule explains all found told status loaded none)
