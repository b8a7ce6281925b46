-- What a schedule gives.
use Rattle.std.proofs.Common.{◌≡◌, ℕ, suc, Bool, List, [], ◌∷◌, ap, refl, subst, ◌∙◌}
use Rattle.std.specs.Prelude.{Option, Some, None, Result, IfOk, is_some}
use Rattle.std.proofs.lemmas.Result.{IfOk-weaker}
use Rattle.cml_check.specs.Syntax.{PlainItem}
use Rattle.cml_facts.proofs.ThreadLemmas.{IsMade}
use Rattle.cml_facts.specs.Failures.{Failure, failures}
use Rattle.cml_facts.specs.Falls.{PlainFall, AreFalls, IsFallOf, failure_of_thread}
use Rattle.cml_hub.specs.Kept.{Kept}
use Rattle.cml_scan.specs.World.{PlainThread}
use Rattle.cml_schedule.specs.declared.item.Item.{Item}
use Rattle.cml_step.specs.Calls.{text_of}
use Rattle.cml_explore.specs.declared.outcome.Outcome.{Outcome}
use Rattle.cml_explore.specs.Ends.{HasGoneThrough}
use Rattle.cml_explore.specs.Outcomes.{GivesOutcome, ends_from, has_fallen, plain_outcome, thread_end}

-- one thread after another
pub ends_made : (fell : ℕ → Bool) → IsMade (λ t thread. thread_end (fell t) thread ∷ []) (ends_from fell)
ends_made fell = record { none = λ i. refl; more = λ i t threads. refl }

same_ends : (f g : ℕ → Bool) → ((t : ℕ) → f t ≡ g t) → (i : ℕ) (threads : List PlainThread) → ends_from f i threads ≡ ends_from g i threads
same_ends f g same i [] = refl
same_ends f g same i (t ∷ threads) =
    ap (λ b. thread_end b t ∷ ends_from f (suc i) threads) (same i) ∙ ap (λ rest. thread_end (g i) t ∷ rest) (same_ends f g same (suc i) threads)

both_or_none : (p : List (PlainItem ℕ)) (a : Option Failure) (b : Option PlainFall) → IsFallOf p a b → is_some b ≡ is_some a
both_or_none p None None is = refl
both_or_none p None (Some fall) is = absurd is
both_or_none p (Some f) None is = absurd is
both_or_none p (Some f) (Some fall) is = refl

-- the threads of the falls are those that ended at a fault
pub ends_fallen : (p : List (PlainItem ℕ)) (items : List Item) (falls : ℕ → Option PlainFall) → AreFalls p items falls → (threads : List PlainThread)
    → ends_from (λ t. is_some (falls t)) 0 threads ≡ ends_from (has_fallen (text_of p) items) 0 threads
ends_fallen p items falls are threads =
    same_ends (λ t. is_some (falls t)) (has_fallen (text_of p) items)
    (λ t. both_or_none p (failure_of_thread (failures (text_of p) items) t) (falls t) (are.each t)) 0 threads

-- what the schedule of a hub gives is what this one does, if the hub has gone through it
pub given_by : {E : Type 0} (r : Result Outcome E) (p : List (PlainItem ℕ)) (schedule : List Item) (h : Kept) → HasGoneThrough p schedule h
    → IfOk r (λ o. GivesOutcome h.course.program h.course.items (plain_outcome o)) → IfOk r (λ o. GivesOutcome p schedule (plain_outcome o))
given_by r p schedule h by gives =
    IfOk-weaker r _ _
    (λ o is. subst (λ (s : List Item). GivesOutcome p s (plain_outcome o)) by.items_are
    (subst (λ (q : List (PlainItem ℕ)). GivesOutcome q h.course.items (plain_outcome o)) by.program is)) gives
