-- The threads that ended at faults, as a schedule comes to them.
use Rattle.std.proofs.Common.{◌≡◌, ℕ, Bool, true, false, List, [], ◌∷◌, ◌++◌, length, Option, Some, None, refl, sym, ap, subst, ◌∙◌, arith}
use Rattle.std.specs.Prelude.{◌==◌, if◌then◌else◌, Vec, Result, Ok, Err, OnOk, IfOk}
use Rattle.std.specs.Option.{option_or}
use Rattle.cml_check.specs.Syntax.{PlainItem}
use Rattle.cml_step.specs.Calls.{text_of}
use Rattle.cml_step.specs.Machines.{PlainMachine, machine_term}
use Rattle.cml_schedule.specs.declared.item.Item.{Item}
use Rattle.cml_hub.specs.Deeds.{fault_count}
use Rattle.cml_hub.specs.Courses.{PlainCourse}
use Rattle.cml_facts.proofs.OrLemmas.{or_none, or_or}
use Rattle.cml_facts.specs.Failures.{Failure, failure_of, failures}
use Rattle.cml_facts.specs.Failed.{FailsBy, FailsSo}
use Rattle.cml_facts.proofs.FailureLemmas.{counted}
use Rattle.std.specs.declared.alloc.Global.{Global}
use Rattle.cml_hub.specs.Kept.{Kept}
use Rattle.cml_facts.specs.declared.fault.detail.Detail.{Detail}
use Rattle.cml_facts.specs.Details.{details_with, AreDetails, fallen_details, AreFallenDetails}
use Rattle.cml_facts.specs.Falls.{PlainFall, failure_if_of, failure_of_thread, IsFall, IsFallOf, AreFalls}

-- one failure more
failure_more : (fs : List Failure) (f : Failure) (t : ℕ) → failure_of_thread (fs ++ f ∷ []) t ≡ option_or (failure_if_of t f) (failure_of_thread fs t)
failure_more [] f t = or_none (failure_if_of t f)
failure_more (g ∷ fs) f t = ap (λ x. option_or x (failure_if_of t g)) (failure_more fs f t) ∙ or_or (failure_if_of t f) (failure_of_thread fs t) (failure_if_of t g)

-- no failure, and no falls
none_at : (p : List (PlainItem ℕ)) (o : Option PlainFall) → o ≡ None → IsFallOf p None o
none_at p None e = tt
none_at p (Some fall) e = cc

no_failures : (fs : List Failure) → 0 ≡ length fs → fs ≡ []
no_failures [] e = refl
no_failures (f ∷ fs) e = absurd (omega arith)

pub none_fell : (p : List (PlainItem ℕ)) (items : List Item) (falls : ℕ → Option PlainFall) → fault_count (text_of p) items ≡ 0 → ((t : ℕ) → falls t ≡ None) → AreFalls p items falls
none_fell p items falls none empty =
    let no : failures (text_of p) items ≡ [] = no_failures (failures (text_of p) items) (sym none ∙ counted (text_of p) items) in
    record { each = λ t. subst (λ (fs : List Failure). IsFallOf p (failure_of_thread fs t) (falls t)) (sym no) (none_at p (falls t) (empty t)) }

-- at the beginning of a schedule
pub begins_so : (p : List (PlainItem ℕ)) (items : List Item) (falls : ℕ → Option PlainFall) → items ≡ [] → ((t : ℕ) → falls t ≡ None) → AreFalls p items falls
begins_so p items falls none empty =
    subst (λ (is : List Item). AreFalls p is falls) (sym none) (record { each = λ t. none_at p (falls t) (empty t) })

-- the fall of one thread more
kept_if : (p : List (PlainItem ℕ)) (f : Failure) (fall : PlainFall) (b : Bool) (o : Option Failure) (q : Option PlainFall) → IsFall p f fall → IsFallOf p o q
    → IsFallOf p (option_or (if b then Some f else None) o) (if b then Some fall else q)
kept_if p f fall true o q is so_far = is
kept_if p f fall false o q is so_far = so_far

pub one_fell : (p : List (PlainItem ℕ)) (fs : List Failure) (f : Failure) (fall : PlainFall) (old new : ℕ → Option PlainFall) (t u : ℕ) → IsFall p f fall → f.thread ≡ u
    → IsFallOf p (failure_of_thread fs t) (old t) → new t ≡ (if u == t then Some fall else old t) → IsFallOf p (failure_of_thread (fs ++ f ∷ []) t) (new t)
one_fell p fs f fall old new t u is whose so_far kept =
    let here : IsFallOf p (option_or (if f.thread == t then Some f else None) (failure_of_thread fs t)) (if f.thread == t then Some fall else old t) =
    kept_if p f fall (f.thread == t) (failure_of_thread fs t) (old t) is so_far in
    let at : (if f.thread == t then Some fall else old t) ≡ new t = ap (λ k. if k == t then Some fall else old t) whose ∙ sym kept in
    subst (λ (o : Option Failure). IsFallOf p o (new t)) (sym (failure_more fs f t))
    (subst (λ (q : Option PlainFall). IsFallOf p (option_or (failure_if_of t f) (failure_of_thread fs t)) q) at here)

-- an item by which no thread fails
pub still_fallen : (c : PlainCourse) (item : Item) (falls : ℕ → Option PlainFall) → FailsSo c item None → AreFalls c.program c.items falls → AreFalls c.program (c.items ++ item ∷ []) falls
still_fallen c item falls same are =
    record { each = λ t. subst (λ (fs : List Failure). IsFallOf c.program (failure_of_thread fs t) (falls t)) (sym same) (are.each t) }

-- one by which a thread fails
pub more_fallen : {T E : Type 0} (r : Result T E) (c : PlainCourse) (item : Item) (q : List (PlainItem ℕ)) (m : PlainMachine) (fall : PlainFall) (u : ℕ) (old kept : ℕ → Option PlainFall) →
    FailsBy c item m → q ≡ c.program → u ≡ m.thread → IsFall q (failure_of (text_of q) m.thread (machine_term q m)) fall →
    OnOk r ((t : ℕ) → kept t ≡ (if u == t then Some fall else old t)) →
    OnOk r (AreFalls c.program c.items old → AreFalls c.program (c.items ++ item ∷ []) kept)
more_fallen (Ok x) c item q m fall u old kept fails same own fell keeps = λ are.
    let f = failure_of (text_of c.program) m.thread (machine_term c.program m) in
    let here : IsFall c.program f fall = subst (λ (r : List (PlainItem ℕ)). IsFall r (failure_of (text_of r) m.thread (machine_term r m)) fall) same fell in
    record {
      each = λ t. subst (λ (fs : List Failure). IsFallOf c.program (failure_of_thread fs t) (kept t)) (sym fails.one_more)
          (one_fell c.program (failures (text_of c.program) c.items) f fall old kept t u here (sym own) (are.each t) (keeps t));
    }
more_fallen (Err y) c item q m fall u old kept fails same own fell keeps = tt

-- the details of a run, if memory was enough
pub details_so : {E : Type 0} (r : Result (Vec Detail Global) E) (h : Kept) (falls : ℕ → Option PlainFall) → AreFalls h.course.program h.course.items falls
    → IfOk r (λ ds. ds.items ≡ details_with h falls) → IfOk r (λ ds. AreDetails h ds.items)
details_so (Ok ds) h falls are is = record { falls = falls; are = are; details_are = is }
details_so (Err e) h falls are is = tt

-- those of its threads that ended at faults
pub fallen_so : {E : Type 0} (r : Result (Vec Detail Global) E) (h : Kept) (falls : ℕ → Option PlainFall) → AreFalls h.course.program h.course.items falls
    → IfOk r (λ ds. ds.items ≡ fallen_details h.course falls 0 h.course.world.threads) → IfOk r (λ ds. AreFallenDetails h ds.items)
fallen_so (Ok ds) h falls are is = record { falls = falls; are = are; details_are = is }
fallen_so (Err e) h falls are is = tt
