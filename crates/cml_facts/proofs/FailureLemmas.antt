-- The failures of a schedule, one item after another.
use Rattle.std.proofs.Common.{◌≡◌, ◌≢◌, ℕ, ◌+◌, ◌<◌, ◌≤◌, Bool, true, false, cond, List, [], ◌∷◌, ◌++◌, length}
use Rattle.std.proofs.Common.{take, Option, Some, None, refl, sym, ap, subst, ◌∙◌, arith}
use Rattle.std.proofs.Common.{append_assoc, append-nil, zero-add}
use Rattle.std.specs.Prelude.{option_and_then, option_map, slice_get, count_by, Result, Ok, Err, OnOk}
use Rattle.std.specs.Option.{option_to_list}
use Rattle.std.proofs.lemmas.List.{take-append-le, take_all, length-append, length_push}
use Rattle.std.proofs.lemmas.List.Sums.{sum_by-cons}
use Rattle.cml_check.specs.Syntax.{PlainItem}
use Rattle.cml_step.specs.Calls.{text_of}
use Rattle.cml_step.specs.Machines.{PlainMachine, machine_term}
use Rattle.cml_step.specs.Terms.{Program, Term}
use Rattle.cml_step.specs.Slices.{sliced}
use Rattle.cml_schedule.specs.declared.item.Item.{Item}
use Rattle.cml_schedule.specs.declared.item.Item.TheVariants.{Turn, Meet, Exchange, Clock}
use Rattle.cml_value.specs.declared.number.Tid.{Tid}
use Rattle.cml_hub.specs.Performed.{PlainDone, performed}
use Rattle.cml_hub.specs.Deeds.{deed, after_deed, deeds_from, is_fault, fault_count}
use Rattle.cml_hub.specs.Runs.{Run, opening, advance, stands_from, stands}
use Rattle.cml_hub.specs.Courses.{PlainCourse, run_of}
use Rattle.cml_facts.specs.Failures.{Failure, failure_of, failure_if, failure_from, failure_by, failures_from, failures, fault_limit, first_failures}
use Rattle.cml_facts.specs.Failed.{FailsBy, FailsSo}
use Rattle.cml_facts.specs.declared.fault.fact.ThreadFault.{ThreadFault}
use Rattle.cml_facts.specs.ThreadFaults.{Known, IsThreadFault, AreThreadFaults}

-- one item more
failures_from-push : (p : Program) (r : Option Run) (items : List Item) (item : Item) →
    failures_from p r (items ++ item ∷ []) ≡ failures_from p r items ++ option_to_list (option_and_then (λ now. failure_by p now item) (stands_from p r items))
failures_from-push p r [] item = append-nil (option_to_list (option_and_then (λ now. failure_by p now item) r))
failures_from-push p r (first ∷ items) item =
    let here = option_to_list (option_and_then (λ now. failure_by p now first) r) in
    let next = option_and_then (λ now. advance p now first) r in
    ap (λ fs. here ++ fs) (failures_from-push p next items item)
    ∙ sym (append_assoc here (failures_from p next items) (option_to_list (option_and_then (λ now. failure_by p now item) (stands_from p next items))))

pub failures-push : (p : Program) (items : List Item) (item : Item) (now : Run) → stands p items ≡ Some now →
    failures p (items ++ item ∷ []) ≡ failures p items ++ option_to_list (failure_by p now item)
failures-push p items item now leads =
    failures_from-push p (Some (opening p)) items item
    ∙ ap (λ r. failures p items ++ option_to_list (option_and_then (λ now. failure_by p now item) r)) leads

-- there are as many as faults are counted
counted_if : (b : Bool) (f : Failure) (n : ℕ) → cond b 1 0 + n ≡ length (option_to_list (failure_if b f)) + n
counted_if true f n = refl
counted_if false f n = refl

counted_turn : (p : Program) (now : Run) (t : ℕ) (o : Option Term) (ds : List PlainDone) →
    count_by is_fault (after_deed (option_map (λ term. (performed now.world t (sliced p t term).ask).1) o) ds)
    ≡ length (option_to_list (option_and_then (failure_from p now t) o)) + count_by is_fault ds
counted_turn p now t None ds = sym (zero-add (count_by is_fault ds))
counted_turn p now t (Some term) ds =
    let done = (performed now.world t (sliced p t term).ask).1 in
    sum_by-cons (λ (d : PlainDone). cond (is_fault d) 1 0) done ds ∙ counted_if (is_fault done) (failure_of p t term) (count_by is_fault ds)

counted_item : (p : Program) (r : Option Run) (item : Item) (ds : List PlainDone) →
    count_by is_fault (after_deed (option_and_then (λ now. deed p now item) r) ds)
    ≡ length (option_to_list (option_and_then (λ now. failure_by p now item) r)) + count_by is_fault ds
counted_item p None item ds = sym (zero-add (count_by is_fault ds))
counted_item p (Some now) (Turn t) ds = counted_turn p now t.0 (slice_get now.terms t.0) ds
counted_item p (Some now) (Meet row) ds = sym (zero-add (count_by is_fault ds))
counted_item p (Some now) (Exchange row) ds = sym (zero-add (count_by is_fault ds))
counted_item p (Some now) (Clock tick) ds = sym (zero-add (count_by is_fault ds))

counted_from : (p : Program) (r : Option Run) (items : List Item) → count_by is_fault (deeds_from p r items) ≡ length (failures_from p r items)
counted_from p r [] = refl
counted_from p r (item ∷ items) =
    let next = option_and_then (λ now. advance p now item) r in
    let here = option_to_list (option_and_then (λ now. failure_by p now item) r) in
    counted_item p r item (deeds_from p next items)
    ∙ (ap (λ n. length here + n) (counted_from p next items)
    ∙ sym (length-append here (failures_from p next items)))

pub counted : (p : Program) (items : List Item) → fault_count p items ≡ length (failures p items)
counted p items = counted_from p (Some (opening p)) items

-- no fault is counted where there is no failure
none_known : (k : Known) (p : List (PlainItem ℕ)) (fs : List Failure) → 0 ≡ length fs → AreThreadFaults k p (take fault_limit fs) []
none_known k p [] e = tt
none_known k p (f ∷ fs) e = absurd (omega (arith, e))

pub no_faults : (k : Known) (p : List (PlainItem ℕ)) (text : Program) (items : List Item) → fault_count text items ≡ 0 → AreThreadFaults k p (first_failures text items) []
no_faults k p text items none = none_known k p (failures text items) (sym none ∙ counted text items)

-- one more
known-push : (k : Known) (p : List (PlainItem ℕ)) (fs : List Failure) (f : Failure) (old : List ThreadFault) (fault : ThreadFault) → AreThreadFaults k p fs old → IsThreadFault k p f fault →
    AreThreadFaults k p (fs ++ f ∷ []) (old ++ fault ∷ [])
known-push k p [] f [] fault are is = (is, tt)
known-push k p [] f (x ∷ old) fault are is = absurd are
known-push k p (g ∷ fs) f [] fault are is = absurd are
known-push k p (g ∷ fs) f (x ∷ old) fault are is = (are.0, known-push k p fs f old fault are.1 is)

-- ---- what an item makes of the failures

-- the list is as long as it was: nothing was added
still_nothing : (fs gs : List Failure) → length (fs ++ gs) ≡ length fs → gs ≡ []
still_nothing [] [] e = refl
still_nothing [] (g ∷ gs) e = absurd (omega (arith, e))
still_nothing (f ∷ fs) gs e = still_nothing fs gs (omega (arith, e))

pub fails_not : (p : Program) (items : List Item) (item : Item) (now : Run) → stands p items ≡ Some now → fault_count p (items ++ item ∷ []) ≡ fault_count p items →
    failures p (items ++ item ∷ []) ≡ failures p items
fails_not p items item now leads same =
    let gs = option_to_list (failure_by p now item) in
    let grown : failures p (items ++ item ∷ []) ≡ failures p items ++ gs = failures-push p items item now leads in
    let counts : length (failures p items ++ gs) ≡ length (failures p items) =
    sym (ap length grown) ∙ (sym (counted p (items ++ item ∷ [])) ∙ (same ∙ counted p items)) in
    let none : gs ≡ [] = still_nothing (failures p items) gs counts in
    grown ∙ (ap (λ x. failures p items ++ x) none ∙ append-nil (failures p items))

-- nothing but a turn has a thread fail
pub fails_by_none : (p : Program) (items : List Item) (item : Item) (now : Run) → stands p items ≡ Some now → failure_by p now item ≡ None → failures p (items ++ item ∷ []) ≡ failures p items
fails_by_none p items item now leads none =
    failures-push p items item now leads ∙ (ap (λ x. failures p items ++ option_to_list x) none ∙ append-nil (failures p items))

-- a turn by which its thread fails
fails_so : (b : Bool) (f : Failure) (fs : List Failure) → length (fs ++ option_to_list (failure_if b f)) ≢ length fs → failure_if b f ≡ Some f
fails_so true f fs e = refl
fails_so false f fs e = absurd (e (ap length (append-nil fs)))

pub fails_by_turn : (p : Program) (items : List Item) (t : Tid) (now : Run) (term : Term) → stands p items ≡ Some now →
    slice_get now.terms t.0 ≡ Some term → fault_count p (items ++ Turn t ∷ []) ≢ fault_count p items →
    failures p (items ++ Turn t ∷ []) ≡ failures p items ++ failure_of p t.0 term ∷ []
fails_by_turn p items t now term leads there grew =
    let f = failure_of p t.0 term in
    let by : failure_by p now (Turn t) ≡ failure_from p now t.0 term = ap (option_and_then (failure_from p now t.0)) there in
    let grown : failures p (items ++ Turn t ∷ []) ≡ failures p items ++ option_to_list (failure_from p now t.0 term) =
    failures-push p items (Turn t) now leads ∙ ap (λ o. failures p items ++ option_to_list o) by in
    let more : length (failures p items ++ option_to_list (failure_from p now t.0 term)) ≢ length (failures p items) =
    (λ same. grew (counted p (items ++ Turn t ∷ []) ∙ (ap length grown ∙ (same ∙ sym (counted p items))))) in
    let some : failure_from p now t.0 term ≡ Some f = fails_so (is_fault (performed now.world t.0 (sliced p t.0 term).ask).1) f (failures p items) more in
    grown ∙ ap (λ o. failures p items ++ option_to_list o) some

-- ---- what an item makes of what is known

-- no thread failed
pub none_more : (k : Known) (p : List (PlainItem ℕ)) (c : PlainCourse) (item : Item) (faults : List ThreadFault) → FailsSo c item None →
    AreThreadFaults k p (first_failures (text_of c.program) c.items) faults → AreThreadFaults k p (first_failures (text_of c.program) (c.items ++ item ∷ [])) faults
none_more k p c item faults same are = subst (λ fs. AreThreadFaults k p (take fault_limit fs) faults) (sym same) are

-- enough of them are known
pub past_more : (k : Known) (p : List (PlainItem ℕ)) (c : PlainCourse) (item : Item) (before : ℕ) (faults : List ThreadFault) → stands (text_of c.program) c.items ≡ Some (run_of c) →
    before ≡ fault_count (text_of c.program) c.items → fault_limit ≤ before →
    AreThreadFaults k p (first_failures (text_of c.program) c.items) faults → AreThreadFaults k p (first_failures (text_of c.program) (c.items ++ item ∷ [])) faults
past_more k p c item before faults leads was enough are =
    let text = text_of c.program in
    let fs = failures text c.items in
    let many : fault_limit ≤ length fs = subst (λ n. fault_limit ≤ n) (was ∙ counted text c.items) enough in
    let first : first_failures text (c.items ++ item ∷ []) ≡ take fault_limit fs =
    ap (take fault_limit) (failures-push text c.items item (run_of c) leads) ∙ take-append-le fault_limit fs (option_to_list (failure_by text (run_of c) item)) many in
    subst (λ xs. AreThreadFaults k p xs faults) (sym first) are

-- there is room for one more
first_more : (k : Known) (p : List (PlainItem ℕ)) (fs : List Failure) (f : Failure) (old : List ThreadFault) (fault : ThreadFault) → length fs < fault_limit →
    AreThreadFaults k p (take fault_limit fs) old → IsThreadFault k p f fault → AreThreadFaults k p (take fault_limit (fs ++ f ∷ [])) (old ++ fault ∷ [])
first_more k p fs f old fault room are is =
    let before : take fault_limit fs ≡ fs = take_all fault_limit fs (omega (arith, room)) in
    let after : take fault_limit (fs ++ f ∷ []) ≡ fs ++ f ∷ [] = take_all fault_limit (fs ++ f ∷ []) (omega (arith, room, length_push fs f)) in
    subst (λ xs. AreThreadFaults k p xs (old ++ fault ∷ [])) (sym after) (known-push k p fs f old fault (subst (λ xs. AreThreadFaults k p xs old) before are) is)

pub one_more : (k : Known) (c : PlainCourse) (p : List (PlainItem ℕ)) (item : Item) (m : PlainMachine) (before : ℕ) (fault : ThreadFault) (old new : List ThreadFault) →
    c.program ≡ p → before ≡ fault_count (text_of c.program) c.items → before < fault_limit → FailsBy c item m →
    IsThreadFault k p (failure_of (text_of p) m.thread (machine_term p m)) fault → new ≡ old ++ fault ∷ [] →
    AreThreadFaults k c.program (first_failures (text_of c.program) c.items) old → AreThreadFaults k c.program (first_failures (text_of c.program) (c.items ++ item ∷ [])) new
one_more k c p item m before fault old new here was room fell is pushed are =
    let fs = failures (text_of c.program) c.items in
    let f = failure_of (text_of c.program) m.thread (machine_term c.program m) in
    let few : length fs < fault_limit = subst (λ n. n < fault_limit) (was ∙ counted (text_of c.program) c.items) room in
    let own : IsThreadFault k c.program f fault = subst (λ q. IsThreadFault k q (failure_of (text_of q) m.thread (machine_term q m)) fault) (sym here) is in
    subst (λ xs. AreThreadFaults k c.program (take fault_limit xs) new) (sym fell.one_more)
    (subst (AreThreadFaults k c.program (take fault_limit (fs ++ f ∷ []))) (sym pushed) (first_more k c.program fs f old fault few are own))

-- what holds, whatever comes back
pub always : {T E P : Type 0} (r : Result T E) → P → OnOk r P
always (Ok x) h = h
always (Err y) h = tt
