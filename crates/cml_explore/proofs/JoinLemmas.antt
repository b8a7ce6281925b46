-- A class of a later part among classes.
use Rattle.std.proofs.Common.{◌≡◌, ℕ, zero, suc, ◌+◌, ◌<◌, ◌≤◌, Bool, true, false, if◌then◌else◌, ◌||◌, List, []}
use Rattle.std.proofs.Common.{◌∷◌, ◌++◌, map, length, take, get_or, set, ◌^◌, Some, refl, sym, ap, subst, ◌∙◌}
use Rattle.std.proofs.Common.{arith}
use Rattle.std.specs.Prelude.{position, slice_get, Result, Ok, Err, OnOk}
use Rattle.std.proofs.lemmas.List.Quantifiers.{position-Some}
use Rattle.std.proofs.lemmas.List.Sums.{sum_by-cons}
use Rattle.std.specs.List.{All, list_any}
use Rattle.std.proofs.lemmas.List.Elements.{All-nil, All-cons, All-head, All-tail}
use Rattle.cml_facts.proofs.OrLemmas.{or_false}
use Rattle.cml_facts.specs.declared.fault.detail.Detail.{Detail}
use Rattle.cml_facts.specs.Details.{alike}
use Rattle.cml_explore.specs.Classes.{PlainSummary, PlainClass, with_details}
use Rattle.cml_explore.specs.Merges.{both_summaries, summary_alone, class_joined, classes_merged, runs_of}

abbrev joined_class : PlainClass → PlainClass → PlainClass
joined_class c d = record c { summary = both_summaries c.summary d.summary }

-- It joins the class of this number, which is the first of those that ended alike.
joined_at : {K : Type 0} (f : K → List Detail) (d : PlainClass) (ks : List K) (ts : List PlainSummary) (i : ℕ) (k : K) (t : PlainSummary) → length ks ≡ length ts → i < length ks
    → alike d.details (f (get_or ks i k)) ≡ true → ((j : ℕ) → j < i → alike d.details (f (get_or ks j k)) ≡ false)
    → with_details (map f ks) (set ts i (both_summaries (get_or ts i t) d.summary)) ≡ class_joined (with_details (map f ks) ts) d
joined_at f d [] ts i k t same h is first = absurd (omega arith)
joined_at f d (x ∷ ks) [] i k t same h is first = cc
joined_at f d (x ∷ ks) (u ∷ ts) zero k t same h is first =
    let c : PlainClass = record { details = f x; summary = u } in
    let rest = with_details (map f ks) ts in
    sym (ap (λ b. if b then joined_class c d ∷ rest else c ∷ class_joined rest d) is)
joined_at f d (x ∷ ks) (u ∷ ts) (suc i) k t same h is first =
    let c : PlainClass = record { details = f x; summary = u } in
    let rest = with_details (map f ks) ts in
    let tail : length ks ≡ length ts = omega arith in
    let lt : i < length ks = omega arith in
    ap (λ cs. c ∷ cs) (joined_at f d ks ts i k t tail lt is (λ j g. first (suc j) (omega arith)))
    ∙ sym (ap (λ b. if b then joined_class c d ∷ rest else c ∷ class_joined rest d) (first zero (omega arith)))

-- None ended alike: it comes last.
joined_new : {K : Type 0} (f : K → List Detail) (d : PlainClass) (ks : List K) (ts : List PlainSummary) → length ks ≡ length ts
    → list_any (λ k. alike d.details (f k)) ks ≡ false
    → with_details (map f ks ++ d.details ∷ []) (ts ++ summary_alone d.summary ∷ []) ≡ class_joined (with_details (map f ks) ts) d
joined_new f d [] [] same none = refl
joined_new f d [] (u ∷ ts) same none = cc
joined_new f d (x ∷ ks) [] same none = cc
joined_new f d (x ∷ ks) (u ∷ ts) same none =
    let c : PlainClass = record { details = f x; summary = u } in
    let rest = with_details (map f ks) ts in
    let rest_none = list_any (λ k. alike d.details (f k)) ks in
    let tail : length ks ≡ length ts = omega arith in
    ap (λ cs. c ∷ cs) (joined_new f d ks ts tail (or_false (alike d.details (f x)) rest_none none).1)
    ∙ sym (ap (λ b. if b then joined_class c d ∷ rest else c ∷ class_joined rest d) (or_false (alike d.details (f x)) rest_none none).0)

-- each class leaves room for so many runs, so each summary does
room_at : {K : Type 0} (f : K → List Detail) (m n : ℕ) (ks : List K) (ts : List PlainSummary) (i : ℕ) (t : PlainSummary) → length ks ≡ length ts → i < length ks
    → All (λ (c : PlainClass). c.summary.runs + m < n) (with_details (map f ks) ts) → (get_or ts i t).runs + m < n
room_at f m n [] ts i t same h few = absurd (omega arith)
room_at f m n (x ∷ ks) [] i t same h few = absurd (omega arith)
room_at f m n (x ∷ ks) (u ∷ ts) zero t same h few =
    All-head (λ (c : PlainClass). c.summary.runs + m < n) (record { details = f x; summary = u }) (with_details (map f ks) ts) few
room_at f m n (x ∷ ks) (u ∷ ts) (suc i) t same h few =
    let tail : length ks ≡ length ts = omega arith in
    let lt : i < length ks = omega arith in
    room_at f m n ks ts i t tail lt (All-tail (λ (c : PlainClass). c.summary.runs + m < n) (record { details = f x; summary = u }) (with_details (map f ks) ts) few)

-- the class that it joins leaves room for its runs
pub joins_room : {K : Type 0} (f : K → List Detail) (m n : ℕ) (ds : List Detail) (ks : List K) (ts : List PlainSummary) (i : ℕ) (k : K) (t : PlainSummary) (old : List PlainClass)
    → length ks ≡ length ts → position (λ x. alike ds (f x)) ks ≡ Some i → t ≡ get_or ts i t → old ≡ with_details (map f ks) ts
    → All (λ (c : PlainClass). c.summary.runs + m < n) old → t.runs + m < n
joins_room f m n ds ks ts i k t old same at is view few =
    let found = position-Some (λ x. alike ds (f x)) ks i k at in
    subst (λ (x : PlainSummary). x.runs + m < n) (sym is) (room_at f m n ks ts i t same found.0 (subst (λ cs. All (λ (c : PlainClass). c.summary.runs + m < n) cs) view few))

abbrev class_of : List Detail → PlainSummary → PlainClass
class_of ds t = record { details = ds; summary = t }

-- It joins its class, if memory was enough.
pub joins_class : {K T E : Type 0} (r : Result T E) (f : K → List Detail) (ds own : List Detail) (u : PlainSummary)
    (ks : List K) (ts : List PlainSummary) (i : ℕ) (k : K) (t new : PlainSummary) (old : List PlainClass)
    → length ks ≡ length ts → position (λ x. alike ds (f x)) ks ≡ Some i → t ≡ get_or ts i t → old ≡ with_details (map f ks) ts → ds ≡ own
    → OnOk r (new ≡ both_summaries t u)
    → OnOk r (with_details (map f ks) (set ts i new) ≡ class_joined old (class_of own u))
joins_class (Ok x) f ds own u ks ts i k t new old same at is view copied more =
    let found = position-Some (λ x. alike ds (f x)) ks i k at in
    let by : new ≡ both_summaries (get_or ts i t) u = more ∙ ap (λ v. both_summaries v u) is in
    ap (λ v. with_details (map f ks) (set ts i v)) by
    ∙ (joined_at f (class_of ds u) ks ts i k t same found.0 found.1 found.2
    ∙ (ap (λ cs. class_joined cs (class_of ds u)) (sym view) ∙ ap (λ l. class_joined old (class_of l u)) copied))
joins_class (Err y) f ds own u ks ts i k t new old same at is view copied more = tt

-- It is a class more, if memory was enough.
pub begins_class : {K T E : Type 0} (r : Result T E) (f : K → List Detail) (ds own : List Detail) (u copy : PlainSummary)
    (ks : List K) (ts : List PlainSummary) (new_details : List (List Detail)) (new_summaries : List PlainSummary)
    (old : List PlainClass)
    → length ks ≡ length ts → list_any (λ x. alike ds (f x)) ks ≡ false → old ≡ with_details (map f ks) ts → ds ≡ own → copy ≡ summary_alone u
    → OnOk r (new_details ≡ map f ks ++ ds ∷ []) → OnOk r (new_summaries ≡ ts ++ copy ∷ [])
    → OnOk r (with_details new_details new_summaries ≡ class_joined old (class_of own u))
begins_class (Ok x) f ds own u copy ks ts new_details new_summaries old same none view copied is known told =
    ap (λ l. with_details l new_summaries) known
    ∙ (ap (with_details (map f ks ++ ds ∷ [])) (told ∙ ap (λ v. ts ++ v ∷ []) is)
    ∙ (joined_new f (class_of ds u) ks ts same none
    ∙ (ap (λ cs. class_joined cs (class_of ds u)) (sym view) ∙ ap (λ l. class_joined old (class_of l u)) copied)))
begins_class (Err y) f ds own u copy ks ts new_details new_summaries old same none view copied is known told = tt

-- ---- runs are counted

joined_runs_if : (b : Bool) (c d : PlainClass) (cs rest : List PlainClass) → runs_of rest ≡ runs_of cs + d.summary.runs
    → runs_of (if b then joined_class c d ∷ cs else c ∷ rest) ≡ runs_of (c ∷ cs) + d.summary.runs
joined_runs_if true c d cs rest more =
    let f : PlainClass → ℕ = λ x. x.summary.runs in
    omega (arith, sum_by-cons f (joined_class c d) cs, sum_by-cons f c cs)
joined_runs_if false c d cs rest more =
    let f : PlainClass → ℕ = λ x. x.summary.runs in
    omega (arith, more, sum_by-cons f c rest, sum_by-cons f c cs)

joined_runs : (d : PlainClass) (cs : List PlainClass) → runs_of (class_joined cs d) ≡ runs_of cs + d.summary.runs
joined_runs d [] = let f : PlainClass → ℕ = λ x. x.summary.runs in omega (arith, sum_by-cons f (record d { summary = summary_alone d.summary }) [])
joined_runs d (c ∷ cs) = joined_runs_if (alike d.details c.details) c d cs (class_joined cs d) (joined_runs d cs)

merged_runs : (ds cs : List PlainClass) → runs_of (classes_merged cs ds) ≡ runs_of cs + runs_of ds
merged_runs [] cs = omega arith
merged_runs (d ∷ ds) cs =
    let f : PlainClass → ℕ = λ x. x.summary.runs in
    let rest = merged_runs ds (class_joined cs d) in
    let one = joined_runs d cs in
    omega (arith, rest, one, sum_by-cons f d ds)

runs_before : (ds : List PlainClass) (i : ℕ) (d : PlainClass) → slice_get ds i ≡ Some d → runs_of (take i ds) + d.summary.runs ≤ runs_of ds
runs_before [] i d at = cc
runs_before (x ∷ ds) zero d at =
    let f : PlainClass → ℕ = λ c. c.summary.runs in
    let is : x ≡ d = cc in
    let same : x.summary.runs ≡ d.summary.runs = ap f is in
    omega (arith, same, sum_by-cons f x ds)
runs_before (x ∷ ds) (suc i) d at =
    let f : PlainClass → ℕ = λ c. c.summary.runs in
    let rest = runs_before ds i d at in
    omega (arith, rest, sum_by-cons f x ds, sum_by-cons f x (take i ds))

each_leaves : (m n : ℕ) (cs : List PlainClass) → runs_of cs + m < n → All (λ (c : PlainClass). c.summary.runs + m < n) cs
each_leaves m n [] h = All-nil (λ (c : PlainClass). c.summary.runs + m < n)
each_leaves m n (c ∷ cs) h =
    let f : PlainClass → ℕ = λ x. x.summary.runs in
    let more = sum_by-cons f c cs in
    All-cons (λ (x : PlainClass). x.summary.runs + m < n) c cs (omega (arith, h, more)) (each_leaves m n cs (omega (arith, h, more)))

-- the classes so far leave room for the class that comes next
pub leaves_room : (old later now : List PlainClass) (i : ℕ) (d : PlainClass) → slice_get later i ≡ Some d → now ≡ classes_merged old (take i later) → runs_of old + runs_of later < 2 ^ 64
    → All (λ (c : PlainClass). c.summary.runs + d.summary.runs < 2 ^ 64) now
leaves_room old later now i d at is few =
    let all : runs_of now ≡ runs_of old + runs_of (take i later) = ap runs_of is ∙ merged_runs (take i later) old in
    let before = runs_before later i d at in
    each_leaves d.summary.runs (2 ^ 64) now (omega (arith, all, before, few))

fold_next : (later old : List PlainClass) (i : ℕ) (d : PlainClass) → slice_get later i ≡ Some d → classes_merged old (take (suc i) later) ≡ class_joined (classes_merged old (take i later)) d
fold_next [] old i d at = cc
fold_next (x ∷ later) old zero d at = let is : x ≡ d = cc in ap (class_joined old) is
fold_next (x ∷ later) old (suc i) d at = fold_next later (class_joined old x) i d at

-- a class more was joined
pub joined_next : (old later now new : List PlainClass) (i : ℕ) (d : PlainClass) → slice_get later i ≡ Some d → now ≡ classes_merged old (take i later) → new ≡ class_joined now d
    → new ≡ classes_merged old (take (i + 1) later)
joined_next old later now new i d at is more =
    let next : suc i ≡ i + 1 = omega arith in
    more ∙ (ap (λ cs. class_joined cs d) is ∙ (sym (fold_next later old i d at) ∙ ap (λ k. classes_merged old (take k later)) next))
