-- One run more among classes.
use Rattle.std.proofs.Common.{◌≡◌, ℕ, zero, suc, ◌<◌, Bool, true, false, if◌then◌else◌, ◌||◌, List, [], ◌∷◌, ◌++◌, map, length, get_or, set, Some, None, refl, sym, ap, subst, ◌∙◌, arith}
use Rattle.std.specs.Prelude.{position, slice_get, Result, Ok, Err, OnOk, OnErr}
use Rattle.std.proofs.lemmas.List.{set-get_or}
use Rattle.std.proofs.lemmas.List.Quantifiers.{position-Some}
use Rattle.std.proofs.lemmas.Option.{slice_get-get_or}
use Rattle.std.specs.List.{All, list_any}
use Rattle.std.proofs.lemmas.List.Elements.{All-head, All-tail}
use Rattle.cml_facts.proofs.OrLemmas.{or_false}
use Rattle.cml_facts.specs.declared.fault.detail.Detail.{Detail}
use Rattle.cml_facts.specs.Details.{alike}
use Rattle.cml_explore.specs.Classes.{Finish, PlainSummary, PlainClass, first_run, grown, classed, with_details}

-- It joins the class of this number, which is the first of those that ended alike.
classed_at : {K : Type 0} (f : K → List Detail) (seed : ℕ) (end : Finish) (ks : List K) (ts : List PlainSummary) (i : ℕ) (k : K) (t : PlainSummary) → length ks ≡ length ts → i < length ks
    → alike end.details (f (get_or ks i k)) ≡ true → ((j : ℕ) → j < i → alike end.details (f (get_or ks j k)) ≡ false)
    → with_details (map f ks) (set ts i (grown (get_or ts i t) end)) ≡ classed seed end (with_details (map f ks) ts)
classed_at f seed end [] ts i k t same h is first = absurd (omega arith)
classed_at f seed end (d ∷ ds) [] i k t same h is first = cc
classed_at f seed end (d ∷ ds) (u ∷ ts) zero k t same h is first =
    let c : PlainClass = record { details = f d; summary = u } in
    let rest = with_details (map f ds) ts in
    sym (ap (λ b. if b then record c { summary = grown c.summary end } ∷ rest else c ∷ classed seed end rest) is)
classed_at f seed end (d ∷ ds) (u ∷ ts) (suc i) k t same h is first =
    let c : PlainClass = record { details = f d; summary = u } in
    let rest = with_details (map f ds) ts in
    let tail : length ds ≡ length ts = omega arith in
    let lt : i < length ds = omega arith in
    ap (λ cs. c ∷ cs) (classed_at f seed end ds ts i k t tail lt is (λ j g. first (suc j) (omega arith)))
    ∙ sym (ap (λ b. if b then record c { summary = grown c.summary end } ∷ rest else c ∷ classed seed end rest) (first zero (omega arith)))

-- None ended alike: it is the first of a class.
classed_new : {K : Type 0} (f : K → List Detail) (seed : ℕ) (end : Finish) (ks : List K) (ts : List PlainSummary) → length ks ≡ length ts
    → list_any (λ k. alike end.details (f k)) ks ≡ false
    → with_details (map f ks ++ end.details ∷ []) (ts ++ first_run seed end ∷ []) ≡ classed seed end (with_details (map f ks) ts)
classed_new f seed end [] [] same none = refl
classed_new f seed end [] (u ∷ ts) same none = cc
classed_new f seed end (d ∷ ds) [] same none = cc
classed_new f seed end (d ∷ ds) (u ∷ ts) same none =
    let c : PlainClass = record { details = f d; summary = u } in
    let rest = with_details (map f ds) ts in
    let rest_none = list_any (λ k. alike end.details (f k)) ds in
    let tail : length ds ≡ length ts = omega arith in
    ap (λ cs. c ∷ cs) (classed_new f seed end ds ts tail (or_false (alike end.details (f d)) rest_none none).1)
    ∙ sym (ap (λ b. if b then record c { summary = grown c.summary end } ∷ rest else c ∷ classed seed end rest) (or_false (alike end.details (f d)) rest_none none).0)

-- each class has few runs, so each summary has
few_at : {K : Type 0} (f : K → List Detail) (n : ℕ) (ks : List K) (ts : List PlainSummary) (i : ℕ) (t : PlainSummary) → length ks ≡ length ts → i < length ks
    → All (λ (c : PlainClass). c.summary.runs < n) (with_details (map f ks) ts) → (get_or ts i t).runs < n
few_at f n [] ts i t same h few = absurd (omega arith)
few_at f n (d ∷ ds) [] i t same h few = absurd (omega arith)
few_at f n (d ∷ ds) (u ∷ ts) zero t same h few =
    All-head (λ (c : PlainClass). c.summary.runs < n) (record { details = f d; summary = u }) (with_details (map f ds) ts) few
few_at f n (d ∷ ds) (u ∷ ts) (suc i) t same h few =
    let tail : length ds ≡ length ts = omega arith in
    let lt : i < length ds = omega arith in
    few_at f n ds ts i t tail lt (All-tail (λ (c : PlainClass). c.summary.runs < n) (record { details = f d; summary = u }) (with_details (map f ds) ts) few)

-- the class that is grown has few runs
pub joins_few : {K : Type 0} (f : K → List Detail) (n : ℕ) (end : Finish) (ks : List K) (ts : List PlainSummary) (i : ℕ) (k : K) (t : PlainSummary) (old : List PlainClass)
    → length ks ≡ length ts → position (λ x. alike end.details (f x)) ks ≡ Some i → t ≡ get_or ts i t → old ≡ with_details (map f ks) ts
    → All (λ (c : PlainClass). c.summary.runs < n) old → t.runs < n
joins_few f n end ks ts i k t old same at is view few =
    let found = position-Some (λ x. alike end.details (f x)) ks i k at in
    subst (λ (x : PlainSummary). x.runs < n) (sym is) (few_at f n ks ts i t same found.0 (subst (λ cs. All (λ (c : PlainClass). c.summary.runs < n) cs) view few))

-- The run joins its class, if memory was enough.
pub joins : {K T E : Type 0} (r : Result T E) (f : K → List Detail) (seed : ℕ) (end : Finish) (ks : List K) (ts : List PlainSummary) (i : ℕ) (k : K) (t new : PlainSummary) (old : List PlainClass)
    → length ks ≡ length ts → position (λ x. alike end.details (f x)) ks ≡ Some i → t ≡ get_or ts i t → old ≡ with_details (map f ks) ts
    → OnOk r ((d : List Detail) → new ≡ grown t (record { details = d; digest = end.digest; items = end.items }))
    → OnOk r (with_details (map f ks) (set ts i new) ≡ classed seed end old)
joins (Ok x) f seed end ks ts i k t new old same at is view more =
    let found = position-Some (λ x. alike end.details (f x)) ks i k at in
    let by : new ≡ grown (get_or ts i t) end = more end.details ∙ ap (λ u. grown u end) is in
    ap (λ u. with_details (map f ks) (set ts i u)) by
    ∙ (classed_at f seed end ks ts i k t same found.0 found.1 found.2 ∙ ap (classed seed end) (sym view))
joins (Err y) f seed end ks ts i k t new old same at is view more = tt

-- Where memory was not enough, nothing has changed.
pub joins_not : {K T E : Type 0} (r : Result T E) (f : K → List Detail) (ks : List K) (ts : List PlainSummary) (i : ℕ)
    (t new : PlainSummary) (old : List PlainClass) → t ≡ get_or ts i t → old ≡ with_details (map f ks) ts
    → OnErr r (new ≡ t) → OnErr r (with_details (map f ks) (set ts i new) ≡ old)
joins_not (Ok x) f ks ts i t new old is view same = tt
joins_not (Err y) f ks ts i t new old is view same =
    ap (λ u. with_details (map f ks) (set ts i u)) (same ∙ is) ∙ (ap (with_details (map f ks)) (set-get_or ts i t) ∙ sym view)

pub begins_not : {K T E : Type 0} (r : Result T E) (f : K → List Detail) (ks new_ks : List K) (ts new_ts : List PlainSummary) (old : List PlainClass) → old ≡ with_details (map f ks) ts
    → OnErr r ((new_ks ≡ ks) × (new_ts ≡ ts)) → OnErr r (with_details (map f new_ks) new_ts ≡ old)
begins_not (Ok x) f ks new_ks ts new_ts old view same = tt
begins_not (Err y) f ks new_ks ts new_ts old view same =
    ap (λ k. with_details (map f k) new_ts) same.0 ∙ (ap (with_details (map f ks)) same.1 ∙ sym view)

-- It begins a class, if memory was enough.
pub begins : {K T E : Type 0} (r : Result T E) (f : K → List Detail) (seed : ℕ) (end : Finish) (ks : List K)
    (ts : List PlainSummary) (new_details : List (List Detail)) (new_summaries : List PlainSummary) (old : List PlainClass)
    → length ks ≡ length ts → list_any (λ x. alike end.details (f x)) ks ≡ false → old ≡ with_details (map f ks) ts
    → OnOk r (new_details ≡ map f ks ++ end.details ∷ []) → OnOk r (new_summaries ≡ ts ++ first_run seed end ∷ [])
    → OnOk r (with_details new_details new_summaries ≡ classed seed end old)
begins (Ok x) f seed end ks ts new_details new_summaries old same none view known told =
    ap (λ ds. with_details ds new_summaries) known
    ∙ (ap (with_details (map f ks ++ end.details ∷ [])) told
    ∙ (classed_new f seed end ks ts same none ∙ ap (classed seed end) (sym view)))
begins (Err y) f seed end ks ts new_details new_summaries old same none view known told = tt

-- a summary was appended, which is this one
pub last_is : {A T E : Type 0} (r : Result T E) (old new : List A) (t u : A) → t ≡ u → OnOk r (new ≡ old ++ t ∷ []) → OnOk r (new ≡ old ++ u ∷ [])
last_is (Ok x) old new t u same more = more ∙ ap (λ v. old ++ v ∷ []) same
last_is (Err y) old new t u same more = tt

-- there are as many classes as summaries
pub class_count : {K : Type 0} (f : K → List Detail) (ks : List K) (ts : List PlainSummary) → length ks ≡ length ts → length (with_details (map f ks) ts) ≡ length ts
class_count f [] [] same = refl
class_count f [] (u ∷ ts) same = cc
class_count f (d ∷ ds) [] same = refl
class_count f (d ∷ ds) (u ∷ ts) same =
    let tail : length ds ≡ length ts = omega arith in
    let rest = class_count f ds ts tail in
    omega (arith, rest)

-- the class of this number
pub class_at : {K : Type 0} (f : K → List Detail) (ks : List K) (ts : List PlainSummary) (n : ℕ) (k : K) (t : PlainSummary) → slice_get ks n ≡ Some k → slice_get ts n ≡ Some t
    → slice_get (with_details (map f ks) ts) n ≡ Some (record { details = f k; summary = t })
class_at f [] ts n k t at is = cc
class_at f (d ∷ ds) [] n k t at is = cc
class_at f (d ∷ ds) (u ∷ ts) zero k t at is = let e : d ≡ k = cc in let g : u ≡ t = cc in cc
class_at f (d ∷ ds) (u ∷ ts) (suc n) k t at is = class_at f ds ts n k t at is

not_past : {K : Type 0} (ks : List K) (n : ℕ) → n < length ks → None ≡ slice_get ks n → ⊥
not_past [] n h past = absurd (omega arith)
not_past (k ∷ ks) zero h past = cc
not_past (k ∷ ks) (suc n) h past = let lt : n < length ks = omega arith in not_past ks n lt past

-- there is a class of each number below how many there are
pub class_there : {K : Type 0} (f : K → List Detail) (ks : List K) (ts : List PlainSummary) (n : ℕ) (old : List PlainClass) → length ks ≡ length ts → with_details (map f ks) ts ≡ old → n < length old
    → None ≡ slice_get ks n → ⊥
class_there f ks ts n old same view h past =
    let many = class_count f ks ts same in
    let long : length (with_details (map f ks) ts) ≡ length old = ap length view in
    not_past ks n (omega (arith, many, long)) past

-- and it is this one
pub class_is : {K : Type 0} (f : K → List Detail) (ks : List K) (ts : List PlainSummary) (n : ℕ) (k : K) (t : PlainSummary) (d : List Detail) (old : List PlainClass) → length ks ≡ length ts
    → with_details (map f ks) ts ≡ old → n < length old → Some k ≡ slice_get ks n → t ≡ get_or ts n t → d ≡ f k → slice_get old n ≡ Some (record { details = d; summary = t })
class_is f ks ts n k t d old same view h at is details =
    let many = class_count f ks ts same in
    let long : length (with_details (map f ks) ts) ≡ length old = ap length view in
    let lt : n < length ts = omega (arith, many, long) in
    let there : slice_get ts n ≡ Some t = slice_get-get_or ts n t lt ∙ ap Some (sym is) in
    sym (ap (λ cs. slice_get cs n) view)
    ∙ (class_at f ks ts n k t (sym at) there ∙ ap (λ (x : List Detail). Some (record { details = x; summary = t })) (sym details))
