-- One class more.
use Rattle.std.proofs.Common.{◌≡◌, ℕ, suc, ◌+◌, ◌<◌, List, [], ◌∷◌, ◌++◌, map, take, length, get_or, Some, zero-add, sym, ap, subst, ◌∙◌, arith}
use Rattle.std.specs.Prelude.{slice_get, Vec, Result, Ok, Err, IfOk}
use Rattle.std.specs.List.{All}
use Rattle.std.specs.declared.alloc.Global.{Global}
use Rattle.std.proofs.lemmas.List.Elements.{All-nil, All-cons, All-head, All-tail}
use Rattle.std.proofs.lemmas.List.Sorted.{All-permutation}
use Rattle.std.proofs.lemmas.List.{take_more, length-take-le}
use Rattle.std.proofs.lemmas.Option.{slice_get-get_or}
use Rattle.cml_explore.specs.Classes.{PlainClass}
use Rattle.cml_explore.specs.Ranks.{Rank, ranks_from, AreRanked, AreInRank}

some_same : {X : Type 0} (x y : X) → Some x ≡ Some y → x ≡ y
some_same x y h = cc

ranks_push : (j : ℕ) (cs : List PlainClass) (n : ℕ) (c : PlainClass) → n ≡ j + length cs → ranks_from j (cs ++ c ∷ []) ≡ ranks_from j cs ++ (record { 0 = c.summary.runs }, n) ∷ []
ranks_push j [] n c at = let here : j ≡ n = omega arith in ap (λ k. (record { 0 = c.summary.runs }, k) ∷ []) here
ranks_push j (x ∷ cs) n c at =
    let next : n ≡ suc j + length cs = omega arith in
    ap (λ l. (record { 0 = x.summary.runs }, j) ∷ l) (ranks_push (suc j) cs n c next)

length_taken : (k : ℕ) (cs : List PlainClass) → k < length cs → length (take k cs) ≡ k
length_taken k cs h = length-take-le k cs (omega arith)

pub ranks_more : (cs : List PlainClass) (k : ℕ) (c : PlainClass) (old new : List Rank) → k < length cs → slice_get cs k ≡ Some c
    → old ≡ ranks_from 0 (take k cs) → new ≡ old ++ (record { 0 = c.summary.runs }, k) ∷ [] → new ≡ ranks_from 0 (take (k + 1) cs)
ranks_more cs k c old new h is so_far more =
    let e : c ≡ get_or cs k c = some_same c (get_or cs k c) (sym is ∙ slice_get-get_or cs k c h) in
    let long : length (take k cs) ≡ k = length_taken k cs h in
    let split : take (k + 1) cs ≡ take k cs ++ c ∷ [] = take_more cs k c h ∙ ap (λ x. take k cs ++ x ∷ []) (sym e) in
    more ∙ (ap (λ l. l ++ (record { 0 = c.summary.runs }, k) ∷ []) so_far
    ∙ (sym (ranks_push 0 (take k cs) k c (omega arith)) ∙ ap (ranks_from 0) (sym split)))

-- each number is one of a class
ranks_below : (j n : ℕ) (cs : List PlainClass) → n ≡ j + length cs → All (λ (r : Rank). r.1 < n) (ranks_from j cs)
ranks_below j n [] at = All-nil (λ (r : Rank). r.1 < n)
ranks_below j n (c ∷ cs) at =
    let next : n ≡ suc j + length cs = omega (arith, at) in
    All-cons (λ (r : Rank). r.1 < n) (record { 0 = c.summary.runs }, j) (ranks_from (suc j) cs) (omega (arith, at)) (ranks_below (suc j) n cs next)

numbers_below : (n : ℕ) (ranks : List Rank) → All (λ (r : Rank). r.1 < n) ranks → All (λ (k : ℕ). k < n) (map (λ (r : Rank). r.1) ranks)
numbers_below n [] all = All-nil (λ (k : ℕ). k < n)
numbers_below n (r ∷ ranks) all =
    All-cons (λ (k : ℕ). k < n) r.1 (map (λ (r : Rank). r.1) ranks) (All-head (λ (r : Rank). r.1 < n) r ranks all) (numbers_below n ranks (All-tail (λ (r : Rank). r.1 < n) r ranks all))

pub ranked_so : {E : Type 0} (r : Result (Vec ℕ Global) E) (cs : List PlainClass) (ranks slice : List Rank)
    → AreRanked cs ranks → slice ≡ ranks → IfOk r (λ numbers. numbers.items ≡ map (λ (r : Rank). r.1) slice)
    → IfOk r (λ numbers. AreInRank cs numbers.items)
ranked_so (Ok numbers) cs ranks slice ranked same is = (ranks, ranked, is ∙ ap (map (λ (r : Rank). r.1)) same)
ranked_so (Err e) cs ranks slice ranked same is = tt

pub ranked_below : {E : Type 0} (r : Result (Vec ℕ Global) E) (cs : List PlainClass) (ranks slice : List Rank)
    → AreRanked cs ranks → slice ≡ ranks → IfOk r (λ numbers. numbers.items ≡ map (λ (r : Rank). r.1) slice)
    → IfOk r (λ numbers. All (λ (k : ℕ). k < length cs) numbers.items)
ranked_below (Ok numbers) cs ranks slice ranked same is =
    let n = length cs in
    let all : All (λ (r : Rank). r.1 < n) ranks = All-permutation (λ (r : Rank). r.1 < n) (ranks_from 0 cs) ranks ranked.0 (ranks_below 0 n cs (sym (zero-add n))) in
    subst (λ (ks : List ℕ). All (λ (k : ℕ). k < n) ks) (sym (is ∙ ap (map (λ (r : Rank). r.1)) same)) (numbers_below n ranks all)
ranked_below (Err e) cs ranks slice ranked same is = tt
