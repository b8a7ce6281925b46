-- Ends of a program, one schedule after another, and what is told of them.
use Rattle.std.proofs.Common.{◌≡◌, ℕ, suc, ◌+◌, ◌<◌, ◌≤◌, Bool, List, [], ◌∷◌, ◌++◌, map, take, length, get_or, Some, refl, zero-add, sym, ap, subst, ◌∙◌, arith}
use Rattle.std.specs.Prelude.{slice_get, Vec, Result, Ok, Err, IfOk}
use Rattle.std.specs.List.{All}
use Rattle.std.specs.declared.alloc.Global.{Global}
use Rattle.std.proofs.lemmas.List.{map_push, take_more}
use Rattle.std.proofs.lemmas.List.Elements.{All-nil, All-cons, All-head, All-tail, All-weaker}
use Rattle.std.proofs.lemmas.List.Sorted.{All-permutation}
use Rattle.std.proofs.lemmas.Option.{slice_get-get_or}
use Rattle.cml_check.specs.Syntax.{PlainItem}
use Rattle.cml_hub.specs.Kept.{Kept}
use Rattle.cml_judge.specs.declared.judged.Wanted.{Wanted}
use Rattle.cml_phrase.specs.declared.place.Place.{Place}
use Rattle.cml_schedule.specs.declared.item.Item.{Item}
use Rattle.cml_explore.specs.declared.ends.EndTold.{EndTold}
use Rattle.cml_explore.specs.declared.explored.Asked.{Asked}
use Rattle.cml_explore.specs.declared.explored.Until.{Until}
use Rattle.cml_explore.specs.Classes.{PlainClass}
use Rattle.cml_explore.specs.Ends.{AreEachTold, AreInOrder, AreEndRanks, EachEndsAfter, EndsSoAfter, IsEndTold, IsGathered, HasGoneThrough, EndRank, end_ranks_from}
use Rattle.cml_explore.specs.Explored.{PlainExplored, SoFar, gathered, with_ended}
use Rattle.cml_explore.specs.Finishes.{PlainEnded, IsEndOf, stops}
use Rattle.cml_explore.proofs.ExploreLemmas.{as_many, few_gathered, gathered_more}

-- ---- the runs by schedules

no_ends : (es : List PlainEnded) → length es ≡ 0 → es ≡ []
no_ends [] none = refl
no_ends (e ∷ es) none = cc

-- no schedule yet
pub none_gathered : (p : List (PlainItem ℕ)) (servers : List ℕ) (asked : Asked) (made : PlainExplored) → SoFar p asked made → made.runs ≡ 0 → IsGathered p servers [] made
none_gathered p servers asked made so_far none =
    let empty : so_far.ends ≡ [] = no_ends so_far.ends (sym (as_many p asked made so_far) ∙ none) in
    record { ends = []; each = tt; gathered_so = so_far.gathered_so ∙ ap (gathered asked.first) empty }

-- a run was added, which a hub has made by its schedule
pub ended_by : {E : Type 0} (r : Result Bool E) (b : Bool) (p : List (PlainItem ℕ)) (servers : List ℕ) (wanted : Wanted) (until : List Until) (items : List Item) (number : ℕ) (h : Kept)
    (old new : PlainExplored) → wanted.properties.now ≡ [] → r ≡ Ok b → HasGoneThrough p items h
    → IfOk r (λ s. (e : PlainEnded) × IsEndOf servers wanted h e × (new ≡ with_ended number e old) × (s ≡ stops until e))
    → (e : PlainEnded) × EndsSoAfter p servers items e × (new ≡ with_ended number e old)
ended_by (Ok s) b p servers wanted until items number h old new none is run added = (added.0, (h, wanted, none, run, added.1), added.2)
ended_by (Err x) b p servers wanted until items number h old new none is run added = cc

each_push : (p : List (PlainItem ℕ)) (servers : List ℕ) (schedules : List (List Item)) (es : List PlainEnded) (s : List Item) (e : PlainEnded)
    → EachEndsAfter p servers schedules es → EndsSoAfter p servers s e → EachEndsAfter p servers (schedules ++ s ∷ []) (es ++ e ∷ [])
each_push p servers [] [] s e each is = (is, tt)
each_push p servers [] (x ∷ es) s e each is = absurd each
each_push p servers (x ∷ schedules) [] s e each is = absurd each
each_push p servers (x ∷ schedules) (y ∷ es) s e each is = (each.0, each_push p servers schedules es s e each.1 is)

runs_are : (p : List (PlainItem ℕ)) (servers : List ℕ) (schedules : List (List Item)) (made : PlainExplored) → (is : IsGathered p servers schedules made) → made.runs ≡ length is.ends
runs_are p servers schedules made is = ap (λ (m : PlainExplored). m.runs) is.gathered_so

-- no class has more runs than there were
pub few_ends : (p : List (PlainItem ℕ)) (servers : List ℕ) (schedules : List (List Item)) (made : PlainExplored) (m : ℕ) → IsGathered p servers schedules made → made.runs < m
    → All (λ (x : PlainClass). x.summary.runs < m) made.classes
few_ends p servers schedules made m is few =
    let many = runs_are p servers schedules made is in
    let all : All (λ (x : PlainClass). x.summary.runs ≤ length is.ends) made.classes =
    subst (λ (e : PlainExplored). All (λ (x : PlainClass). x.summary.runs ≤ length is.ends) e.classes) (sym is.gathered_so) (few_gathered 0 is.ends) in
    All-weaker (λ (x : PlainClass). x.summary.runs ≤ length is.ends) (λ (x : PlainClass). x.summary.runs < m) (λ x h. omega (arith, h, many, few)) made.classes all

-- one schedule more
gathered_push : (p : List (PlainItem ℕ)) (servers : List ℕ) (schedules : List (List Item)) (s : List Item) (n : ℕ) (old new : PlainExplored) → n ≡ old.runs
    → IsGathered p servers schedules old → (e : PlainEnded) × EndsSoAfter p servers s e × (new ≡ with_ended n e old) → IsGathered p servers (schedules ++ s ∷ []) new
gathered_push p servers schedules s n old new at was added =
    let e = added.0 in
    let many = runs_are p servers schedules old was in
    record {
      ends = was.ends ++ e ∷ [];
      each = each_push p servers schedules was.ends s e was.each added.1;
      gathered_so = added.2 ∙ (ap (with_ended n e) was.gathered_so ∙ sym (gathered_more 0 was.ends n e (at ∙ (many ∙ sym (zero-add (length was.ends))))));
    }

pub gathered_next : {X : Type 0} (f : X → List Item) (p : List (PlainItem ℕ)) (servers : List ℕ) (xs : List X) (i : ℕ) (d : X) (items : List Item) (n : ℕ) (old new : PlainExplored)
    → i < length xs → items ≡ f (get_or xs i d) → n ≡ old.runs → IsGathered p servers (map f (take i xs)) old
    → (e : PlainEnded) × EndsSoAfter p servers items e × (new ≡ with_ended n e old) → IsGathered p servers (map f (take (i + 1) xs)) new
gathered_next f p servers xs i d items n old new within is at was added =
    let split : map f (take (i + 1) xs) ≡ map f (take i xs) ++ items ∷ [] =
    ap (map f) (take_more xs i d within) ∙ (map_push f (take i xs) (get_or xs i d) ∙ ap (λ s. map f (take i xs) ++ s ∷ []) (sym is)) in
    subst (λ (l : List (List Item)). IsGathered p servers l new) (sym split) (gathered_push p servers (map f (take i xs)) items n old new at was added)

-- ---- what is told of each class

told_push : (places : List (List Place)) (p : List (PlainItem ℕ)) (servers : List ℕ) (cs : List PlainClass) (ts : List EndTold) (c : PlainClass) (t : EndTold)
    → AreEachTold places p servers cs ts → IsEndTold places p servers c.summary.shortest t → AreEachTold places p servers (cs ++ c ∷ []) (ts ++ t ∷ [])
told_push places p servers [] [] c t each is = (is, tt)
told_push places p servers [] (x ∷ ts) c t each is = absurd each
told_push places p servers (x ∷ cs) [] c t each is = absurd each
told_push places p servers (x ∷ cs) (y ∷ ts) c t each is = (each.0, told_push places p servers cs ts c t each.1 is)

told_long : (places : List (List Place)) (p : List (PlainItem ℕ)) (servers : List ℕ) (cs : List PlainClass) (ts : List EndTold) → AreEachTold places p servers cs ts
    → length ts ≡ length cs
told_long places p servers [] [] each = refl
told_long places p servers [] (t ∷ ts) each = absurd each
told_long places p servers (c ∷ cs) [] each = absurd each
told_long places p servers (c ∷ cs) (t ∷ ts) each = ap suc (told_long places p servers cs ts each.1)

some_same : {X : Type 0} (x y : X) → Some x ≡ Some y → x ≡ y
some_same x y h = cc

pub told_next : (places : List (List Place)) (p : List (PlainItem ℕ)) (servers : List ℕ) (cs : List PlainClass) (k : ℕ) (c : PlainClass) (items : List Item) (old new : List EndTold)
    (t : EndTold) → k < length cs → slice_get cs k ≡ Some c → items ≡ c.summary.shortest → new ≡ old ++ t ∷ [] → IsEndTold places p servers items t
    → AreEachTold places p servers (take k cs) old → AreEachTold places p servers (take (k + 1) cs) new
told_next places p servers cs k c items old new t within there shortest more is was =
    let same : c ≡ get_or cs k c = some_same c (get_or cs k c) (sym there ∙ slice_get-get_or cs k c within) in
    let split : take (k + 1) cs ≡ take k cs ++ c ∷ [] = take_more cs k c within ∙ ap (λ x. take k cs ++ x ∷ []) (sym same) in
    let mine : IsEndTold places p servers c.summary.shortest t = subst (λ (l : List Item). IsEndTold places p servers l t) shortest is in
    subst (λ (l : List PlainClass). AreEachTold places p servers l new) (sym split)
    (subst (AreEachTold places p servers (take k cs ++ c ∷ [])) (sym more) (told_push places p servers (take k cs) old c t was mine))

-- ---- in which order

ranks_push : (j : ℕ) (ts : List EndTold) (n : ℕ) (t : EndTold) → n ≡ j + length ts → end_ranks_from j (ts ++ t ∷ []) ≡ end_ranks_from j ts ++ (t.well, t.items, n) ∷ []
ranks_push j [] n t at = let here : j ≡ n = omega arith in ap (λ k. (t.well, t.items, k) ∷ []) here
ranks_push j (x ∷ ts) n t at =
    let next : n ≡ suc j + length ts = omega arith in
    ap (λ l. (x.well, x.items, j) ∷ l) (ranks_push (suc j) ts n t next)

ranks_long : (j : ℕ) (ts : List EndTold) → length (end_ranks_from j ts) ≡ length ts
ranks_long j [] = refl
ranks_long j (t ∷ ts) = ap suc (ranks_long (suc j) ts)

pub ranks_next : (ts : List EndTold) (i : ℕ) (t : EndTold) (n : ℕ) (old new : List EndRank) → i < length ts → t ≡ get_or ts i t → n ≡ length old
    → new ≡ old ++ (t.well, t.items, n) ∷ [] → old ≡ end_ranks_from 0 (take i ts) → new ≡ end_ranks_from 0 (take (i + 1) ts)
ranks_next ts i t n old new within is at more was =
    let split : take (i + 1) ts ≡ take i ts ++ t ∷ [] = take_more ts i t within ∙ ap (λ x. take i ts ++ x ∷ []) (sym is) in
    let long : n ≡ 0 + length (take i ts) = at ∙ (ap (λ (l : List EndRank). length l) was ∙ (ranks_long 0 (take i ts) ∙ sym (zero-add (length (take i ts))))) in
    more ∙ (ap (λ l. l ++ (t.well, t.items, n) ∷ []) was ∙ (sym (ranks_push 0 (take i ts) n t long) ∙ ap (end_ranks_from 0) (sym split)))

ranks_below : (j n : ℕ) (ts : List EndTold) → n ≡ j + length ts → All (λ (x : EndRank). x.2 < n) (end_ranks_from j ts)
ranks_below j n [] at = All-nil (λ (x : EndRank). x.2 < n)
ranks_below j n (t ∷ ts) at =
    let next : n ≡ suc j + length ts = omega (arith, at) in
    All-cons (λ (x : EndRank). x.2 < n) (t.well, t.items, j) (end_ranks_from (suc j) ts) (omega (arith, at)) (ranks_below (suc j) n ts next)

numbers_below : (n : ℕ) (ranks : List EndRank) → All (λ (x : EndRank). x.2 < n) ranks → All (λ (k : ℕ). k < n) (map (λ (x : EndRank). x.2) ranks)
numbers_below n [] all = All-nil (λ (k : ℕ). k < n)
numbers_below n (x ∷ ranks) all =
    All-cons (λ (k : ℕ). k < n) x.2 (map (λ (y : EndRank). y.2) ranks) (All-head (λ (y : EndRank). y.2 < n) x ranks all) (numbers_below n ranks (All-tail (λ (y : EndRank). y.2 < n) x ranks all))

pub in_order : {E : Type 0} (r : Result (Vec ℕ Global) E) (ts : List EndTold) (ranks slice : List EndRank) → AreEndRanks ts ranks → slice ≡ ranks
    → IfOk r (λ numbers. numbers.items ≡ map (λ (x : EndRank). x.2) slice) → IfOk r (λ numbers. AreInOrder ts numbers.items)
in_order (Ok numbers) ts ranks slice are same is = (ranks, are, is ∙ ap (map (λ (x : EndRank). x.2)) same)
in_order (Err e) ts ranks slice are same is = tt

pub below_all : {E : Type 0} (r : Result (Vec ℕ Global) E) (ts : List EndTold) (ranks slice : List EndRank) → AreEndRanks ts ranks → slice ≡ ranks
    → IfOk r (λ numbers. numbers.items ≡ map (λ (x : EndRank). x.2) slice) → IfOk r (λ numbers. All (λ (k : ℕ). k < length ts) numbers.items)
below_all (Ok numbers) ts ranks slice are same is =
    let n = length ts in
    let all : All (λ (x : EndRank). x.2 < n) ranks = All-permutation (λ (x : EndRank). x.2 < n) (end_ranks_from 0 ts) ranks are.0 (ranks_below 0 n ts (sym (zero-add n))) in
    subst (λ (ks : List ℕ). All (λ (k : ℕ). k < n) ks) (sym (is ∙ ap (map (λ (x : EndRank). x.2)) same)) (numbers_below n ranks all)
below_all (Err e) ts ranks slice are same is = tt

-- the numbers are those of classes
pub below_classes : (places : List (List Place)) (p : List (PlainItem ℕ)) (servers : List ℕ) (cs : List PlainClass) (ts slice : List EndTold) (numbers : List ℕ)
    → AreEachTold places p servers cs ts → slice ≡ ts → All (λ (k : ℕ). k < length slice) numbers → All (λ (k : ℕ). k < length cs) numbers
below_classes places p servers cs ts slice numbers each same all =
    subst (λ (n : ℕ). All (λ (k : ℕ). k < n) numbers) (ap (λ (l : List EndTold). length l) same ∙ told_long places p servers cs ts each) all
