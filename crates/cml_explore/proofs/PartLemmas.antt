-- What a part comes to with what was made before.
use Rattle.std.proofs.Common.{◌≡◌, inr, ℕ, zero, suc, ◌+◌, ◌-◌, ◌*◌, ◌<◌, ◌≤◌, ◌^◌, min, Bool, true, false}
use Rattle.std.proofs.Common.{if◌then◌else◌, ◌||◌, List, [], ◌∷◌, ◌++◌, map, length, refl, sym, ap, subst}
use Rattle.std.proofs.Common.{◌∙◌, arith}
use Rattle.std.specs.Prelude.{Result, Ok, Err, IfOk}
use Rattle.std.proofs.lemmas.List.{append_assoc, length-append, length_push, map-append}
use Rattle.std.proofs.lemmas.List.Sums.{sum_by-cons}
use Rattle.std.proofs.Math.Nat.{add-mul}
use Rattle.std.proofs.lemmas.List.Folds.{list_all-append, list_any-append}
use Rattle.cml_check.specs.Syntax.{PlainItem}
use Rattle.cml_explore.specs.declared.explored.Asked.{Asked}
use Rattle.cml_explore.specs.declared.share.Part.{Part}
use Rattle.cml_explore.specs.declared.share.Round.{Round}
use Rattle.cml_facts.specs.Details.{alike}
use Rattle.cml_explore.specs.Classes.{Finish, PlainClass, grown, classed, classed_all, classes_of}
use Rattle.cml_explore.specs.Finishes.{PlainEnded, is_well, stops, EachEnds}
use Rattle.cml_explore.specs.Explored.{PlainExplored, gathered, IsExplored, SoFar}
use Rattle.cml_explore.specs.Merges.{parts_merged, runs_of, FitBeside, StopsLast, HasPart, part_asked, AreInside, IsRound, JoinsPart, IsAmidRound, HasJoined}
use Rattle.cml_explore.proofs.ExploreLemmas.{map_long, as_many, same_parts}
use Rattle.cml_explore.proofs.MergeLemmas.{merged_is}

-- ---- the runs of the classes are the runs that were made

counted_if : (b : Bool) (end : Finish) (c : PlainClass) (cs rest : List PlainClass) → runs_of rest ≡ runs_of cs + 1
    → runs_of (if b then record c { summary = grown c.summary end } ∷ cs else c ∷ rest) ≡ runs_of (c ∷ cs) + 1
counted_if true end c cs rest more =
    let f : PlainClass → ℕ = λ x. x.summary.runs in
    omega (arith, sum_by-cons f (record c { summary = grown c.summary end }) cs, sum_by-cons f c cs)
counted_if false end c cs rest more =
    let f : PlainClass → ℕ = λ x. x.summary.runs in
    omega (arith, more, sum_by-cons f c rest, sum_by-cons f c cs)

counted_one : (seed : ℕ) (end : Finish) (cs : List PlainClass) → runs_of (classed seed end cs) ≡ runs_of cs + 1
counted_one seed end [] = refl
counted_one seed end (c ∷ cs) = counted_if (alike end.details c.details) end c cs (classed seed end cs) (counted_one seed end cs)

counted_all : (seed : ℕ) (ends : List Finish) (cs : List PlainClass) → runs_of (classed_all seed ends cs) ≡ runs_of cs + length ends
counted_all seed [] cs = omega arith
counted_all seed (e ∷ es) cs =
    let rest = counted_all (suc seed) es (classed seed e cs) in
    let one = counted_one seed e cs in
    omega (arith, rest, one)

pub counted_gathered : (first : ℕ) (ends : List PlainEnded) (made : PlainExplored) → made ≡ gathered first ends → runs_of made.classes ≡ made.runs
counted_gathered first ends made is =
    let finishes : List Finish = map (λ (x : PlainEnded). x.finish) ends in
    let all : runs_of (classed_all first finishes []) ≡ 0 + length finishes = counted_all first finishes [] in
    let long : length finishes ≡ length ends = map_long ends in
    let many : made.runs ≡ length ends = ap (λ (m : PlainExplored). m.runs) is in
    ap (λ (m : PlainExplored). runs_of m.classes) is ∙ omega (arith, all, long, many)

pub counted_so_far : (p : List (PlainItem ℕ)) (asked : Asked) (made : PlainExplored) → SoFar p asked made → runs_of made.classes ≡ made.runs
counted_so_far p asked made is = counted_gathered asked.first is.ends made is.gathered_so

counted_part : (b : Bool) (p : List (PlainItem ℕ)) (asked : Asked) (made : PlainExplored) → HasPart p asked b made → runs_of made.classes ≡ made.runs
counted_part true p asked made is = counted_gathered asked.first (is.before ++ is.last ∷ []) made is.gathered_so
counted_part false p asked made is = counted_so_far p asked made is.0

few_part : (b : Bool) (p : List (PlainItem ℕ)) (asked : Asked) (made : PlainExplored) → HasPart p asked b made → made.runs ≤ asked.runs
few_part true p asked made is = is.few
few_part false p asked made is = let all = is.1 in omega (arith, all)

-- the runs of both can be counted
pub fits : (p : List (PlainItem ℕ)) (asked own : Asked) (b : Bool) (one other : PlainExplored) → SoFar p asked one → HasPart p own b other → one.runs + own.runs < 2 ^ 64 → FitBeside one other
fits p asked own b one other so_far part few =
    let here = counted_so_far p asked one so_far in
    let there = counted_part b p own other part in
    let less = few_part b p own other part in
    record { runs = omega (arith, less, few); classes = omega (arith, here, there, less, few) }

-- ---- both parts

gathered_merged : (first : ℕ) (xs ys : List PlainEnded) (n : ℕ) → n ≡ first + length xs → gathered first (xs ++ ys) ≡ parts_merged (gathered first xs) (gathered n ys)
gathered_merged first xs ys n at =
    let f : PlainEnded → Finish = λ e. e.finish in
    let long : length (map f xs) ≡ length xs = map_long xs in
    let next : n ≡ first + length (map f xs) = omega (arith, at, long) in
    same_parts _ _ _ _ _ _ (ap (classes_of first) (map-append f xs ys) ∙ merged_is first (map f xs) (map f ys) n next) (length-append xs ys) (list_all-append is_well xs ys)

neither : (a b : Bool) → a ≡ false → b ≡ false → a || b ≡ false
neither true b e f = cc
neither false b e f = f

module _ (p : List (PlainItem ℕ)) (asked : Asked) where
  each_append : (seed : ℕ) (xs ys : List PlainEnded) (n : ℕ) → n ≡ seed + length xs
      → EachEnds p asked.budget asked.orders asked.servers.now asked.wanted seed xs
      → EachEnds p asked.budget asked.orders asked.servers.now asked.wanted n ys
      → EachEnds p asked.budget asked.orders asked.servers.now asked.wanted seed (xs ++ ys)
  each_append seed [] ys n at each more =
      let here : n ≡ seed = omega arith in
      subst (λ k. EachEnds p asked.budget asked.orders asked.servers.now asked.wanted k ys) here more
  each_append seed (x ∷ xs) ys n at each more =
      let next : n ≡ suc seed + length xs = omega arith in
      (each.0, each_append (suc seed) xs ys n next each.1 more)

  module _ (one other : PlainExplored) (so_far : SoFar p asked one) (first runs : ℕ) (at : first ≡ asked.first + one.runs) where
    at_seed : first ≡ asked.first + length so_far.ends
    at_seed = at ∙ ap (λ k. asked.first + k) (as_many p asked one so_far)

    merged_so : (ends : List PlainEnded) → other ≡ gathered first ends → parts_merged one other ≡ gathered asked.first (so_far.ends ++ ends)
    merged_so ends is =
        ap (λ x. parts_merged x other) so_far.gathered_so
        ∙ (ap (parts_merged (gathered asked.first so_far.ends)) is ∙ sym (gathered_merged asked.first so_far.ends ends first at_seed))

    -- the later part has no run at which to stop
    pub joined_on : SoFar p (record asked { first = first; runs = runs }) other → SoFar p asked (parts_merged one other)
    joined_on part = record {
      ends = so_far.ends ++ part.ends;
      each = each_append asked.first so_far.ends part.ends first at_seed so_far.each part.each;
      none = list_any-append (stops asked.until.now) so_far.ends part.ends ∙ neither _ _ so_far.none part.none;
      gathered_so = merged_so part.ends part.gathered_so;
    }

    -- it has one
    pub joined_last : StopsLast p (record asked { first = first; runs = runs }) other → one.runs + runs ≤ asked.runs → IsExplored p asked (parts_merged one other)
    joined_last part few =
        let ends : List PlainEnded = part.before ++ part.last ∷ [] in
        let here : one.runs ≡ length so_far.ends = as_many p asked one so_far in
        let there : other.runs ≡ length ends = ap (λ (m : PlainExplored). m.runs) part.gathered_so in
        let less : other.runs ≤ runs = part.few in
        record {
          ends = so_far.ends ++ ends;
          each = each_append asked.first so_far.ends ends first at_seed so_far.each part.each;
          enough = inr (
            so_far.ends ++ part.before,
            part.last,
            sym (append_assoc so_far.ends part.before (part.last ∷ [])),
            omega (arith, length-append so_far.ends ends, here, there, less, few),
            list_any-append (stops asked.until.now) so_far.ends part.before ∙ neither _ _ so_far.none part.none,
            part.stops_there,
          );
          gathered_so = merged_so ends part.gathered_so;
        }

-- what was made, copied
pub copy_fits : (p : List (PlainItem ℕ)) (asked : Asked) (one other : PlainExplored) → SoFar p asked one → one.runs ≡ 0 → SoFar p asked other → other.runs < 2 ^ 64 → FitBeside one other
copy_fits p asked one other new none so_far few =
    let here = counted_so_far p asked one new in
    let there = counted_so_far p asked other so_far in
    record { runs = omega (arith, none, few); classes = omega (arith, here, there, none, few) }

pub copied : (p : List (PlainItem ℕ)) (asked : Asked) (one other copy : PlainExplored) → SoFar p asked one → one.runs
    ≡ 0 → SoFar p asked other → copy ≡ parts_merged one other → SoFar p asked copy × (copy.runs ≡ other.runs)
copied p asked one other copy new none so_far is =
    let at : asked.first ≡ asked.first + one.runs = omega (arith, none) in
    let many : copy.runs ≡ one.runs + other.runs = ap (λ (m : PlainExplored). m.runs) is in
    (subst (SoFar p asked) (sym is) (joined_on p asked one other new asked.first asked.runs at so_far), omega (arith, many, none))

-- ---- a round

one_of : (n : ℕ) → 1 * n ≡ n
one_of n = omega arith

next_min : (k size left : ℕ) → k * size < left → k * size + min size (left - k * size) ≡ min ((k + 1) * size) left
next_min k size left h =
    let more : (k + 1) * size ≡ k * size + size = add-mul k 1 size ∙ ap (λ n. k * size + n) (one_of size) in
    omega (arith, more, h)

below_min : (a b : ℕ) → a < b → min a b ≡ a
below_min a b h = omega (arith, h)

module _ (p : List (PlainItem ℕ)) (asked : Asked) (so_far : PlainExplored) (round : Round) (is : IsRound asked so_far round) (k : ℕ) (inside : k * round.size < round.left)
    (one : PlainExplored) (here : SoFar p asked one) (many : one.runs ≡ so_far.runs + min (k * round.size) round.left) (part : Part)
    (gave : HasPart p (part_asked asked round k) part.stopped part.made) where
  abbrev own_runs : ℕ
  own_runs = min round.size (round.left - k * round.size)

  at_part : round.first + k * round.size ≡ asked.first + one.runs
  at_part = let first = is.first in let start = below_min (k * round.size) round.left inside in omega (arith, first, many, start)

  in_all : one.runs + own_runs ≡ so_far.runs + min ((k + 1) * round.size) round.left
  in_all =
      let start = below_min (k * round.size) round.left inside in
      let next = next_min k round.size round.left inside in
      omega (arith, many, start, next)

  in_asked : one.runs + own_runs ≤ asked.runs
  in_asked =
      let all = in_all in
      let left = is.left in
      omega (arith, all, left)

  -- the runs of the part fit
  part_fits : asked.runs < 2 ^ 64 → FitBeside one part.made
  part_fits few = let all = in_asked in fits p asked (part_asked asked round k) part.stopped one part.made here gave (omega (arith, all, few))

  has_part : (new : PlainExplored) (b : Bool) → JoinsPart part one new b → HasPart p (part_asked asked round k) b part.made
  has_part new b j = subst (λ (t : Bool). HasPart p (part_asked asked round k) t part.made) (sym j.stopped_so) gave

  -- the round goes on behind the part
  part_on : (new : PlainExplored) → JoinsPart part one new false → SoFar p asked new × (new.runs ≡ so_far.runs + min ((k + 1) * round.size) round.left)
  part_on new j =
      let has : HasPart p (part_asked asked round k) false part.made = has_part new false j in
      let runs : new.runs ≡ one.runs + part.made.runs = ap (λ (m : PlainExplored). m.runs) j.merged in
      let own : part.made.runs ≡ own_runs = has.1 in
      let all = in_all in
      (subst (SoFar p asked) (sym j.merged) (joined_on p asked one part.made here (round.first + k * round.size) own_runs at_part has.0), omega (arith, runs, own, all))

  -- or it ends with it
  part_last : (new : PlainExplored) → JoinsPart part one new true → IsExplored p asked new × (so_far.runs < new.runs)
  part_last new j =
      let has : HasPart p (part_asked asked round k) true part.made = has_part new true j in
      let runs : new.runs ≡ one.runs + part.made.runs = ap (λ (m : PlainExplored). m.runs) j.merged in
      let own : part.made.runs ≡ length (has.before ++ has.last ∷ []) = ap (λ (m : PlainExplored). m.runs) has.gathered_so in
      let one_more = length_push has.before has.last in
      (subst (IsExplored p asked) (sym j.merged) (joined_last p asked one part.made here (round.first + k * round.size) own_runs at_part has in_asked), omega (arith, runs, own, one_more, many))

-- all parts were joined
round_made : (p : List (PlainItem ℕ)) (asked : Asked) (so_far : PlainExplored) (round : Round) (count : ℕ)
    (made : PlainExplored) → IsRound asked so_far round → 0 < count → 0 < round.left → SoFar p asked made
    → made.runs ≡ so_far.runs + min (count * round.size) round.left → (so_far.runs < made.runs) × (made.runs ≤ asked.runs)
round_made p asked so_far round zero made is some left here many = absurd (omega (arith, some))
round_made p asked so_far round (suc n) made is some left here many =
    let size = is.size in
    let all = is.left in
    let more : (n + 1) * round.size ≡ n * round.size + 1 * round.size = add-mul n 1 round.size in
    (omega (arith, many, size, left, more), omega (arith, many, all))

-- no part has come yet
pub round_begins : (p : List (PlainItem ℕ)) (asked : Asked) (so_far : PlainExplored) (round : Round) (count : ℕ) (made : PlainExplored) → IsRound asked so_far round → AreInside round count
    → SoFar p asked made × (made.runs ≡ so_far.runs) → IsAmidRound p asked so_far round count 0 made
round_begins p asked so_far round count made is inside here = record {
  is = is;
  inside = inside;
  here = here.0;
  many = let same = here.1 in omega (arith, same);
}

module _ (p : List (PlainItem ℕ)) (asked : Asked) (so_far : PlainExplored) (round : Round) (count k : ℕ) (made : PlainExplored)
    (amid : IsAmidRound p asked so_far round count k made) (lt : k < count) (part : Part)
    (gave : HasPart p (part_asked asked round k) part.stopped part.made) where
  pub next_fits : asked.runs < 2 ^ 64 → FitBeside made part.made
  next_fits small = part_fits p asked so_far round amid.is k (amid.inside k lt) made amid.here amid.many part gave small

  next_joined : (b : Bool) (new : PlainExplored) → JoinsPart part made new b → HasJoined p asked so_far round count (k + 1) b new
  next_joined true new j = part_last p asked so_far round amid.is k (amid.inside k lt) made amid.here amid.many part gave new j
  next_joined false new j =
      let on = part_on p asked so_far round amid.is k (amid.inside k lt) made amid.here amid.many part gave new j in
      record { is = amid.is; inside = amid.inside; here = on.0; many = on.1 }

  -- the part has come, if memory was enough
  pub next_ok : {E : Type 0} (r : Result Bool E) (new : PlainExplored) → IfOk r (λ b. JoinsPart part made new b) → IfOk r (λ b. HasJoined p asked so_far round count (k + 1) b new)
  next_ok (Ok b) new j = next_joined b new j
  next_ok (Err e) new j = tt

-- all parts have come
pub round_ends : (p : List (PlainItem ℕ)) (asked : Asked) (so_far : PlainExplored) (round : Round) (count : ℕ) (made : PlainExplored)
    → IsAmidRound p asked so_far round count count made → 0 < count → so_far.runs < asked.runs → (so_far.runs < made.runs) × (made.runs ≤ asked.runs)
round_ends p asked so_far round count made amid some more =
    let left = amid.is.left in
    let there : 0 < round.left = omega (arith, left, more) in
    round_made p asked so_far round count made amid.is some there amid.here amid.many
