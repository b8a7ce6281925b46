-- One run more.
use Rattle.std.proofs.Common.{◌≡◌, inl, inr, ℕ, suc, ◌+◌, ◌<◌, ◌≤◌, Bool, true, false, if◌then◌else◌, ◌&&◌, ◌||◌, List, [], ◌∷◌, ◌++◌, map, length, refl, sym, ap, subst, ◌∙◌, arith}
use Rattle.std.specs.Prelude.{◌==◌, Result, Ok, Err, IfOk, Vec}
use Rattle.std.specs.declared.alloc.Global.{Global}
use Rattle.std.proofs.lemmas.Bool.Decides.{nat_tests}
use Rattle.std.specs.List.{All, list_any, list_all}
use Rattle.std.proofs.lemmas.List.{length_push}
use Rattle.std.proofs.lemmas.List.Folds.{list_all-append, list_any-append}
use Rattle.std.proofs.lemmas.List.Elements.{All-nil, All-cons, All-head, All-tail, All-weaker}
use Rattle.cml_check.specs.Syntax.{PlainItem}
use Rattle.cml_hub.specs.Kept.{Kept}
use Rattle.cml_judge.specs.declared.judged.Wanted.{Wanted}
use Rattle.cml_explore.specs.declared.explored.Asked.{Asked}
use Rattle.cml_schedule.specs.declared.item.Item.{Item}
use Rattle.sha2.specs.Sha256.{sha256}
use Rattle.cml_facts.specs.declared.fault.detail.Detail.{Detail}
use Rattle.cml_facts.specs.Details.{alike}
use Rattle.cml_explore.specs.Classes.{Finish, PlainClass, grown, classed, classed_all}
use Rattle.cml_explore.specs.declared.explored.Until.{Until}
use Rattle.cml_explore.specs.declared.seed.order.Order.{Order}
use Rattle.cml_explore.specs.declared.orders.Orders.{Orders}
use Rattle.cml_explore.specs.Orders.{seed_order}
use Rattle.cml_explore.specs.SeedRuns.{IsSeedRun}
use Rattle.cml_explore.specs.Finishes.{PlainEnded, is_well, stops, IsEndOf, EndsSoBy, EachEnds, finish_of}
use Rattle.cml_explore.specs.Explored.{PlainExplored, gathered, nothing_made, with_ended, IsExplored, IsFirstOutput, SoFar, HasMade}
use Rattle.cml_explore.specs.Merges.{StopsLast}

-- the runs so far, of as many as were asked for
pub record MadeSoFar (p : List (PlainItem ℕ)) (asked : Asked) (made : PlainExplored) : Type 0 where
  pub so_far : SoFar p asked made
  pub few : made.runs ≤ asked.runs

-- one run more, by the seed that follows
ends_more : (p : List (PlainItem ℕ)) (budget : ℕ) (orders : Orders) (servers : List ℕ) (wanted : Wanted) (seed : ℕ) (es : List PlainEnded) (n : ℕ) (e : PlainEnded) → n ≡ seed + length es
    → EachEnds p budget orders servers wanted seed es → EndsSoBy p budget orders servers wanted n e → EachEnds p budget orders servers wanted seed (es ++ e ∷ [])
ends_more p budget orders servers wanted seed [] n e at each is =
    let here : n ≡ seed = omega arith in
    (subst (λ k. EndsSoBy p budget orders servers wanted k e) here is, tt)
ends_more p budget orders servers wanted seed (x ∷ es) n e at each is =
    let next : n ≡ suc seed + length es = omega arith in
    (each.0, ends_more p budget orders servers wanted (suc seed) es n e next each.1 is)

classed_more : (seed : ℕ) (es : List Finish) (n : ℕ) (e : Finish) (cs : List PlainClass) → n ≡ seed + length es
    → classed_all seed (es ++ e ∷ []) cs ≡ classed n e (classed_all seed es cs)
classed_more seed [] n e cs at = let here : seed ≡ n = omega arith in ap (λ k. classed k e cs) here
classed_more seed (x ∷ es) n e cs at =
    let next : n ≡ suc seed + length es = omega arith in
    classed_more (suc seed) es n e (classed seed x cs) next

map_more : (es : List PlainEnded) (e : PlainEnded) → map (λ x. x.finish) (es ++ e ∷ []) ≡ map (λ x. x.finish) es ++ e.finish ∷ []
map_more [] e = refl
map_more (x ∷ es) e = ap (λ l. x.finish ∷ l) (map_more es e)

pub map_long : (es : List PlainEnded) → length (map (λ x. x.finish) es) ≡ length es
map_long [] = refl
map_long (x ∷ es) = let rest = map_long es in omega arith

and_true : (b : Bool) → b && true ≡ b
and_true true = refl
and_true false = refl

all_more : (es : List PlainEnded) (e : PlainEnded) → list_all is_well (es ++ e ∷ []) ≡ (list_all is_well es && is_well e)
all_more es e = list_all-append is_well es (e ∷ []) ∙ ap (λ b. list_all is_well es && b) (and_true (is_well e))

or_false : (b : Bool) → b || false ≡ b
or_false true = refl
or_false false = refl

any_more : (p : PlainEnded → Bool) (es : List PlainEnded) (e : PlainEnded) → p e ≡ false → list_any p es ≡ false → list_any p (es ++ e ∷ []) ≡ false
any_more p es e h none = list_any-append p es (e ∷ []) ∙ (ap (λ b. b || (p e || false)) none ∙ (or_false (p e) ∙ h))

abbrev pub the_parts : List PlainClass → ℕ → Bool → PlainExplored
the_parts cs n b = record { classes = cs; runs = n; well = b }

pub same_parts : (cs ds : List PlainClass) (m n : ℕ) (a b : Bool) → cs ≡ ds → m ≡ n → a ≡ b
    → the_parts cs m a ≡ the_parts ds n b
same_parts cs ds m n a b e f g = cc

pub gathered_more : (first : ℕ) (es : List PlainEnded) (n : ℕ) (e : PlainEnded) → n ≡ first + length es → gathered first (es ++ e ∷ []) ≡ with_ended n e (gathered first es)
gathered_more first es n e at =
    let finishes = map (λ (x : PlainEnded). x.finish) es in
    let long : length finishes ≡ length es = map_long es in
    let last : n ≡ first + length finishes = omega arith in
    same_parts _ _ _ _ _ _ (ap (λ l. classed_all first l []) (map_more es e) ∙ classed_more first finishes n e.finish [] last) (length_push es e) (all_more es e)

few_if : (b : Bool) (n : ℕ) (end : Finish) (c : PlainClass) (cs rest : List PlainClass) → c.summary.runs ≤ n
    → All (λ (x : PlainClass). x.summary.runs ≤ n + 1) cs → All (λ (x : PlainClass). x.summary.runs ≤ n + 1) rest
    → All (λ (x : PlainClass). x.summary.runs ≤ n + 1) (if b then record c { summary = grown c.summary end } ∷ cs else c ∷ rest)
few_if true n end c cs rest h old new = All-cons (λ (x : PlainClass). x.summary.runs ≤ n + 1) (record c { summary = grown c.summary end }) cs (omega arith) old
few_if false n end c cs rest h old new = All-cons (λ (x : PlainClass). x.summary.runs ≤ n + 1) c rest (omega arith) new

few_classed : (n seed : ℕ) (end : Finish) (cs : List PlainClass) → All (λ (x : PlainClass). x.summary.runs ≤ n) cs → All (λ (x : PlainClass). x.summary.runs ≤ n + 1) (classed seed end cs)
few_classed n seed end [] few = All-cons (λ (x : PlainClass). x.summary.runs ≤ n + 1) _ [] (omega arith) (All-nil (λ (x : PlainClass). x.summary.runs ≤ n + 1))
few_classed n seed end (c ∷ cs) few =
    let P : PlainClass → Type 0 = λ x. x.summary.runs ≤ n in
    let rest = All-tail P c cs few in
    few_if (alike end.details c.details) n end c cs (classed seed end cs) (All-head P c cs few)
    (All-weaker P (λ (x : PlainClass). x.summary.runs ≤ n + 1) (λ x h. omega arith) cs rest) (few_classed n seed end cs rest)

few_all : (n seed : ℕ) (ends : List Finish) (cs : List PlainClass) (m : ℕ) → m ≡ n + length ends
    → All (λ (x : PlainClass). x.summary.runs ≤ n) cs
    → All (λ (x : PlainClass). x.summary.runs ≤ m) (classed_all seed ends cs)
few_all n seed [] cs m at few = All-weaker (λ (x : PlainClass). x.summary.runs ≤ n) (λ (x : PlainClass). x.summary.runs ≤ m) (λ x h. omega (arith, at, h)) cs few
few_all n seed (e ∷ ends) cs m at few =
    let next : m ≡ (n + 1) + length ends = omega (arith, at) in
    few_all (n + 1) (suc seed) ends (classed seed e cs) m next (few_classed n seed e cs few)

-- the class of most runs has no more than there were
pub few_gathered : (first : ℕ) (ends : List PlainEnded) → All (λ (x : PlainClass). x.summary.runs ≤ length ends) (gathered first ends).classes
few_gathered first ends =
    let long : length (map (λ (x : PlainEnded). x.finish) ends) ≡ length ends = map_long ends in
    let many : length ends ≡ 0 + length (map (λ (x : PlainEnded). x.finish) ends) = omega (arith, long) in
    few_all 0 first (map (λ (x : PlainEnded). x.finish) ends) [] (length ends) many (All-nil (λ (x : PlainClass). x.summary.runs ≤ 0))

pub nothing_yet : (p : List (PlainItem ℕ)) (asked : Asked) (made : PlainExplored) → made ≡ nothing_made → SoFar p asked made
nothing_yet p asked made new = record { ends = []; each = tt; none = refl; gathered_so = new }

pub as_many : (p : List (PlainItem ℕ)) (asked : Asked) (made : PlainExplored) (so_far : SoFar p asked made) → made.runs ≡ length so_far.ends
as_many p asked made so_far = ap (λ (m : PlainExplored). m.runs) so_far.gathered_so

-- the runs are fewer than can be counted
pub is_few : (p : List (PlainItem ℕ)) (asked : Asked) (m : ℕ) (made : PlainExplored) → SoFar p asked made → made.runs < m → All (λ (x : PlainClass). x.summary.runs < m) made.classes
is_few p asked m made so_far h =
    let many = as_many p asked made so_far in
    let all : All (λ (x : PlainClass). x.summary.runs ≤ length so_far.ends) made.classes =
    subst (λ (e : PlainExplored). All (λ (x : PlainClass). x.summary.runs ≤ length so_far.ends) e.classes) (sym so_far.gathered_so) (few_gathered asked.first so_far.ends) in
    All-weaker (λ (x : PlainClass). x.summary.runs ≤ length so_far.ends) (λ (x : PlainClass). x.summary.runs < m) (λ x g. omega (arith, g, many, h)) made.classes all

module _ (p : List (PlainItem ℕ)) (asked : Asked) (old new : PlainExplored) (e : PlainEnded) (so_far : SoFar p asked old) (n : ℕ) (at : n ≡ asked.first + old.runs)
    (is : EndsSoBy p asked.budget asked.orders asked.servers.now asked.wanted n e) (made : new ≡ with_ended n e old) where
  at_seed : n ≡ asked.first + length so_far.ends
  at_seed = at ∙ ap (λ k. asked.first + k) (as_many p asked old so_far)

  each_so : EachEnds p asked.budget asked.orders asked.servers.now asked.wanted asked.first (so_far.ends ++ e ∷ [])
  each_so = ends_more p asked.budget asked.orders asked.servers.now asked.wanted asked.first so_far.ends n e at_seed so_far.each is

  all_so : new ≡ gathered asked.first (so_far.ends ++ e ∷ [])
  all_so =
      made
      ∙ (ap (with_ended n e) so_far.gathered_so
      ∙ sym (gathered_more asked.first so_far.ends n e at_seed))

  pub goes_on : stops asked.until.now e ≡ false → SoFar p asked new
  goes_on not_yet = record {
    ends = so_far.ends ++ e ∷ [];
    each = each_so;
    none = any_more (stops asked.until.now) so_far.ends e not_yet so_far.none;
    gathered_so = all_so;
  }

  pub has_stopped : stops asked.until.now e ≡ true → old.runs < asked.runs → IsExplored p asked new
  has_stopped is_last h =
      let many = as_many p asked old so_far in
      record {
        ends = so_far.ends ++ e ∷ [];
        each = each_so;
        enough = inr (so_far.ends, e, refl, omega (arith, length_push so_far.ends e, many, h), so_far.none, is_last);
        gathered_so = all_so;
      }

  pub stopped_so : stops asked.until.now e ≡ true → old.runs < asked.runs → StopsLast p asked new
  stopped_so is_last h =
      let more : new.runs ≡ old.runs + 1 = ap (λ (m : PlainExplored). m.runs) made in
      record {
        before = so_far.ends;
        last = e;
        each = each_so;
        none = so_far.none;
        stops_there = is_last;
        few = omega (arith, more, h);
        gathered_so = all_so;
      }

-- all that were asked for were made
pub is_done : (p : List (PlainItem ℕ)) (asked : Asked) (made : PlainExplored) → SoFar p asked made → made.runs ≡ asked.runs → IsExplored p asked made
is_done p asked made so_far h = record {
  ends = so_far.ends;
  each = so_far.each;
  enough = inl (sym (as_many p asked made so_far) ∙ h, so_far.none);
  gathered_so = so_far.gathered_so;
}

-- whether it was the last one that was asked for
pub made_so : (b : Bool) (p : List (PlainItem ℕ)) (asked : Asked) (made : PlainExplored) → SoFar p asked made → made.runs ≤ asked.runs → b ≡ (made.runs == asked.runs) → HasMade p asked b made
made_so true p asked made so_far h is = let same : made.runs ≡ asked.runs = grind (arith, nat_tests) in is_done p asked made so_far same
made_so false p asked made so_far h is = let few : made.runs < asked.runs = grind (arith, nat_tests) in (so_far, few)

-- a run was added, which a hub has made by the seed
pub added_by : {E : Type 0} (r : Result Bool E) (p : List (PlainItem ℕ)) (budget : ℕ) (orders : Orders) (order : Order) (servers : List ℕ) (wanted : Wanted)
    (until : List Until) (seed : ℕ) (h : Kept) (old new : PlainExplored) → order ≡ seed_order orders seed → IsSeedRun p budget order seed h
    → IfOk r (λ s. (e : PlainEnded) × IsEndOf servers wanted h e × (new ≡ with_ended seed e old) × (s ≡ stops until e))
    → IfOk r (λ s. (e : PlainEnded) × EndsSoBy p budget orders servers wanted seed e × (new ≡ with_ended seed e old) × (s ≡ stops until e))
added_by (Ok s) p budget orders order servers wanted until seed h old new at run is =
    (is.0, (h, subst (λ (o : Order). IsSeedRun p budget o seed h) at run, is.1), is.2, is.3)
added_by (Err x) p budget orders order servers wanted until seed h old new at run is = tt

-- they are at most as many as were asked for
pub at_most : (p : List (PlainItem ℕ)) (asked : Asked) (made : PlainExplored) → IsExplored p asked made → made.runs ≤ asked.runs
at_most p asked made is =
    let many : made.runs ≡ length is.ends = ap (λ (m : PlainExplored). m.runs) is.gathered_so in
    elim is.enough as (λ _. made.runs ≤ asked.runs) [
      | inl all ↦ let h = all.0 in omega (arith, many, h)
      | inr some ↦ let h = some.3 in omega (arith, many, h)
    ]

-- one run more, by its parts
pub added_hub : (old : PlainExplored) (cs new_classes : List PlainClass) (n m : ℕ) (was well now : Bool) (seed : ℕ)
    (finish : Finish) (e : PlainEnded) → record { classes = cs; runs = n; well = was } ≡ old
    → finish ≡ e.finish → new_classes ≡ classed seed finish cs → m ≡ n + 1 → well ≡ is_well e → now ≡ (was && well) → record { classes = new_classes; runs = m; well = now } ≡ with_ended seed e old
added_hub old cs new_classes n m was well now seed finish e view is made more well_is both =
    same_parts _ _ _ _ _ _ (made ∙ ap (λ f. classed seed f cs) is) more (both ∙ ap (λ b. was && b) well_is) ∙ ap (with_ended seed e) view

pub finish_is : (h : Kept) (details : List Detail) (digest : List ℕ) (items : List Item) → digest ≡ sha256 h.course.output → items ≡ h.course.items
    → record { details = details; digest = digest; items = items } ≡ finish_of h details
finish_is h details digest items b d =
    ap (λ x. record { details = details; digest = x; items = items }) b ∙ ap (λ x. record { details = details; digest = sha256 h.course.output; items = x }) d

-- what the first run has printed, of which a hub keeps it
pub first_so : {E : Type 0} (r : Result (Vec ℕ Global) E) (p : List (PlainItem ℕ)) (asked : Asked) (order : Order) (h : Kept) (bytes : List ℕ)
    → order ≡ seed_order asked.orders asked.first → IsSeedRun p asked.budget order asked.first h → bytes ≡ h.course.output → IfOk r (λ v. v.items ≡ bytes)
    → IfOk r (λ v. IsFirstOutput p asked v.items)
first_so (Ok v) p asked order h bytes by run out is = (h, subst (λ (o : Order). IsSeedRun p asked.budget o asked.first h) by run, is ∙ out)
first_so (Err e) p asked order h bytes by run out is = tt
