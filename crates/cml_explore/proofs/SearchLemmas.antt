-- Steps of the search, one after another.
use Rattle.std.proofs.Common.{◌≡◌, ℕ, ◌+◌, ◌-◌, ◌<◌, ◌≤◌, ◌⊎◌, inl, inr, Bool, true, false, List, length, take, refl, sym, ap, subst, ◌∙◌, arith, eqb-true}
use Rattle.std.specs.Prelude.{◌==◌, ◌||◌, MatchBool, Some, Result, Ok, Err, IfOk, slice_get, remove}
use Rattle.std.proofs.lemmas.List.{length-take-le}
use Rattle.cml_check.specs.Syntax.{PlainItem}
use Rattle.cml_schedule.specs.declared.item.Item.{Item}
use Rattle.cml_facts.specs.declared.fault.detail.Detail.{Detail}
use Rattle.cml_explore.specs.Cuts.{acts_in, without_rest, IsSelection}
use Rattle.cml_explore.proofs.CutLemmas.{selection_of_all, selection_trans, selection_few}
use Rattle.cml_step.specs.Calls.{text_of}
use Rattle.cml_judge.specs.Stops.{StopsBehind}
use Rattle.cml_explore.specs.declared.shrink.replay.Asked.{Asked}
use Rattle.cml_explore.specs.ShrinkEnds.{EndsWith, IsGiven}
use Rattle.cml_explore.specs.Shrinking.{PlainShrunk, IsShrunk}
use Rattle.cml_explore.specs.declared.shrink.replay.Goal.{Goal}
use Rattle.cml_explore.specs.Searching.{PlainSearch, AlikeTo, UnlikeTo, NeededBy, MinimalTo, Steps, SearchBegins, Goes, SearchSettles, SearchFinds}

-- nothing was tried
pub no_step : (g : Goal) (A : Type 0) (s : PlainSearch) → A → Steps g A s false s
no_step g A s a = (refl, omega arith, inr a)

-- what holds otherwise may be told in other words
pub step_as : (g : Goal) (A C : Type 0) (old new : PlainSearch) (came : Bool) → Steps g A old came new → (A → C) → Steps g C old came new
step_as g A C old new true s f = s
step_as g A C old new false s f = (s.0, s.1, elim s.2 [ inl e ↦ inl e | inr a ↦ inr (f a) ])

pub step_as_ok : {E : Type 0} (r : Result Bool E) (g : Goal) (A C : Type 0) (old new : PlainSearch) → IfOk r (λ came. Steps g A old came new) → (A → C)
    → IfOk r (λ came. Steps g C old came new)
step_as_ok (Ok came) g A C old new s f = step_as g A C old new came s f
step_as_ok (Err e) g A C old new s f = tt

-- After a step by which nothing was left out comes another one.
both_else : (A B C : Type 0) (old mid new : ℕ) → new ≤ mid → (mid ≡ 0) ⊎ A → (new ≡ 0) ⊎ B → (A → B → C) → (new ≡ 0) ⊎ C
both_else A B C old mid new h (inl e) y f = inl (omega arith)
both_else A B C old mid new h (inr a) (inl e) f = inl e
both_else A B C old mid new h (inr a) (inr b) f = inr (f a b)

pub then_step : (g : Goal) (A B C : Type 0) (old mid new : PlainSearch) (came : Bool) → Steps g A old false mid → Steps g B mid came new → (A → B → C) → Steps g C old came new
then_step g A B C old mid new true s t f = (t.0, subst (λ (items : List Item). IsSelection items new.items) s.0 t.1, omega arith)
then_step g A B C old mid new false s t f = (t.0 ∙ s.0, omega arith, both_else A B C old.left mid.left new.left t.1 s.2 t.2 f)

pub then_step_ok : {E : Type 0} (r : Result Bool E) (g : Goal) (A B C : Type 0) (old mid new : PlainSearch) → Steps g A old false mid → IfOk r (λ came. Steps g B mid came new)
    → (A → B → C) → IfOk r (λ came. Steps g C old came new)
then_step_ok (Ok came) g A B C old mid new s t f = then_step g A B C old mid new came s t f
then_step_ok (Err e) g A B C old mid new s t f = tt

-- Something was left out before, and whatever comes of the next step.
pub came_before : (g : Goal) (A B C : Type 0) (old mid new : PlainSearch) (came : Bool) → Steps g A old true mid → Steps g B mid came new → Steps g C old true new
came_before g A B C old mid new true s t = (t.0, selection_trans old.items mid.items new.items s.1 t.1, omega arith)
came_before g A B C old mid new false s t =
    let more = subst (λ (items : List Item). IsSelection old.items items) (sym t.0) s.1 in
    (subst (λ (items : List Item). AlikeTo g items) (sym t.0) s.0, more, omega arith)

pub join_steps : (g : Goal) (A B C : Type 0) (old mid new : PlainSearch) (one other : Bool) → Steps g A old one mid → Steps g B mid other new → (mid.items ≡ old.items → A → B → C)
    → Steps g C old (one || other) new
join_steps g A B C old mid new true other s t f = came_before g A B C old mid new other s t
join_steps g A B C old mid new false other s t f = then_step g A B C old mid new other s t (f s.0)

-- from this number on each of so many last items is needed
abbrev pub NeededFrom : Goal → List Item → ℕ → Type 0
NeededFrom g items done = (i : ℕ) → i < length items → length items ≤ i + done → NeededBy g items i

one_more : (g : Goal) (items : List Item) (done number : ℕ) → number + 1 + done ≡ length items → NeededFrom g items done → NeededBy g items number
    → (i : ℕ) → i < length items → length items ≤ i + (done + 1) → (i ≡ number) ⊎ (length items ≤ i + done) → NeededBy g items i
one_more g items done number e from here i h k (inl same) = subst (λ (n : ℕ). NeededBy g items n) (sym same) here
one_more g items done number e from here i h k (inr before) = from i h before

is_or_before : (n i done number : ℕ) → number + 1 + done ≡ n → n ≤ i + (done + 1) → (i ≡ number) ⊎ (n ≤ i + done)
is_or_before n i done number e k = grind arith

pub pass_goes : (g : Goal) (old mid new : PlainSearch) (one other now : Bool) (done number : ℕ) → now ≡ (one || other) → number + 1 + done ≡ length old.items
    → Steps g (NeededFrom g old.items done) old one mid → Steps g (number < length mid.items → NeededBy g mid.items number) mid other new
    → Steps g (NeededFrom g old.items (done + 1)) old now new
pass_goes g old mid new one other now done number is e s t =
    subst (λ (b : Bool). Steps g (NeededFrom g old.items (done + 1)) old b new) (sym is)
    (join_steps g (NeededFrom g old.items done) (number < length mid.items → NeededBy g mid.items number)
    (NeededFrom g old.items (done + 1)) old mid new one other s t
    (λ same from here i h k.
    let there : number < length mid.items = omega (arith, ap length same) in
    one_more g old.items done number e from (subst (λ (items : List Item). NeededBy g items number) same (here there)) i h k
    (is_or_before (length old.items) i done number e k)))

pub pass_ends : (g : Goal) (old new : PlainSearch) (came : Bool) (done : ℕ) → length old.items ≤ done
    → Steps g (NeededFrom g old.items done) old came new → Steps g (MinimalTo g old.items) old came new
pass_ends g old new came done h s = step_as g (NeededFrom g old.items done) (MinimalTo g old.items) old new came s (λ from i k. from i k (omega arith))

-- what holds after a step, whatever came of it
pub step_goes : (g : Goal) (A : Type 0) (old new : PlainSearch) (came : Bool) → AlikeTo g old.items → Steps g A old came new → Goes g old new
step_goes g A old new true alike s = record { ends_alike = s.0; selects = s.1; tries = omega arith }
step_goes g A old new false alike s = record {
  ends_alike = subst (λ (items : List Item). AlikeTo g items) (sym s.0) alike;
  selects = subst (λ (items : List Item). IsSelection old.items items) (sym s.0) (selection_of_all old.items);
  tries = s.1;
}

pub goes_nowhere : (g : Goal) (s : PlainSearch) → AlikeTo g s.items → Goes g s s
goes_nowhere g s alike = record { ends_alike = alike; selects = selection_of_all s.items; tries = omega arith }

pub goes_on : (g : Goal) (old mid new : PlainSearch) → Goes g old mid → Goes g mid new → Goes g old new
goes_on g old mid new s t =
    record { ends_alike = t.ends_alike; selects = selection_trans old.items mid.items new.items s.selects t.selects; tries = omega (arith, s.tries, t.tries) }

pub step_came : (g : Goal) (A C : Type 0) (old new : PlainSearch) (came : Bool) → came ≡ true → Steps g A old came new → Steps g C old true new
step_came g A C old new true e s = s
step_came g A C old new false e s = cc

pub step_less : (g : Goal) (A : Type 0) (old new : PlainSearch) (came : Bool) → came ≡ true → Steps g A old came new → new.left < old.left
step_less g A old new true e s = s.2
step_less g A old new false e s = cc

pub step_none : (g : Goal) (A : Type 0) (old new : PlainSearch) (came : Bool) → came ≡ false → Steps g A old came new → Steps g A old false new
step_none g A old new true e s = cc
step_none g A old new false e s = s

pub then_none_ok : {E : Type 0} (r : Result Bool E) (g : Goal) (A B C : Type 0) (old mid new : PlainSearch) (came : Bool) → came ≡ false → Steps g A old came mid
    → IfOk r (λ k. Steps g B mid k new) → (mid.items ≡ old.items → A → B → C) → IfOk r (λ k. Steps g C old k new)
then_none_ok r g A B C old mid new came e s t f = let none = step_none g A old mid came e s in then_step_ok r g A B C old mid new none t (f none.0)

-- the items of one thread, and of two
same_number : (a b : ℕ) → (a == b) ≡ true → a ≡ b
same_number a b h = eqb-true a b h

pub rest_of_one : (g : Goal) (items : List Item) (n u t : ℕ) → UnlikeTo g (without_rest items u n) → (u == t) ≡ true → UnlikeTo g (without_rest items t n)
rest_of_one g items n u t h e = subst (λ (k : ℕ). UnlikeTo g (without_rest items k n)) (same_number u t e) h

one_of_two : (a b : Bool) → (a || b) ≡ true → (a ≡ true) ⊎ (b ≡ true)
one_of_two true b e = inl refl
one_of_two false b e = inr e

pub rest_of_two : (g : Goal) (items : List Item) (n h o t : ℕ) → UnlikeTo g (without_rest items h n) → UnlikeTo g (without_rest items o n) → ((h == t) || (o == t)) ≡ true
    → UnlikeTo g (without_rest items t n)
rest_of_two g items n h o t x y e =
    elim (one_of_two (h == t) (o == t) e) [ inl p ↦ rest_of_one g items n h t x p | inr q ↦ rest_of_one g items n o t y q ]

-- what is needed at an item
pub needed_at : (g : Goal) (items : List Item) (n : ℕ) (here : Item) → slice_get items n ≡ Some here → ((t : ℕ) → acts_in t here ≡ true → UnlikeTo g (without_rest items t n))
    → UnlikeTo g (remove items n) → NeededBy g items n
needed_at g items n here is rest alone = record {
  alone = alone;
  rest = λ t item at part. rest t (let same : item ≡ here = cc in subst (λ (x : Item). acts_in t x ≡ true) same part);
}

-- nothing more can be left out
pub settles : (g : Goal) (old mid new : PlainSearch) (came : Bool) → came ≡ false → Goes g old mid → Steps g (MinimalTo g mid.items) mid came new → SearchSettles g old new
settles g old mid new came e s step = let t = step_none g (MinimalTo g mid.items) mid new came e step in record {
  goes = goes_on g old mid new s (step_goes g (MinimalTo g mid.items) mid new false s.ends_alike t);
  minimal = elim t.2 [ inl e ↦ inl e | inr least ↦ inr (subst (λ (items : List Item). MinimalTo g items) (sym t.0) least) ];
}

-- from the beginning of the search on
pub begins_so : (g : Goal) (given : List Item) (tries : ℕ) (s : PlainSearch) → s.items ≡ given → s.left ≡ tries → AlikeTo g given → SearchBegins g given tries s
begins_so g given tries s e left alike = record { ends_alike = subst (λ (items : List Item). AlikeTo g items) (sym e) alike; items_are = e; left_is = left }

pub finds_so : (g : Goal) (given : List Item) (tries : ℕ) (s a b c d : PlainSearch) → SearchBegins g given tries s → Goes g s a → SearchSettles g a b → Goes g b c → SearchSettles g c d
    → SearchFinds g given tries d
finds_so g given tries s a b c d begins first second third last =
    let all = goes_on g s b d (goes_on g s a b first second.goes) (goes_on g b c d third last.goes) in record {
      ends_alike = last.goes.ends_alike;
      selects = subst (λ (items : List Item). IsSelection items d.items) begins.items_are all.selects;
      in_tries = omega (arith, begins.left_is, first.tries, second.goes.tries, third.tries, last.goes.tries);
      minimal = last.minimal;
    }

within_by : (b : Bool) (p : List (PlainItem ℕ)) (asked : Asked) (items : List Item) (count : ℕ)
    → MatchBool b (StopsBehind asked.properties.now (text_of p) items count) (count ≡ length items) → count ≤ length items
within_by true p asked items count is = is.within
within_by false p asked items count is = omega (arith, is)

-- so many of the items are no more than there are
pub given_within : (p : List (PlainItem ℕ)) (asked : Asked) (items : List Item) (count : ℕ) → IsGiven p asked items count → count ≤ length items
given_within p asked items count is = within_by asked.stops p asked items count is

-- what was found for the items up to so many
pub shrunk_so : (g : Goal) (items given : List Item) (count : ℕ) (own : List Detail) (found : PlainSearch) (s : PlainShrunk) → EndsWith g.program.now g.asked given own
    → SearchFinds g given g.asked.tries found → IsGiven g.program.now g.asked items count → given ≡ take count items → g.details.now ≡ own
    → s ≡ record { items = found.items; used = g.asked.tries - found.left } → IsShrunk g.program.now g.asked items s
shrunk_so g items given count own found s ended finds so part same is =
    let within = given_within g.program.now g.asked items count so in
    let long : length given ≡ count = ap length part ∙ length-take-le count items within in
    subst (λ (made : PlainShrunk). IsShrunk g.program.now g.asked items made) (sym is) (record {
      count = count;
      given_are = so;
      details = g.details.now;
      ended = subst (λ (ds : List Detail). EndsWith g.program.now g.asked (take count items) ds) (sym same)
          (subst (λ (l : List Item). EndsWith g.program.now g.asked l own) part ended);
      ends_alike = finds.ends_alike;
      selects = subst (λ (l : List Item). IsSelection l found.items) part finds.selects;
      no_longer = omega (arith, selection_few given found.items finds.selects, long);
      in_tries = omega arith;
      minimal = elim finds.minimal [ inl e ↦ inl (omega (arith, e)) | inr least ↦ inr least ];
    })
