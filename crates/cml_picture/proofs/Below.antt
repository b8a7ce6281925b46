-- One thread more.
use Rattle.std.proofs.Common.{◌≡◌, ℕ, zero, suc, ◌+◌, ◌<◌, ◌≤◌, Bool, ◌||◌, List, [], ◌∷◌, ◌++◌, refl, ap, ◌∙◌, arith}
use Rattle.std.specs.Prelude.{if◌then◌else◌, nat_le, slice_get}
use Rattle.cml_value.specs.Value.{PlainFunction}
use Rattle.cml_scan.specs.World.{PlainThread}
use Rattle.cml_schedule.specs.declared.item.Item.{Item}
use Rattle.cml_facts.specs.Waits.{who_is}
use Rattle.cml_picture.specs.Lives.{beginnings, awaits_of, left_at, lefts}
use Rattle.cml_picture.specs.Parts.{acts, flag_at, takes_part}

pub beginnings_none : (began : List PlainFunction) (p : ℕ → Bool) → beginnings began p 0 ≡ []
unfolding beginnings
beginnings_none began p = refl

pub beginnings_on : (began : List PlainFunction) (p : ℕ → Bool) (t : ℕ) →
    beginnings began p (t + 1) ≡ (if p t then beginnings began p t ++ who_is began t ∷ [] else beginnings began p t)
unfolding beginnings
beginnings_on began p t = let e : t + 1 ≡ suc t = omega arith in ap (λ n. beginnings began p n) e

pub lefts_none : (began : List PlainFunction) (p : ℕ → Bool) (threads : List PlainThread) → lefts began p threads 0 ≡ []
unfolding lefts
lefts_none began p threads = refl

pub lefts_on : (began : List PlainFunction) (p : ℕ → Bool) (threads : List PlainThread) (t : ℕ) →
    lefts began p threads (t + 1) ≡ (if p t then lefts began p threads t ++ left_at began t (awaits_of (slice_get threads t)) else lefts began p threads t)
unfolding lefts
lefts_on began p threads t = let e : t + 1 ≡ suc t = omega arith in ap (λ n. lefts began p threads n) e

-- what is the same of the first n threads lists the same
beginnings_alike : (began : List PlainFunction) (p q : ℕ → Bool) (n : ℕ) → ((t : ℕ) → t < n → p t ≡ q t) → beginnings began p n ≡ beginnings began q n
unfolding beginnings
beginnings_alike began p q zero h = refl
beginnings_alike began p q (suc t) h =
    let below : (u : ℕ) → u < t → p u ≡ q u = λ u lt. h u (omega (arith, lt)) in
    let at : p t ≡ q t = h t (omega arith) in
    let above = beginnings_alike began p q t below in
    rw (at, above) refl

lefts_alike : (began : List PlainFunction) (p q : ℕ → Bool) (threads : List PlainThread) (n : ℕ) → ((t : ℕ) → t < n → p t ≡ q t) → lefts began p threads n ≡ lefts began q threads n
unfolding lefts
lefts_alike began p q threads zero h = refl
lefts_alike began p q threads (suc t) h =
    let below : (u : ℕ) → u < t → p u ≡ q u = λ u lt. h u (omega (arith, lt)) in
    let at : p t ≡ q t = h t (omega arith) in
    let above = lefts_alike began p q threads t below in
    rw (at, above) refl

-- by flags that say which threads act in these items
pub beginnings_are : (began : List PlainFunction) (items : List Item) (flags : List Bool) (k n : ℕ) → n ≤ k → ((t : ℕ) → t < k → flag_at flags t ≡ acts items t) →
    beginnings began (flag_at flags) n ≡ beginnings began (acts items) n
beginnings_are began items flags k n few h = beginnings_alike began (flag_at flags) (acts items) n (λ t lt. h t (omega (arith, lt, few)))

pub lefts_are : (began : List PlainFunction) (items : List Item) (before : ℕ) (flags : List Bool) (threads : List PlainThread) (k n : ℕ) → n ≤ k
    → ((t : ℕ) → t < k → flag_at flags t ≡ acts items t) → lefts began (λ t. nat_le before t || flag_at flags t) threads n ≡ lefts began (takes_part before items) threads n
lefts_are began items before flags threads k n few h =
    lefts_alike began (λ t. nat_le before t || flag_at flags t) (takes_part before items) threads n (λ t lt. ap (λ b. nat_le before t || b) (h t (omega (arith, lt, few))))
