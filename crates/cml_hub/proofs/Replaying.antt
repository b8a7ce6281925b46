-- A schedule that is gone through item by item.
use Rattle.std.proofs.Common.{◌≡◌, ℕ, zero, suc, ◌+◌, ◌<◌, false, List, [], ◌∷◌, ◌++◌, length, take, drop, refl, arith, Some, None, sym, ap, ◌∙◌, subst}
use Rattle.std.specs.Prelude.{Option, if◌then◌else◌, option_and_then, slice_index_or}
use Rattle.std.proofs.lemmas.List.{take_more}
use Rattle.cml_check.specs.Syntax.{PlainItem}
use Rattle.cml_step.specs.Calls.{text_of}
use Rattle.cml_step.specs.Terms.{Program}
use Rattle.cml_schedule.specs.declared.item.Item.{Item}
use Rattle.cml_hub.specs.Runs.{Run, is_allowed, after_item, advance, stands_from, stands, opening}
use Rattle.cml_hub.specs.Courses.{run_of}
use Rattle.cml_hub.specs.Reports.{IsDue}
use Rattle.cml_hub.specs.Kept.{Kept, IsWatch, IsAtStart, IsFirstBad, NoneDue}

-- At the beginning no report is due.
none_due_first : (watch : Option ℕ) → IsWatch watch → IsDue watch 0 0 → ⊥
none_due_first None w d = d
none_due_first (Some k) w d = absurd (omega (arith, w.0, d))

pub begun_due : (p : List (PlainItem ℕ)) (budget : ℕ) (watch : Option ℕ) (h : Kept) → IsWatch watch → IsAtStart p budget watch h → NoneDue h
begun_due p budget watch h w b = λ d. none_due_first watch w (rw (b.watch_is, b.items, b.reports) at d)

-- where a schedule leads, item by item
from_none : (p : Program) (items : List Item) → stands_from p None items ≡ None
from_none p [] = refl
from_none p (item ∷ items) = from_none p items

from_both : (p : Program) (r : Option Run) (xs ys : List Item) → stands_from p r (xs ++ ys) ≡ stands_from p (stands_from p r xs) ys
from_both p r [] ys = refl
from_both p r (x ∷ xs) ys = from_both p (option_and_then (λ now. advance p now x) r) xs ys

split_at : (xs : List Item) (i : ℕ) (d : Item) → i < length xs → xs ≡ take i xs ++ slice_index_or xs i d ∷ drop (suc i) xs
split_at [] i d lt = absurd (omega arith)
split_at (x ∷ xs) zero d lt = refl
split_at (x ∷ xs) (suc i) d lt = ap (λ l. x ∷ l) (split_at xs i d (omega arith))

not_advanced : (p : Program) (r : Run) (item : Item) → is_allowed r.world item ≡ false → advance p r item ≡ None
not_advanced p r item h = ap (λ b. if b then after_item p r item else None) h

nowhere : (p : Program) (items before rest : List Item) (bad : Item) (r : Run) → items ≡ before ++ bad ∷ rest → stands p before ≡ Some r → advance p r bad ≡ None → stands p items ≡ None
nowhere p items before rest bad r split leads refused =
    ap (λ l. stands p l) split
    ∙ (from_both p (Some (opening p)) before (bad ∷ rest)
    ∙ (ap (λ o. stands_from p o (bad ∷ rest)) leads
    ∙ (ap (λ o. stands_from p o rest) refused ∙ from_none p rest)))

length-take-within : (xs : List Item) (i : ℕ) → i < length xs → length (take i xs) ≡ i
length-take-within [] i lt = absurd (omega arith)
length-take-within (x ∷ xs) zero lt = refl
length-take-within (x ∷ xs) (suc i) lt = ap suc (length-take-within xs i (omega arith))

pub bad_at : (p : List (PlainItem ℕ)) (items : List Item) (i : ℕ) (d : Item) (h : Kept) → i < length items
    → h.course.program ≡ p → h.course.items ≡ take i items → stands (text_of h.course.program) h.course.items ≡ Some (run_of h.course)
    → is_allowed h.course.world (slice_index_or items i d) ≡ false → IsFirstBad p items (i + 1) × (stands (text_of p) items ≡ None)
bad_at p items i d h lt program items_are leads refused =
    let bad : Item = slice_index_or items i d in
    let r = run_of h.course in
    let split : items ≡ take i items ++ bad ∷ drop (suc i) items = split_at items i d lt in
    let n : length (take i items) ≡ i = length-take-within items i lt in
    let l : stands (text_of p) (take i items) ≡ Some r = subst (λ x. stands (text_of x) (take i items) ≡ Some r) program (subst (λ x. stands (text_of h.course.program) x ≡ Some r) items_are leads) in
    let f : advance (text_of p) r bad ≡ None = not_advanced (text_of p) r bad refused in (
      record {
        before = take i items;
        bad = bad;
        rest = drop (suc i) items;
        split = split;
        counted = omega arith;
        run = r;
        leads = l;
        refused = f;
      },
      nowhere (text_of p) items (take i items) (drop (suc i) items) bad r split l f,
    )

-- one item more
pub one_more : (items : List Item) (i : ℕ) (d : Item) (old new : List Item) → i < length items → old ≡ take i items
    → new ≡ old ++ slice_index_or items i d ∷ [] → new ≡ take (i + 1) items
one_more items i d old new lt o n = n ∙ (ap (λ l. l ++ slice_index_or items i d ∷ []) o ∙ sym (take_more items i d lt))
