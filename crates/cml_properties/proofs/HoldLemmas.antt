-- How a property that some lines keep fares with one line more.
use Rattle.std.proofs.Common.{◌≡◌, ℕ, ◌+◌, ◌≤◌, Bool, true, false, not, cond, ◌||◌, ◌&&◌, leb, ltb, List, [], ◌∷◌, ◌++◌, take, drop, refl, ap, sym, ◌∙◌, arith}
use Rattle.std.proofs.lemmas.List.{append-nil, take-take, take-append-drop}
use Rattle.std.specs.List.{list_any, before_first, count_by}
use Rattle.std.proofs.lemmas.Bool.{or_parts, or_right, not-true, not_from_false, leb-true, le-leb}
use Rattle.std.proofs.lemmas.Bool.Decides.{nat_tests}
use Rattle.std.proofs.lemmas.List.Folds.{list_any-append}
use Rattle.std.proofs.lemmas.List.Sums.{sum_by-append, sum_by_push}
use Rattle.cml_properties.specs.declared.property.Property.{Property}
use Rattle.cml_properties.specs.declared.property.Property.TheVariants.{Never, Always, Once, Before, SameLines, SameOrder, Empty}
use Rattle.cml_properties.specs.declared.property.Finish.{Finish}
use Rattle.cml_properties.specs.declared.property.Finish.TheVariants.{GoesOn}
use Rattle.cml_properties.specs.Lines.{PlainLine}
use Rattle.cml_properties.specs.Patterns.{matches}
use Rattle.cml_properties.specs.Properties.{keeps, is_finished, has_items}
use Rattle.cml_properties.specs.Watches.{marks, is_broken_by, is_broken_at_end}
use Rattle.cml_properties.proofs.Firsts.{before_cons, before_append, before_all, count_some}

-- one line more

never_step : (a m : Bool) → not a ≡ true → not (a || (m || false)) ≡ not m
never_step a m h = elim a as (λ b. not b ≡ true → not (b || (m || false)) ≡ not m) [ true ↦ λ e. cc | false ↦ λ e. elim m as (λ n. not (n || false) ≡ not n) [ true ↦ refl | false ↦ refl ] ] h

once_step : (m : Bool) (n : ℕ) → leb n 1 ≡ true → leb (n + cond m 1 0) 1 ≡ not (ltb 0 n && m)
once_step true n h = grind (arith, nat_tests)
once_step false n h = grind (arith, nat_tests)

-- whether the later pattern has a match before the first match of the first, where there is a match of the first or none
before_step : (q : PlainLine → Bool) (a m l : Bool) (front lines : List PlainLine) (line : PlainLine) → l ≡ q line → (a ≡ false → front ≡ lines) → not (list_any q front) ≡ true →
    not (list_any q (cond a front (lines ++ cond m [] (line ∷ [])))) ≡ not (not a && not m && l)
before_step q true m l front lines line e same h = h
before_step q false true l front lines line e same h = ap (λ xs. not (list_any q xs)) (append-nil lines ∙ sym (same refl)) ∙ h
before_step q false false l front lines line e same h =
    let none : list_any q lines ≡ false = ap (list_any q) (sym (same refl)) ∙ not-true (list_any q front) h in
    ap not (list_any-append q lines (line ∷ []) ∙ ap (λ b. b || (q line || false)) none ∙ or_nothing (q line) ∙ sym e)
  where
    or_nothing : (b : Bool) → (b || false) ≡ b
    or_nothing true = refl
    or_nothing false = refl

pub line_step : (property : Property) (lines : List PlainLine) (line : PlainLine) (marked : Bool) → marked ≡ list_any (marks property) lines → keeps property lines GoesOn ≡ true →
    keeps property (lines ++ line ∷ []) GoesOn ≡ not (is_broken_by property marked line)
line_step (Never p) lines line marked e h = ap not (list_any-append (matches p) lines (line ∷ [])) ∙ never_step (list_any (matches p) lines) (matches p line) h
line_step (Always p) lines line marked e h = or_right (list_any (matches p) (lines ++ line ∷ [])) true refl
line_step (Once p) lines line marked e h =
    ap (λ n. leb n 1) (sum_by_push (λ y. cond (matches p y) 1 0) lines line)
    ∙ once_step (matches p line) (count_by (matches p) lines) h
    ∙ ap (λ b. not (b && matches p line)) (count_some (matches p) lines ∙ sym e)
line_step (Before f q) lines line marked e h =
    ap (λ xs. not (list_any (matches q) xs)) (before_append (matches f) lines (line ∷ []))
    ∙ ap (λ xs. not (list_any (matches q) (cond (list_any (matches f) lines) (before_first (matches f) lines) (lines ++ xs)))) (before_cons (matches f) line [])
    ∙ before_step (matches q) (list_any (matches f) lines) (matches f line) (matches q line) (before_first (matches f) lines) lines line refl (before_all (matches f) lines) h
    ∙ ap (λ b. not (not b && not (matches f line) && matches q line)) (sym e)
line_step SameLines lines line marked e h = refl
line_step SameOrder lines line marked e h = refl
line_step Empty lines line marked e h = refl

-- the end

pub not_not : (b : Bool) → b ≡ not (not b)
not_not true = refl
not_not false = refl

none_at_end : (a b : Bool) → not a && b ≡ not (a || not b)
none_at_end true b = refl
none_at_end false true = refl
none_at_end false false = refl

pub end_step : (property : Property) (lines : List PlainLine) (finish : Finish) (marked : Bool) → marked ≡ list_any (marks property) lines → keeps property lines GoesOn ≡ true →
    is_broken_at_end property marked finish ≡ not (keeps property lines finish)
end_step (Never p) lines finish marked e h = sym (ap not h)
end_step (Always p) lines finish marked e h = ap (λ b. not b && is_finished finish) e ∙ none_at_end (list_any (matches p) lines) (is_finished finish)
end_step (Once p) lines finish marked e h = sym (ap not h)
end_step (Before f q) lines finish marked e h = sym (ap not h)
end_step SameLines lines finish marked e h = refl
end_step SameOrder lines finish marked e h = refl
end_step Empty lines finish marked e h = not_not (has_items finish)

-- what lines keep, fewer lines keep

before_front : (q : PlainLine → Bool) (a : Bool) (front lines others : List PlainLine) → (a ≡ false → front ≡ lines) → not (list_any q (cond a front (lines ++ others))) ≡ true →
    not (list_any q front) ≡ true
before_front q true front lines others same h = h
before_front q false front lines others same h =
    let parts = or_parts (list_any q lines) (list_any q others) (sym (list_any-append q lines others) ∙ not-true (list_any q (lines ++ others)) h) in
    not_from_false (list_any q front) (ap (list_any q) (same refl) ∙ parts.0)

few_front : (m n : ℕ) → leb (m + n) 1 ≡ true → leb m 1 ≡ true
few_front m n h = le-leb m 1 (omega (arith, leb-true (m + n) 1 h))

pub kept_front : (property : Property) (lines others : List PlainLine) → keeps property (lines ++ others) GoesOn ≡ true → keeps property lines GoesOn ≡ true
kept_front (Never p) lines others h =
    let parts = or_parts (list_any (matches p) lines) (list_any (matches p) others) (sym (list_any-append (matches p) lines others) ∙ not-true (list_any (matches p) (lines ++ others)) h) in
    not_from_false (list_any (matches p) lines) parts.0
kept_front (Always p) lines others h = or_right (list_any (matches p) lines) true refl
kept_front (Once p) lines others h =
    few_front (count_by (matches p) lines) (count_by (matches p) others) (ap (λ n. leb n 1) (sym (sum_by-append (λ y. cond (matches p y) 1 0) lines others)) ∙ h)
kept_front (Before f q) lines others h =
    before_front (matches q) (list_any (matches f) lines) (before_first (matches f) lines) lines (before_first (matches f) others) (before_all (matches f) lines)
    (ap (λ xs. not (list_any (matches q) xs)) (sym (before_append (matches f) lines others)) ∙ h)
kept_front SameLines lines others h = refl
kept_front SameOrder lines others h = refl
kept_front Empty lines others h = refl

pub kept_sooner : (property : Property) (lines : List PlainLine) (k n : ℕ) → k ≤ n → keeps property (take n lines) GoesOn ≡ true → keeps property (take k lines) GoesOn ≡ true
kept_sooner property lines k n le h =
    ap (λ xs. keeps property xs GoesOn) (sym (take-take k n lines le))
    ∙ kept_front property (take k (take n lines)) (drop k (take n lines)) (ap (λ xs. keeps property xs GoesOn) (take-append-drop k (take n lines)) ∙ h)
