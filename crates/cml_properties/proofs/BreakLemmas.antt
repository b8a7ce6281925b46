-- Where a property breaks: at one place at most, and at one where it is not kept.
use Rattle.std.proofs.Common.{◌≡◌, ℕ, ◌+◌, ◌<◌, ◌≤◌, ◌==◌, Bool, true, false, not, ◌||◌, List, [], ◌∷◌, ◌++◌, length, take, drop, get_or, Some, None, refl, ap, sym, ◌∙◌, subst, arith, inl, inr}
use Rattle.std.specs.Prelude.{◌↔◌, IsNone, IsTrue}
use Rattle.std.specs.List.{list_any}
use Rattle.std.proofs.lemmas.Bool.{or_right, both_ways, not-true, not-false, cases_lt, cases_order, cond-true, cond-false, eq-eqb, ne_eqb}
use Rattle.std.proofs.lemmas.List.{take_all, take_more, take-append-drop}
use Rattle.std.proofs.lemmas.List.Folds.{list_any-append}
use Rattle.cml_properties.specs.declared.property.Property.{Property}
use Rattle.cml_properties.specs.declared.property.Property.TheVariants.{Never, Always, Once, Before, SameLines, SameOrder, Empty}
use Rattle.cml_properties.specs.declared.property.Finish.{Finish}
use Rattle.cml_properties.specs.declared.property.Finish.TheVariants.{GoesOn}
use Rattle.cml_properties.specs.declared.watch.Watch.{Watch}
use Rattle.cml_properties.specs.Lines.{PlainLine}
use Rattle.cml_properties.specs.Properties.{keeps}
use Rattle.cml_properties.specs.Watches.{BreaksAt, HasSeen, marks, is_broken_by}
use Rattle.cml_properties.proofs.HoldLemmas.{line_step, kept_front, kept_sooner, not_not}

-- before the first line
pub kept_none : (property : Property) → keeps property [] GoesOn ≡ true
kept_none (Never p) = refl
kept_none (Always p) = refl
kept_none (Once p) = refl
kept_none (Before f q) = refl
kept_none SameLines = refl
kept_none SameOrder = refl
kept_none Empty = refl

or_nothing : (b : Bool) → (b || false) ≡ b
or_nothing true = refl
or_nothing false = refl

-- what is known with one line more
pub seen_more : (watch next : Watch) (lines : List PlainLine) (line : PlainLine) → next.property.now ≡ watch.property.now → next.marked ≡ (watch.marked || marks watch.property.now line) →
    is_broken_by watch.property.now watch.marked line ≡ false → HasSeen watch lines → HasSeen next (lines ++ line ∷ [])
seen_more watch next lines line same marked whole seen = record {
  marked =
      marked ∙ ap (λ b. b || marks watch.property.now line) seen.marked ∙ ap (λ b. list_any (marks watch.property.now) lines || b) (sym (or_nothing (marks watch.property.now line)))
      ∙ sym (list_any-append (marks watch.property.now) lines (line ∷ [])) ∙ ap (λ p. list_any (marks p) (lines ++ line ∷ [])) (sym same);
  kept = ap (λ p. keeps p (lines ++ line ∷ []) GoesOn) same ∙ line_step watch.property.now lines line watch.marked seen.marked seen.kept ∙ ap not whole;
}

-- whether the next line breaks the property
pub breaks_next : (watch : Watch) (lines : List PlainLine) (line : PlainLine) → HasSeen watch lines →
    is_broken_by watch.property.now watch.marked line ≡ not (keeps watch.property.now (lines ++ line ∷ []) GoesOn)
breaks_next watch lines line seen =
    not_not (is_broken_by watch.property.now watch.marked line) ∙ ap not (sym (line_step watch.property.now lines line watch.marked seen.marked seen.kept))

-- a run that keeps the property kept it before it ended
pub kept_open : (property : Property) (lines : List PlainLine) (finish : Finish) → keeps property lines finish ≡ true → keeps property lines GoesOn ≡ true
kept_open (Never p) lines finish h = h
kept_open (Always p) lines finish h = or_right (list_any (marks (Always p)) lines) true refl
kept_open (Once p) lines finish h = h
kept_open (Before f q) lines finish h = h
kept_open SameLines lines finish h = refl
kept_open SameOrder lines finish h = refl
kept_open Empty lines finish h = refl

broken_line : (property : Property) (lines : List PlainLine) (finish : Finish) (at : ℕ) → BreaksAt property lines finish at → at < length lines →
    keeps property (take (at + 1) lines) GoesOn ≡ false
broken_line property lines finish at b lt =
    let other : (at == length lines) ≡ false = ne_eqb at (length lines) (λ e. omega arith) in
    ap (λ f. keeps property (take (at + 1) lines) f) (sym (cond-false (at == length lines) finish GoesOn other)) ∙ b.broken

broken_end : (property : Property) (lines : List PlainLine) (finish : Finish) (at : ℕ) → BreaksAt property lines finish at → length lines ≤ at →
    keeps property lines finish ≡ false
broken_end property lines finish at b le =
    let within : at ≤ length lines = b.within in
    let last : (at == length lines) ≡ true = eq-eqb at (length lines) (omega arith) in
    ap (λ xs. keeps property xs finish) (sym (take_all (at + 1) lines (omega arith)))
    ∙ ap (λ f. keeps property (take (at + 1) lines) f) (sym (cond-true (at == length lines) finish GoesOn last)) ∙ b.broken

-- a property that breaks is not kept
pub not_kept : (property : Property) (lines : List PlainLine) (finish : Finish) (at : ℕ) → BreaksAt property lines finish at → keeps property lines finish ≡ true → ⊥
not_kept property lines finish at b h =
    elim (cases_lt at (length lines)) [
      | inl lt ↦
          let whole : keeps property (take (at + 1) lines ++ drop (at + 1) lines) GoesOn ≡ true =
          ap (λ xs. keeps property xs GoesOn) (take-append-drop (at + 1) lines) ∙ kept_open property lines finish h in
          both_ways (keeps property (take (at + 1) lines) GoesOn) (broken_line property lines finish at b lt) (kept_front property (take (at + 1) lines) (drop (at + 1) lines) whole)
      | inr le ↦ both_ways (keeps property lines finish) (broken_end property lines finish at b le) h
    ]

sooner : (property : Property) (lines : List PlainLine) (finish : Finish) (a b : ℕ) → BreaksAt property lines finish a → BreaksAt property lines finish b → a < b → ⊥
sooner property lines finish a b x y lt =
    let within : b ≤ length lines = y.within in
    both_ways (keeps property (take (a + 1) lines) GoesOn) (broken_line property lines finish a x (omega arith))
    (kept_sooner property lines (a + 1) b (omega arith) y.kept)

-- it breaks at one place
pub breaks_once : (property : Property) (lines : List PlainLine) (finish : Finish) (a b : ℕ) → BreaksAt property lines finish a → BreaksAt property lines finish b → a ≡ b
breaks_once property lines finish a b x y =
    elim (cases_order a b) [
      | inl e ↦ e
      | inr less ↦ elim less [ inl lt ↦ absurd (sooner property lines finish a b x y lt) | inr gt ↦ absurd (sooner property lines finish b a y x gt) ]
    ]

pub breaks_at_line : (property : Property) (lines : List PlainLine) (finish : Finish) (at : ℕ) → at < length lines → keeps property (take at lines) GoesOn ≡ true →
    keeps property (take (at + 1) lines) GoesOn ≡ false → BreaksAt property lines finish at
breaks_at_line property lines finish at lt kept broken = record {
  within = omega arith;
  kept = kept;
  broken = ap (λ f. keeps property (take (at + 1) lines) f) (cond-false (at == length lines) finish GoesOn (ne_eqb at (length lines) (λ e. omega arith))) ∙ broken;
}

pub breaks_at_end : (property : Property) (lines : List PlainLine) (finish : Finish) → keeps property lines GoesOn ≡ true → keeps property lines finish ≡ false →
    BreaksAt property lines finish (length lines)
breaks_at_end property lines finish kept broken = record {
  within = omega arith;
  kept = ap (λ xs. keeps property xs GoesOn) (take_all (length lines) lines (omega arith)) ∙ kept;
  broken =
      ap (λ f. keeps property (take (length lines + 1) lines) f) (cond-true (length lines == length lines) finish GoesOn (eq-eqb (length lines) (length lines) refl))
      ∙ ap (λ xs. keeps property xs finish) (take_all (length lines + 1) lines (omega arith)) ∙ broken;
}

-- one line more of the list
pub next_lines : (lines : List PlainLine) (i : ℕ) (line : PlainLine) → i < length lines → line ≡ get_or lines i line → take (i + 1) lines ≡ take i lines ++ line ∷ []
next_lines lines i line lt e = take_more lines i line lt ∙ ap (λ l. take i lines ++ l ∷ []) (sym e)

pub seen_next : (watch : Watch) (lines : List PlainLine) (i : ℕ) (line : PlainLine) → i < length lines → line ≡ get_or lines i line →
    HasSeen watch (take i lines ++ line ∷ []) → HasSeen watch (take (i + 1) lines)
seen_next watch lines i line lt e seen = subst (λ (xs : List PlainLine). HasSeen watch xs) (sym (next_lines lines i line lt e)) seen

-- where the next line breaks it
pub breaks_here : (property : Property) (watch : Watch) (lines : List PlainLine) (finish : Finish) (i : ℕ) (line : PlainLine) → i < length lines → line ≡ get_or lines i line →
    watch.property.now ≡ property → HasSeen watch (take i lines) → true ≡ not (keeps watch.property.now (take i lines ++ line ∷ []) GoesOn) → BreaksAt property lines finish i
breaks_here property watch lines finish i line lt e same seen breaks =
    breaks_at_line property lines finish i lt (ap (λ p. keeps p (take i lines) GoesOn) (sym same) ∙ seen.kept)
    (ap (λ xs. keeps property xs GoesOn) (next_lines lines i line lt e) ∙ ap (λ p. keeps p (take i lines ++ line ∷ []) GoesOn) (sym same)
    ∙ not-true (keeps watch.property.now (take i lines ++ line ∷ []) GoesOn) (sym breaks))

-- where the end breaks it, and where nothing does
pub breaks_behind : (property : Property) (watch : Watch) (lines : List PlainLine) (finish : Finish) → watch.property.now ≡ property → HasSeen watch lines →
    true ≡ not (keeps watch.property.now lines finish) → BreaksAt property lines finish (length lines)
breaks_behind property watch lines finish same seen breaks =
    breaks_at_end property lines finish (ap (λ p. keeps p lines GoesOn) (sym same) ∙ seen.kept)
    (ap (λ p. keeps p lines finish) (sym same) ∙ not-true (keeps watch.property.now lines finish) (sym breaks))

pub kept_whole : (property : Property) (watch : Watch) (lines : List PlainLine) (finish : Finish) → watch.property.now ≡ property →
    false ≡ not (keeps watch.property.now lines finish) → keeps property lines finish ≡ true
kept_whole property watch lines finish same breaks = ap (λ p. keeps p lines finish) (sym same) ∙ not-false (keeps watch.property.now lines finish) (sym breaks)

-- all lines were looked at
pub seen_all : (watch : Watch) (lines : List PlainLine) (i : ℕ) → length lines ≤ i → HasSeen watch (take i lines) → HasSeen watch lines
seen_all watch lines i le seen = subst (λ (xs : List PlainLine). HasSeen watch xs) (take_all i lines le) seen

-- what is told is so
pub told_broken : (property : Property) (lines : List PlainLine) (finish : Finish) (at : ℕ) → BreaksAt property lines finish at →
    IsNone (Some at) ↔ IsTrue (keeps property lines finish)
told_broken property lines finish at b = (λ h. cc, λ h. absurd (not_kept property lines finish at b h))

pub told_kept : (property : Property) (lines : List PlainLine) (finish : Finish) → keeps property lines finish ≡ true → IsNone {T = ℕ} None ↔ IsTrue (keeps property lines finish)
told_kept property lines finish h = (λ none. h, λ kept. refl)
