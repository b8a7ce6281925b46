-- Each step keeps the marks' rule.
use Rattle.std.proofs.Common.{◌≡◌, ◌≢◌, ℕ, zero, suc, List, [], ◌∷◌, ◌++◌, set, true, false, true≢false, refl, sym, ap, ◌∙◌, subst, ⊎_elim, append_assoc, append-nil, length, Some, arith}
use Rattle.std.specs.Prelude.{slice_get}
use Rattle.atomic_table.specs.Seated.{TableId}
use mathlib.Core.Option.{some, some-ne-none, some-injective}
use lib.ListN.{get_elem?}
use Rattle.crossbeam_utils.specs.Register.{Turns, Forks, Merges}
use Rattle.atomic_table.proofs.Lists.{at_set, at_snoc, set_again}
use Rattle.cml_schedule.specs.Reports.{PlainReport}
use Rattle.cml_work.specs.declared.marks.Known.{Known}
use Rattle.cml_work.specs.Marks.{BeginsWith, knower, nobody, shown_all, with_shown, MarksAgree, Learned, PlainMark, IsKeeper, known_of}

pub begins_same : (xs : List PlainReport) → BeginsWith xs xs
begins_same xs = ([], sym (append-nil xs))

pub begins_trans : (xs ys zs : List PlainReport) → BeginsWith xs ys → BeginsWith ys zs → BeginsWith xs zs
begins_trans xs ys zs (more, p) (rest, q) = (rest ++ more, p ∙ ap (λ l. l ++ more) q ∙ append_assoc zs rest more)

-- what the rule says of one view
abbrev Fits : ℕ → List PlainReport → ℕ → Known → Type 0
Fits seat log by v = (v.keeps ≡ true → (by ≡ seat) × (v.all ≡ log)) × BeginsWith log v.shown

fits_set : (seat : ℕ) (log : List PlainReport) (views : List Known) (by : ℕ) (w : Known) → ((j : ℕ) (u : Known) → j ≢ by → get_elem? views j ≡ some u → Fits seat log j u)
    → Fits seat log by w → (j : ℕ) (u : Known) → get_elem? (set views by w) j ≡ some u → Fits seat log j u
fits_set seat log views by w others mine j u e =
    ⊎_elim
    (λ (x : (j ≡ by) × (w ≡ u)). subst (λ (y : ℕ × Known). Fits seat log y.0 y.1) (λ i. (sym x.0 i, x.1 i)) mine)
    (λ (x : (j ≢ by) × (get_elem? views j ≡ some u)). others j u x.0 x.1)
    (at_set views by j w u e)

off : false ≡ true → ⊥
off e = true≢false (sym e)

pub begins : (words : List ℕ) → MarksAgree words (knower [] ∷ [])
begins words = (0, [], one)
  where
    one : (by : ℕ) (v : Known) → get_elem? (knower [] ∷ []) by ≡ some v → Fits 0 [] by v
    one zero v e = subst (Fits 0 [] 0) (some-injective _ _ e) ((λ _. (refl, refl)), begins_same [])
    one (suc by) v e = absurd (some-ne-none v (sym e))

pub learns : (by : ℕ) (all shown list : List PlainReport) → BeginsWith list all
    → Turns MarksAgree by (record { keeps = true; all = all; shown = shown }) (λ x. x) (λ v before after w. Learned list v w)
learns by all shown list grows words views h at =
    let mine = h.2 by (record { keeps = true; all = all; shown = shown }) at in
    let here = mine.0 refl in
    let more : BeginsWith list h.1 = subst (BeginsWith list) here.1 grows in
    let w = knower list in (
      w,
      (
        h.0,
        list,
        fits_set h.0 list views by w
            (λ j u apart e. ((λ k. absurd (apart (((h.2 j u e).0 k).0 ∙ sym here.0))), begins_trans list h.1 u.shown more (h.2 j u e).1))
            ((λ _. (here.0, refl)), (list, refl)),
      ),
      (refl, subst (λ l. BeginsWith l shown) (sym here.1) mine.1),
    )

pub gives : (by : ℕ) (all : List PlainReport) → Forks MarksAgree by (knower all) (knower all) (shown_all (knower all))
gives by all words views h at =
    let mine = (h.2 by (knower all) at).0 refl in (
      h.0,
      h.1,
      λ j u e. ⊎_elim
          (λ was. h.2 j u (subst (λ l. get_elem? l j ≡ some u) (set_again views by (knower all) at) was))
          (λ (same : shown_all (knower all) ≡ u). subst (Fits h.0 h.1 j) same ((λ k. absurd (off k)), subst (λ l. BeginsWith l all) mine.1 (begins_same all)))
          (at_snoc (set views by (knower all)) (shown_all (knower all)) u j e),
    )

pub takes_in : (by : ℕ) (all : List PlainReport) (other : ℕ) (u : Known) → Merges MarksAgree by (knower all) other u (with_shown (knower all) u) nobody
takes_in by all other u words views h at apart there =
    let w = with_shown (knower all) u in
    let mine = (h.2 by (knower all) at).0 refl in
    let theirs = ⊎_elim (λ (t : (other ≡ by) × (w ≡ u)). absurd (apart t.0)) (λ (t : (other ≢ by) × (get_elem? views other ≡ some u)). h.2 other u t.1) (at_set views by other w u there) in
    (h.0, h.1, fits_set h.0 h.1 (set views by w) other nobody (λ j v _ e. fits_set h.0 h.1 views by w (λ i y _ e'. h.2 i y e') ((λ _. mine), theirs.1) j v e) ((λ k. absurd (off k)), (h.1, refl)))

-- the moves, at a view that is known
pub learns_as : (by : ℕ) (v : Known) (all shown list : List PlainReport) → v ≡ record { keeps = true; all = all; shown = shown } → BeginsWith list all
    → Turns MarksAgree by v (λ x. x) (λ v before after w. Learned list v w)
learns_as by v all shown list is grows =
    subst (λ (u : Known). Turns MarksAgree by u (λ x. x) (λ v before after w. Learned list v w)) (sym is) (learns by all shown list grows)

pub gives_as : (by : ℕ) (v : Known) (all : List PlainReport) → v ≡ knower all → Forks MarksAgree by v v (shown_all v)
gives_as by v all is = subst (λ (u : Known). Forks MarksAgree by u u (shown_all u)) (sym is) (gives by all)

pub takes_in_as : (by : ℕ) (v : Known) (all : List PlainReport) (other : ℕ) (u : Known) → v ≡ knower all → Merges MarksAgree by v other u (with_shown v u) nobody
takes_in_as by v all other u is = subst (λ (x : Known). Merges MarksAgree by x other u (with_shown x u) nobody) (sym is) (takes_in by all other u)

-- a keeper who knows these knows what it knows
pub keeps_known : (board : TableId) (all : List PlainReport) (mark : PlainMark) → IsKeeper board all mark → IsKeeper board (known_of mark) mark
keeps_known board all mark k = (k.0, k.1 ∙ ap knower (sym (ap (λ (v : Known). v.all) k.1)))

pub knows : (board : TableId) (all list : List PlainReport) (mark : PlainMark) → IsKeeper board all mark → BeginsWith list all → BeginsWith list (known_of mark)
knows board all list mark k b = subst (BeginsWith list) (sym (ap (λ (v : Known). v.all) k.1)) b

-- one element more
pub begins_next : (list first : List PlainReport) (r : PlainReport) → BeginsWith list first → slice_get list (length first) ≡ Some r → BeginsWith list (first ++ r ∷ [])
begins_next [] [] r b e = absurd (cc)
begins_next (x ∷ xs) [] r b e = (xs, grind (arith))
begins_next [] (y ∷ ys) r b e = let is = b.1 in absurd (cc)
begins_next (x ∷ xs) (y ∷ ys) r (rest, is) e =
    let tails : xs ≡ ys ++ rest = grind (arith) in
    let heads : x ≡ y = grind (arith) in
    let h = begins_next xs ys r (rest, tails) e in
    (h.0, ap (λ l. x ∷ l) h.1 ∙ ap (λ z. z ∷ ((ys ++ r ∷ []) ++ h.0)) heads)
