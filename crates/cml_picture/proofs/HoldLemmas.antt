-- One item more that may hold something.
use Rattle.std.proofs.Common.{◌≡◌, ℕ, zero, suc, ◌+◌, ◌<◌, ◌≤◌, List, [], ◌∷◌, ◌++◌, Option, length, drop, refl, sym, ap, ◌∙◌, arith, add-one, append_assoc}
use Rattle.std.specs.Option.{option_to_list}
use Rattle.std.proofs.lemmas.List.{drop_all}
use Rattle.cml_facts.specs.declared.narrative.deed.Happened.{Happened}
use Rattle.cml_picture.specs.declared.sheet.hold.Held.{Held}
use Rattle.cml_picture.specs.Holds.{held_first, all_held}

held_next : (xs : List Happened) (i : ℕ) → i < length xs → all_held (drop i xs) ≡ option_to_list (held_first (drop i xs)) ++ all_held (drop (suc i) xs)
held_next [] i lt = absurd (omega (arith, lt))
held_next (x ∷ xs) zero lt = refl
held_next (x ∷ xs) (suc i) lt = held_next xs i (omega (arith, lt))

-- what is held so far, and by this item, is what is held with it
pub held_more : (shown : List Happened) (i : ℕ) (so_far new : List Held) (h : Option Held) → i < length shown → so_far ++ all_held (drop i shown) ≡ all_held shown →
    h ≡ held_first (drop i shown) → new ≡ so_far ++ option_to_list h → new ++ all_held (drop (i + 1) shown) ≡ all_held shown
held_more shown i so_far new h lt all is grown =
    rw add-one (ap (λ xs. xs ++ all_held (drop (suc i) shown)) (grown ∙ ap (λ x. so_far ++ option_to_list x) is)
    ∙ append_assoc so_far (option_to_list (held_first (drop i shown))) (all_held (drop (suc i) shown))
    ∙ ap (λ xs. so_far ++ xs) (sym (held_next shown i lt)) ∙ all)

pub held_end : (xs : List Happened) (i : ℕ) → length xs ≤ i → all_held (drop i xs) ≡ []
held_end xs i le = ap all_held (drop_all i xs le)
