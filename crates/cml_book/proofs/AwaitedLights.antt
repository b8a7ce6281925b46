-- The lights that the leaves of a group wait for, those that pass a test apart.
use Rattle.std.proofs.Common.{◌≡◌, ℕ, ◌≤◌, suc, Bool, true, false, cond, List, [], ◌∷◌, ◌++◌, append_assoc, length, map, drop, Option, Some, None, ap, sym, ◌∙◌, arith}
use Rattle.std.specs.Prelude.{slice_get}
use Rattle.std.specs.Option.{option_map}
use Rattle.std.specs.List.{filter, cons_option}
use Rattle.std.proofs.lemmas.List.Elements.{filter-append}
use Rattle.cml_value.specs.Value.{PlainBase}
use Rattle.cml_value.specs.Group.{PlainLeaf}
use Rattle.cml_scan.specs.Light.{light as light_seen}
use Rattle.cml_scan.specs.declared.object.Light.{Light}
use Rattle.cml_book.specs.Keeping.{lights_in}
use Rattle.cml_book.proofs.Retold.{leaf_at, lights_in-cons}

-- one more leaf's light was told apart
pub split_step : (p : Light → Bool) (ls : List PlainLeaf) (n : ℕ) (b : PlainBase) (found all : List Light) → option_map (λ l. l.base) (slice_get ls n) ≡ Some b
    → found ++ filter p (lights_in (drop n (map (λ l. l.base) ls))) ≡ all
    → (found ++ filter p (lights_in (b ∷ []))) ++ filter p (lights_in (drop (suc n) (map (λ l. l.base) ls))) ≡ all
split_step p ls n b found all h e =
    let rest = drop (suc n) (map (λ (l : PlainLeaf). l.base) ls) in
    let split : filter p (lights_in (drop n (map (λ l. l.base) ls))) ≡ filter p (lights_in (b ∷ [])) ++ filter p (lights_in rest) =
    ap (λ bs. filter p (lights_in bs)) (leaf_at ls n b h) ∙ ap (filter p) (lights_in-cons b rest) ∙ filter-append p (lights_in (b ∷ [])) (lights_in rest) in
    append_assoc found (filter p (lights_in (b ∷ []))) (filter p (lights_in rest)) ∙ ap (λ xs. found ++ xs) (sym split) ∙ e

-- a leaf has one light at most
pub split_few : (p : Light → Bool) (b : PlainBase) → length (filter p (lights_in (b ∷ []))) ≤ 1
split_few p b = at (light_seen b)
  where
    one : (s : Bool) (l : Light) → length (cond s (l ∷ []) []) ≤ 1
    one true l = omega arith
    one false l = omega arith

    at : (o : Option Light) → length (filter p (cons_option o [])) ≤ 1
    at None = omega arith
    at (Some l) = one (p l) l

-- what was told is what the empty list was told
pub split_all : (p : Light → Bool) (ls before pushed told : List Light) → before ≡ [] → pushed ≡ before ++ filter p ls → told ≡ pushed → told ≡ filter p ls
split_all p ls before pushed told none is same = same ∙ is ∙ ap (λ xs. xs ++ filter p ls) none
