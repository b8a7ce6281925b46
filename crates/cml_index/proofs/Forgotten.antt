-- What was told of a light that is not lit is forgotten, and an empty lane with it.
use Rattle.std.proofs.Common.{◌≡◌, Bool, true, false, not, ◌||◌, cond, List, [], ◌∷◌, refl, ap, sym, ◌∙◌}
use Rattle.std.specs.List.{All}
use Rattle.std.proofs.lemmas.List.Elements.{All-head, All-tail}
use Rattle.cml_scan.specs.declared.object.Light.{Light}
use Rattle.cml_scan.specs.Order.{Every}
use Rattle.cml_scan.specs.Table.{same_light, has_light, lit_after}
use Rattle.cml_scan.proofs.Telling.{same_light_is, same_light_self}
use Rattle.cml_scan.proofs.Ordered.{Every-weaker}

or_true : (a b : Bool) → b ≡ true → a || b ≡ true
or_true true b e = refl
or_true false b e = e

each_has : (xs : List Light) → Every (has_light xs) xs
each_has [] = tt
each_has (x ∷ xs) = (ap (λ b. b || has_light xs x) (same_light_self x), Every-weaker (has_light xs) (has_light (x ∷ xs)) xs (λ l on. or_true (same_light l x) (has_light xs l) on) (each_has xs))

not_lit : (lit unlit : List Light) → Every (λ m. not (has_light unlit m)) lit → (l : Light) → has_light unlit l ≡ true → has_light lit l ≡ false
not_lit [] unlit apart l on = refl
not_lit (m ∷ ms) unlit apart l on = at (same_light l m) refl (not_lit ms unlit apart.1 l on)
  where
    at : (b : Bool) → same_light l m ≡ b → has_light ms l ≡ false → b || has_light ms l ≡ false
    at true e rest = let bad : false ≡ true = sym (ap not (sym (ap (has_light unlit) (same_light_is l m e)) ∙ on)) ∙ apart.0 in cc
    at false e rest = rest

every_apart : (lit unlit : List Light) → All (λ m. has_light unlit m ≡ false) lit → Every (λ m. not (has_light unlit m)) lit
every_apart [] unlit apart = tt
every_apart (m ∷ ms) unlit apart = (ap not (All-head (λ x. has_light unlit x ≡ false) m ms apart), every_apart ms unlit (All-tail (λ x. has_light unlit x ≡ false) m ms apart))

-- lights that were told to be unlit, and not to be lit, are not lit
pub all_out : (lit unlit : List Light) (old new : Light → Bool) → All (λ m. has_light unlit m ≡ false) lit → ((l : Light) → new l ≡ lit_after lit unlit l (old l)) → Every (λ l. not (new l)) unlit
all_out lit unlit old new apart agree = Every-weaker (has_light unlit) (λ l. not (new l)) unlit (λ l on.
    ap not (agree l ∙ ap (λ b. cond b true (cond (has_light unlit l) false (old l))) (not_lit lit unlit (every_apart lit unlit apart) l on) ∙ ap (λ b. cond b false (old l)) on)) (each_has unlit)
