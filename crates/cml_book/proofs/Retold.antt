-- What a table knows of the lights after it was told of some, each as it is.
use Rattle.std.proofs.Common.{◌≡◌, ℕ, ◌<◌, Bool, true, false, not, ◌&&◌, ◌||◌, nat_eq, cond, List, [], ◌∷◌, ◌++◌}
use Rattle.std.proofs.Common.{length, map, refl, ap, sym, ◌∙◌, arith, zero, suc, Option, Some, None, slice_index_or}
use Rattle.std.proofs.Common.{drop}
use Rattle.std.specs.Prelude.{slice_get}
use Rattle.std.specs.Option.{option_map}
use Rattle.std.specs.List.{filter, list_any, cons_option}
use Rattle.std.proofs.lemmas.Bool.Decides.{nat_tests}
use Rattle.std.proofs.lemmas.List.Folds.{list_any-append}
use Rattle.cml_value.specs.Value.{PlainBase}
use Rattle.cml_value.specs.Group.{PlainGroup, PlainLeaf, bases}
use Rattle.cml_value.specs.declared.number.NackId.{NackId}
use Rattle.cml_scan.specs.Light.{light, is_told}
use Rattle.cml_scan.specs.Table.{same_light, has_light, lit_after}
use Rattle.cml_scan.specs.declared.object.Light.{Light}
use Rattle.cml_scan.specs.declared.object.Light.TheVariants as of
use Rattle.cml_book.specs.Keeping.{nack_light, lights_in}
use Rattle.cml_scan.proofs.Telling.{same_light_is, same_light_self, AgreeForGroup}

and_false : (b : Bool) → b && false ≡ false
and_false true = refl
and_false false = refl

or_true : (b : Bool) → b || true ≡ true
or_true true = refl
or_true false = refl

-- those of some lights that pass a test, as far as one of them goes
has_light-filter : (p : Light → Bool) (ls : List Light) (l : Light) → has_light (filter p ls) l ≡ has_light ls l && p l
has_light-filter p [] l = refl
has_light-filter p (m ∷ ls) l = at (same_light l m) (p m) refl refl (has_light-filter p ls l)
  where
    at : (s t : Bool) → same_light l m ≡ s → p m ≡ t → has_light (filter p ls) l ≡ has_light ls l && p l
        → has_light (cond t (m ∷ filter p ls) (filter p ls)) l ≡ (s || has_light ls l) && p l
    at true true e f ih = let same : l ≡ m = same_light_is l m e in let on : p l ≡ true = ap p same ∙ f in rw (e, on) refl
    at true false e f ih = let same : l ≡ m = same_light_is l m e in let off : p l ≡ false = ap p same ∙ f in ih ∙ ap (λ b. has_light ls l && b) off ∙ and_false (has_light ls l) ∙ sym off
    at false true e f ih = rw e ih
    at false false e f ih = ih

-- what is told truly of some lights does not change what was true
pub retold : (p : Light → Bool) (ls : List Light) (l : Light) (was : Bool) → was ≡ p l → lit_after (filter p ls) (filter (λ x. not (p x)) ls) l was ≡ p l
retold p ls l was e = rw (has_light-filter p ls l, has_light-filter (λ x. not (p x)) ls l) (at (has_light ls l) (p l) was e)
  where
    at : (h b was : Bool) → was ≡ b → cond (h && b) true (cond (h && not b) false was) ≡ b
    at true true was e = refl
    at true false was e = refl
    at false true was e = e
    at false false was e = e

-- and it makes true what was not
pub newly_told : (p : Light → Bool) (ls : List Light) (l : Light) (was : Bool) → has_light ls l ≡ true → lit_after (filter p ls) (filter (λ x. not (p x)) ls) l was ≡ p l
newly_told p ls l was e = rw (has_light-filter p ls l, has_light-filter (λ x. not (p x)) ls l, e) (at (p l) was)
  where
    at : (b was : Bool) → cond b true (cond (not b) false was) ≡ b
    at true was = refl
    at false was = refl

-- the light of a base is among those of its list
has_light_of : (bs : List PlainBase) (k : ℕ) (d : PlainBase) (l : Light) → k < length bs → light (slice_index_or bs k d) ≡ Some l → has_light (lights_in bs) l ≡ true
has_light_of [] k d l h e = absurd (omega arith)
has_light_of (x ∷ bs) zero d l h e = rw e (rw (same_light_self l) refl)
has_light_of (x ∷ bs) (suc k) d l h e = at (light x) (has_light_of bs k d l (omega arith) e)
  where
    at : (o : Option Light) → has_light (lights_in bs) l ≡ true → has_light (cons_option o (lights_in bs)) l ≡ true
    at None ih = ih
    at (Some m) ih = rw ih (or_true (same_light l m))

-- the lights of a group that comes are told as they are
pub group_told : (p : Light → Bool) (told : Light → Bool) (g : PlainGroup)
    → AgreeForGroup g (λ l. lit_after (filter p (lights_in (bases g))) (filter (λ x. not (p x)) (lights_in (bases g))) l
    (told l)) p
group_told p told g = λ k d h. at (light (slice_index_or (bases g) k d)) (λ l e. has_light_of (bases g) k d l h e)
  where
    at : (o : Option Light) → ((l : Light) → o ≡ Some l → has_light (lights_in (bases g)) l ≡ true)
        → is_told (λ l. lit_after (filter p (lights_in (bases g))) (filter (λ x. not (p x)) (lights_in (bases g))) l
        (told l)) o ≡ is_told p o
    at None h = refl
    at (Some l) h = newly_told p (lights_in (bases g)) l (told l) (h l refl)

-- more lights that are lit
pub lit_more : (a b : List Light) (l : Light) (was : Bool) → lit_after (a ++ b) [] l was ≡ lit_after b [] l (lit_after a [] l was)
lit_more a b l was = rw (list_any-append (same_light l) a b) (at (has_light a l) (has_light b l))
  where
    at : (x y : Bool) → cond (x || y) true was ≡ cond y true (cond x true was)
    at true true = refl
    at true false = refl
    at false true = refl
    at false false = refl

-- a nack among those that are lit
pub has_nack_light : (ks : List ℕ) (n : NackId) → has_light (map nack_light ks) (of.Nack n) ≡ list_any (λ j. nat_eq j n.0) ks
has_nack_light [] n = refl
has_nack_light (k ∷ ks) n = rw (has_nack_light ks n, symmetric n.0 k) refl
  where
    symmetric : (a b : ℕ) → nat_eq a b ≡ nat_eq b a
    symmetric a b = grind (arith, nat_tests)

-- no other light is among them
pub no_nack_light : (ks : List ℕ) (l : Light) → ((k : ℕ) → same_light l (nack_light k) ≡ false) → has_light (map nack_light ks) l ≡ false
no_nack_light [] l h = refl
no_nack_light (k ∷ ks) l h = rw (h k) (no_nack_light ks l h)

-- the base at a place, of a list of leaves
pub leaf_at : (ls : List PlainLeaf) (n : ℕ) (b : PlainBase) → option_map (λ l. l.base) (slice_get ls n) ≡ Some b → drop n (map (λ l. l.base) ls) ≡ b ∷ drop (suc n) (map (λ l. l.base) ls)
leaf_at [] n b h = cc
leaf_at (l ∷ ls) zero b h = let same : l.base ≡ b = cc in rw same refl
leaf_at (l ∷ ls) (suc n) b h = leaf_at ls n b h

pub lights_in-cons : (b : PlainBase) (bs : List PlainBase) → lights_in (b ∷ bs) ≡ lights_in (b ∷ []) ++ lights_in bs
lights_in-cons b bs = at (light b)
  where
    at : (o : Option Light) → cons_option o (lights_in bs) ≡ cons_option o [] ++ lights_in bs
    at None = refl
    at (Some l) = refl
