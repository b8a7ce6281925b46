-- Names and their positions.
use Rattle.std.proofs.Common.{◌≡◌, ℕ, ◌<◌, Bool, true, false, cond, ltb, ◌≤◌, ◌||◌, List, [], ◌∷◌, ◌++◌, length, map, position, Some, None, refl, sym, ap, ◌∙◌, arith, Bor}
use Rattle.std.specs.List.{list_any, position_or_len, slice_get}
use Rattle.std.specs.Str.{bytes_eq}
use Rattle.std.specs.Cmp.Lexicographic.{nat_list_eq_equiv}
use Rattle.std.proofs.lemmas.List.Folds.{list_any-append, list_any-from_Any, list_any_none}
use Rattle.std.proofs.lemmas.Option.{get_or_from_slice_get, slice_get-map}
use Rattle.std.specs.Option.{option_map}
use Rattle.std.proofs.lemmas.Bool.{ltb-false}
use Rattle.std.proofs.lemmas.List.Sums.{fails_before_first}
use Rattle.std.proofs.lemmas.List.{get_or_default}
use mathlib.Core.Bool.{true≢false}
use Rattle.std.proofs.lemmas.List.Quantifiers.{position-Some}
use Rattle.std.proofs.lemmas.Slice.Eq.{bytes_eq-Decides}
use Rattle.indexmap.specs.IndexSet.{insert_key}
use Rattle.cml_check.specs.Syntax.{Name, name_at}
use Rattle.cml_check.specs.Names.{has_name, with_name, AreDistinct}

-- the names that a set keeps
abbrev pub kept : List (Bor (List ℕ)) → List Name
kept keys = map (λ name. name.now) keys

abbrev pub same_name : Bor (List ℕ) → Bor (List ℕ) → Bool
same_name a b = bytes_eq a.now b.now

pub length-kept : (keys : List (Bor (List ℕ))) → length (kept keys) ≡ length keys
length-kept [] = refl
length-kept (k ∷ keys) = cc (length-kept keys)

pub position_or_len-kept : (name : Name) (keys : List (Bor (List ℕ))) → position_or_len (λ k. bytes_eq name k.now) keys ≡ position_or_len (bytes_eq name) (kept keys)
position_or_len-kept name [] = refl
position_or_len-kept name (k ∷ keys) = cc (position_or_len-kept name keys)

pub position-kept : (name : Name) (keys : List (Bor (List ℕ))) → position (λ k. bytes_eq name k.now) keys ≡ position (bytes_eq name) (kept keys)
position-kept name keys = rw (length-kept keys, ← position_or_len-kept name keys) refl

pub among-kept : (name : Name) (keys : List (Bor (List ℕ))) → list_any (λ k. bytes_eq name k.now) keys ≡ has_name (kept keys) name
among-kept name [] = refl
among-kept name (k ∷ keys) = cc (among-kept name keys)

kept-append : (keys : List (Bor (List ℕ))) (k : Bor (List ℕ)) → kept (keys ++ k ∷ []) ≡ kept keys ++ k.now ∷ []
kept-append [] k = refl
kept-append (l ∷ keys) k = ap (λ names. l.now ∷ names) (kept-append keys k)

kept_if : (test : Bool) (keys : List (Bor (List ℕ))) (k : Bor (List ℕ)) → kept (cond test keys (keys ++ k ∷ [])) ≡ cond test (kept keys) (kept keys ++ k.now ∷ [])
kept_if true keys k = refl
kept_if false keys k = kept-append keys k

pub kept-insert_key : (keys : List (Bor (List ℕ))) (k : Bor (List ℕ)) → kept (insert_key same_name keys k) ≡ with_name (kept keys) k.now
kept-insert_key keys k = kept_if (list_any (same_name k) keys) keys k ∙ ap (λ test. cond test (kept keys) (kept keys ++ k.now ∷ [])) (among-kept k.now keys)

pub name_at-kept : (keys : List (Bor (List ℕ))) (i : ℕ) (k : Bor (List ℕ)) → slice_get keys i ≡ Some k → name_at (kept keys) i ≡ k.now
name_at-kept keys i k h =
    get_or_from_slice_get (kept keys) i k.now [] (slice_get-map (λ name. name.now) keys i ∙ ap (option_map (λ name. name.now)) h)

differs : (a b : Name) → bytes_eq a b ≡ false → bytes_eq b a ≡ false
differs a b h = nat_list_eq_equiv.symm b a ∙ h

or_first : (a b : Bool) → (a || b) ≡ false → a ≡ false
or_first true b h = h
or_first false b h = refl

or_second : (a b : Bool) → (a || b) ≡ false → b ≡ false
or_second true b h = absurd (true≢false h)
or_second false b h = h

neither : (a b : Bool) → a ≡ false → b ≡ false → (a || (b || false)) ≡ false
neither a b p q = rw (p, q) refl

distinct_push : (names : List Name) (name : Name) → has_name names name ≡ false → AreDistinct names → AreDistinct (names ++ name ∷ [])
distinct_push [] name h d = (refl, tt)
distinct_push (x ∷ xs) name h d =
    let first : bytes_eq name x ≡ false = or_first (bytes_eq name x) (has_name xs name) h in
    let rest : has_name xs name ≡ false = or_second (bytes_eq name x) (has_name xs name) h in
    (list_any-append (bytes_eq x) xs (name ∷ []) ∙ neither (has_name xs x) (bytes_eq x name) d.0 (differs name x first), distinct_push xs name rest d.1)

with_name_if : (names : List Name) (name : Name) (test : Bool) → has_name names name ≡ test → AreDistinct names → AreDistinct (cond test names (names ++ name ∷ []))
with_name_if names name true h d = d
with_name_if names name false h d = distinct_push names name h d

pub distinct-with_name : (names : List Name) (name : Name) → AreDistinct names → AreDistinct (with_name names name)
distinct-with_name names name d = with_name_if names name (has_name names name) refl d

among_at : (names : List Name) (name : Name) (i : ℕ) → i < length names → bytes_eq name (name_at names i) ≡ true → has_name names name ≡ true
among_at names name i lt h = list_any-from_Any (bytes_eq name) names (i, name_at names i, lt, get_or_default names i (name_at names i) [] lt, h)

no_position : (test : Bool) (n : ℕ) → cond test (Some n) None ≡ None → test ≡ false
no_position true n h = absurd cc
no_position false n h = refl

past_all : (names : List Name) (name : Name) → length names ≤ position_or_len (bytes_eq name) names → has_name names name ≡ false
past_all names name le = list_any_none (bytes_eq name) names (λ i d lt. fails_before_first (bytes_eq name) names i d (omega arith))

-- a name that has a position stands there, and one that has none is not among the names
pub positioned : (names : List Name) (name : Name) (i : ℕ) → position (bytes_eq name) names ≡ Some i → (i < length names) × (name_at names i ≡ name) × (has_name names name ≡ true)
positioned names name i h =
    let found = position-Some (bytes_eq name) names i [] h in
    (found.0, sym ((bytes_eq-Decides name (name_at names i)).0 found.1), among_at names name i found.0 found.1)

pub unpositioned : (names : List Name) (name : Name) → position (bytes_eq name) names ≡ None → has_name names name ≡ false
unpositioned names name h = past_all names name (ltb-false _ _ (no_position (ltb (position_or_len (bytes_eq name) names) (length names)) (position_or_len (bytes_eq name) names) h))
