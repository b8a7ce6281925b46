-- The entries and the lights of a table after a change.
use Rattle.std.proofs.Common.{◌≡◌, Bool, true, false, not, ◌&&◌, ◌||◌, nat_lt, cond, if◌then◌else◌, List, [], ◌∷◌, ◌++◌, refl, ap, sym, append_assoc}
use Rattle.std.specs.List.{filter}
use Rattle.std.proofs.lemmas.List.Folds.{list_any-append}
use Rattle.std.proofs.lemmas.Map.Views.{any-filter_same}
use Rattle.cml_value.specs.Group.{PlainGroup}
use Rattle.cml_value.specs.declared.number.Tid.{Tid}
use Rattle.cml_scan.specs.World.{PlainEntry}
use Rattle.cml_scan.specs.Scan.{is_among}
use Rattle.cml_scan.specs.Table.{without, with_entry, same_light, has_light, lit_after}
use Rattle.cml_scan.specs.declared.object.Light.{Light}
use Rattle.cml_library_tests.specs.declared.kept.Side.TheVariants.{Below, Above}
use Rattle.cml_scan.proofs.Telling.{same_light_is}
use Rattle.cml_library_tests.specs.Kept.{kept_entries, is_untold}

filter_twice_at : {X : Type 0} (p q : X → Bool) (x : X) (xs : List X) (a b : Bool) → p x ≡ a → q x ≡ b → filter q (filter p xs) ≡ filter (λ y. p y && q y) xs
    → filter q (cond a (x ∷ filter p xs) (filter p xs)) ≡ cond (a && b) (x ∷ filter (λ y. p y && q y) xs) (filter (λ y. p y && q y) xs)
filter_twice_at p q x xs true true e f h = rw f (ap (λ ys. x ∷ ys) h)
filter_twice_at p q x xs true false e f h = rw f h
filter_twice_at p q x xs false true e f h = h
filter_twice_at p q x xs false false e f h = h

-- two filters, one after the other, are one
pub filter_twice : {X : Type 0} (p q : X → Bool) (xs : List X) → filter q (filter p xs) ≡ filter (λ x. p x && q x) xs
filter_twice p q [] = refl
filter_twice p q (x ∷ xs) = filter_twice_at p q x xs (p x) (q x) refl refl (filter_twice p q xs)

-- the entries below the one that came, itself, and those above are the entries after the change
pub came_added : (gone : List Tid) (entries : List PlainEntry) (tid : Tid) (group copy : PlainGroup) (n0 n1 n2 n3 : List PlainEntry)
    → n0 ≡ [] → n1 ≡ n0 ++ kept_entries gone (Below tid) entries → copy ≡ group
    → n2 ≡ n1 ++ record { thread = tid.0; group = copy } ∷ [] → n3 ≡ n2 ++ kept_entries gone (Above tid) entries
    → n3 ≡ with_entry (record { thread = tid.0; group = group }) (without gone entries)
came_added gone entries tid group copy n0 n1 n2 n3 e0 e1 ec e2 e3 =
    let below : filter (λ x. nat_lt x.thread tid.0) (without gone entries)
    ≡ kept_entries gone (Below tid) entries = filter_twice (λ x. not (is_among gone x.thread))
    (λ x. nat_lt x.thread tid.0) entries in
    let above : filter (λ x. nat_lt tid.0 x.thread) (without gone entries)
    ≡ kept_entries gone (Above tid) entries = filter_twice (λ x. not (is_among gone x.thread))
    (λ x. nat_lt tid.0 x.thread) entries in
    rw (e3, e2, e1, e0, ec, below, above) (append_assoc (kept_entries gone (Below tid) entries) (record { thread = tid.0; group = group } ∷ []) (kept_entries gone (Above tid) entries))

told_first : (lit unlit old : Bool) → (((not lit && not unlit) && old) || lit) ≡ (if lit then true else (if unlit then false else old))
told_first true true true = refl
told_first true true false = refl
told_first true false true = refl
told_first true false false = refl
told_first false true true = refl
told_first false true false = refl
told_first false false true = refl
told_first false false false = refl

-- a light is among those that were lit before and of which nothing was told, or among those that were lit, as a change says
pub has_light-after : (lit unlit old new : List Light) (l : Light) → new ≡ filter (is_untold lit unlit) old ++ lit → has_light new l ≡ lit_after lit unlit l (has_light old l)
has_light-after lit unlit old new l e =
    let same : (k : Light) → same_light l k ≡ true → is_untold lit unlit k ≡ is_untold lit unlit l = λ k h. ap (is_untold lit unlit) (sym (same_light_is l k h)) in
    rw (e, list_any-append (same_light l) (filter (is_untold lit unlit) old) lit, any-filter_same (same_light l) (is_untold lit unlit) (is_untold lit unlit l) same old)
    (told_first (has_light lit l) (has_light unlit l) (has_light old l))
