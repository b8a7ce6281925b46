-- Groups of which no leaf waits for a tick, or of which no leaf looks at a light.
use Rattle.std.proofs.Common.{◌≡◌, ℕ, true, false, cond, List, [], ◌∷◌, refl, ap, ◌∙◌, Option, Some, None}
use Rattle.std.specs.Prelude.{is_none}
use Rattle.std.specs.List.{list_all, filter, cons_option}
use Rattle.std.proofs.lemmas.Bool.{and_parts, and_from}
use Rattle.cml_value.specs.Value.{PlainBase, at_tick}
use Rattle.cml_scan.specs.Light.{light as light_seen}
use Rattle.cml_scan.specs.declared.object.Light.{Light}
use Rattle.cml_book.specs.Keeping.{lights_in, awaits_tick, times_awaited, has_no_tick, has_no_light}
use Rattle.cml_book.specs.Leaving.{is_left}
use Rattle.cml_book.proofs.Awaited.{awaited-no}

awaits_none : (t : ℕ) (b : PlainBase) → has_no_tick b ≡ true → awaits_tick t b ≡ false
awaits_none t (at_tick u) h = cc
awaits_none t _ h = refl

-- no tick is waited for
pub none_awaited : (t : ℕ) (bs : List PlainBase) → list_all has_no_tick bs ≡ true → times_awaited t bs ≡ 0
none_awaited t [] h = refl
none_awaited t (b ∷ bs) h =
    let both = and_parts (has_no_tick b) (list_all has_no_tick bs) h in
    awaited-no t b bs (awaits_none t b both.0) ∙ none_awaited t bs both.1

leaves_none : (all xs ys : List PlainBase) (b : PlainBase) → has_no_tick b ≡ true → is_left all xs ys b ≡ false
leaves_none all xs ys (at_tick u) h = cc
leaves_none all xs ys _ h = refl

-- no leaf is the last that waits for its tick
pub none_left : (all xs ys bs : List PlainBase) → list_all has_no_tick bs ≡ true → filter (is_left all xs ys) bs ≡ []
none_left all xs ys [] h = refl
none_left all xs ys (b ∷ bs) h =
    let both = and_parts (has_no_tick b) (list_all has_no_tick bs) h in
    ap (λ s. cond s (b ∷ filter (is_left all xs ys) bs) (filter (is_left all xs ys) bs)) (leaves_none all xs ys b both.0)
    ∙ none_left all xs ys bs both.1

dark_waits : (b : PlainBase) → has_no_light b ≡ true → has_no_tick b ≡ true
dark_waits (at_tick u) h = cc
dark_waits _ h = refl

-- who looks at no light waits for no tick
pub dark_tickless : (bs : List PlainBase) → list_all has_no_light bs ≡ true → list_all has_no_tick bs ≡ true
dark_tickless [] h = refl
dark_tickless (b ∷ bs) h =
    let both = and_parts (has_no_light b) (list_all has_no_light bs) h in
    and_from (has_no_tick b) (list_all has_no_tick bs) (dark_waits b both.0) (dark_tickless bs both.1)

-- there is no light
pub none_lit : (bs : List PlainBase) → list_all has_no_light bs ≡ true → lights_in bs ≡ []
none_lit [] h = refl
none_lit (b ∷ bs) h =
    let both = and_parts (has_no_light b) (list_all has_no_light bs) h in
    at (light_seen b) both.0 ∙ none_lit bs both.1
  where
    at : (o : Option Light) → is_none o ≡ true → cons_option o (lights_in bs) ≡ lights_in bs
    at None e = refl
    at (Some l) e = cc
