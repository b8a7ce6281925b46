-- The scan looks at no light but those that a pending leaf waits for.
use Rattle.std.proofs.Common.{◌≡◌, Bool, ◌||◌, List, [], ◌∷◌, ◌++◌, map, cond, slice_index_or, refl, ap, sym, ◌∙◌}
use Rattle.std.specs.Prelude.{All}
use Rattle.std.specs.List.{filter, flat_map}
use Rattle.std.proofs.lemmas.List.Elements.{All-head, All-tail}
use Rattle.cml_value.specs.Value.{PlainBase, always}
use Rattle.cml_scan.specs.World.{PlainWorld, PlainEntry, pending}
use Rattle.cml_scan.specs.Light.{lit, light, light_of, is_always, is_told, lit_by}
use Rattle.cml_scan.specs.Scan.{PlainOffer, offers_of, single, pairs_with, rows_of, scan, scan_of}
use Rattle.cml_scan.specs.Table.{AgreeFor, TellsLights}
use Rattle.cml_scan.specs.declared.object.Light.{Light}

-- a base is lit where it is an alwaysEvt, or its light is lit
pub lit_by-light_of : (w : PlainWorld) (b : PlainBase) → lit_by (light_of w) b ≡ lit w b
lit_by-light_of w (always v) = refl
lit_by-light_of w _ = refl

lit_agree : (p q : PlainBase → Bool) (offers : List PlainOffer) → All (λ o. p o.base ≡ q o.base) offers → filter (λ o. p o.base) offers ≡ filter (λ o. q o.base) offers
lit_agree p q [] same = refl
lit_agree p q (o ∷ os) same =
    rw (All-head (λ (o : PlainOffer). p o.base ≡ q o.base) o os same) (ap (λ ys. cond (q o.base) (o ∷ ys) ys) (lit_agree p q os (All-tail (λ (o : PlainOffer). p o.base ≡ q o.base) o os same)))

-- the rows are the same where the same of these leaves are lit
pub rows_of-agree : (p q : PlainBase → Bool) (offers : List PlainOffer) → All (λ o. p o.base ≡ q o.base) offers → rows_of p offers ≡ rows_of q offers
rows_of-agree p q offers same = ap (λ ys. map single ys ++ flat_map (pairs_with offers) offers) (lit_agree p q offers same)

lit_by-agree : (told lit : Light → Bool) (b : PlainBase) → is_told told (light b) ≡ is_told lit (light b) → lit_by told b ≡ lit_by lit b
lit_by-agree told lit b same = ap (λ t. is_always b || t) same

-- the scan is the same where the same is told of each light that a pending leaf waits for
pub scan_of-agree : (entries : List PlainEntry) (told lit : Light → Bool) → AgreeFor entries told lit → scan_of entries told ≡ scan_of entries lit
scan_of-agree entries told lit same =
    rows_of-agree (lit_by told) (lit_by lit) (offers_of entries) (λ k d within. lit_by-agree told lit (slice_index_or (offers_of entries) k d).base (same k d within))

-- the scan of the pending threads and the lights of a world is the scan of the world
pub scan_of-light_of : (w : PlainWorld) → scan_of (pending w) (light_of w) ≡ scan w
scan_of-light_of w = rows_of-agree (lit_by (light_of w)) (lit w) (offers_of (pending w)) (λ k d within. lit_by-light_of w (slice_index_or (offers_of (pending w)) k d).base)

-- where what was told of the lights is what the world says, as far as a pending leaf waits for them, the scan of what was told is
-- the scan of the world
pub scan_of-told : (w : PlainWorld) (told : Light → Bool) → TellsLights w told → scan_of (pending w) told ≡ scan w
scan_of-told w told tells = scan_of-agree (pending w) told (light_of w) tells ∙ scan_of-light_of w

-- the scan depends on the pending groups and the lights that their leaves wait for alone
pub scan-depends : (v w : PlainWorld) → pending v ≡ pending w → AgreeFor (pending w) (light_of v) (light_of w) → scan v ≡ scan w
scan-depends v w same lights = sym (scan_of-light_of v) ∙ ap (λ es. scan_of es (light_of v)) same ∙ scan_of-agree (pending w) (light_of v) (light_of w) lights ∙ scan_of-light_of w
