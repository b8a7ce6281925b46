-- What a change of the world does to the lights that a table was told.
use Rattle.std.proofs.Common.{◌≡◌, ℕ, Bool, false, List, [], ◌∷◌, ◌++◌, refl, sym, ◌∙◌, zero, suc, Option, Some, None}
use Rattle.std.specs.Prelude.{slice_set, slice_get}
use Rattle.std.proofs.lemmas.List.Elements.{All-weaker}
use Rattle.cml_scan.specs.World.{PlainThread, running, PlainNack, fresh_of, PlainWorld, PlainEntry}
use Rattle.cml_scan.specs.Light.{has_ended, has_fired, light_of, light, is_told}
use Rattle.cml_scan.specs.Scan.{PlainOffer, offers_of}
use Rattle.cml_scan.specs.Table.{AgreeFor}
use Rattle.cml_scan.specs.declared.object.Light.{Light}
use Rattle.cml_scan.specs.declared.object.Light.TheVariants as of

-- if the lights are as they were, what was told of them still stands
pub agree_still : (es : List PlainEntry) (told told' lit lit' : Light → Bool) → ((l : Light) → told l ≡ lit l → told' l ≡ lit' l) → AgreeFor es told lit → AgreeFor es told' lit'
agree_still es told told' lit lit' h agree = All-weaker
    (λ (o : PlainOffer). is_told told (light o.base) ≡ is_told lit (light o.base))
    (λ o. is_told told' (light o.base) ≡ is_told lit' (light o.base)) (λ o e. at (light o.base) e) (offers_of es) agree
  where
    at : (l : Option Light) → is_told told l ≡ is_told lit l → is_told told' l ≡ is_told lit' l
    at None e = refl
    at (Some l) e = h l e

-- a new running thread has not ended
pub has_ended-push : (ts : List PlainThread) (i : ℕ) → has_ended (slice_get (ts ++ running ∷ []) i) ≡ has_ended (slice_get ts i)
has_ended-push [] zero = refl
has_ended-push [] (suc i) = refl
has_ended-push (t ∷ ts) zero = refl
has_ended-push (t ∷ ts) (suc i) = has_ended-push ts i

-- a thread that has not ended waits or runs
pub has_ended-set : (ts : List PlainThread) (i j : ℕ) (t : PlainThread) → has_ended (slice_get ts i) ≡ false → has_ended (Some t) ≡ false
    → has_ended (slice_get (slice_set ts i t) j) ≡ has_ended (slice_get ts j)
has_ended-set [] i j t p q = refl
has_ended-set (x ∷ ts) zero zero t p q = q ∙ sym p
has_ended-set (x ∷ ts) zero (suc j) t p q = refl
has_ended-set (x ∷ ts) (suc i) zero t p q = refl
has_ended-set (x ∷ ts) (suc i) (suc j) t p q = has_ended-set ts i j t p q

-- a new nack has not fired
pub has_fired-push : (ns : List PlainNack) (i t : ℕ) → has_fired (slice_get (ns ++ fresh_of t ∷ []) i) ≡ has_fired (slice_get ns i)
has_fired-push [] zero t = refl
has_fired-push [] (suc i) t = refl
has_fired-push (n ∷ ns) zero t = refl
has_fired-push (n ∷ ns) (suc i) t = has_fired-push ns i t

-- the lights of a world whose threads have ended as before and whose nacks have fired as before
pub light_of-same : (w : PlainWorld) (ts : List PlainThread) (ns : List PlainNack) → ((i : ℕ) → has_ended (slice_get ts i) ≡ has_ended (slice_get w.threads i))
    → ((i : ℕ) → has_fired (slice_get ns i) ≡ has_fired (slice_get w.nacks i)) → (l : Light) → light_of (record w { threads = ts; nacks = ns }) l ≡ light_of w l
light_of-same w ts ns p q (of.Joined t) = p t.0
light_of-same w ts ns p q (of.Nack k) = q k.0
light_of-same w ts ns p q _ = refl
