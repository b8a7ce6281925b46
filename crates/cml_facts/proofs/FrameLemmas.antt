-- The calls of a stack, as a walk from the top finds them.
use Rattle.std.proofs.Common.{◌≡◌, ℕ, zero, suc, ◌+◌, ◌<◌, List, [], ◌∷◌, ◌++◌, length, get_or, subst, ◌⊎◌, inl, inr, Some, None, refl, sym, ap, ◌∙◌, arith, append_assoc, append-nil}
use Rattle.std.specs.Prelude.{slice_get}
use Rattle.std.specs.List.{filter_map, cons_option}
use Rattle.std.proofs.lemmas.List.{length_push, reverse-append}
use Rattle.std.proofs.lemmas.Option.{slice_get_read}
use Rattle.cml_check.specs.Syntax.{PlainItem}
use Rattle.cml_step.specs.Machines.{PlainHeld}
use Rattle.cml_facts.specs.Standings.{as_call}
use Rattle.cml_facts.specs.declared.fault.frame.Frame.{Frame}
use Rattle.cml_phrase.specs.declared.place.Place.{Place}
use Rattle.cml_facts.specs.Frames.{calls_down, IsFrame}

-- the last entry is looked at first
calls_down-push : (new : List PlainHeld) (h : PlainHeld) → calls_down (new ++ h ∷ []) ≡ cons_option (as_call h) (calls_down new)
calls_down-push new h = ap (filter_map as_call) (reverse-append new (h ∷ []))

pub is_call : (old new : List PlainHeld) (h c : PlainHeld) (cs all : List PlainHeld) → old ≡ new ++ h ∷ [] → cs ++ calls_down old ≡ all → as_call h ≡ Some c → (cs ++ c ∷ []) ++ calls_down new ≡ all
is_call old new h c cs all split so_far is =
    append_assoc cs (c ∷ []) (calls_down new)
    ∙ (ap (λ x. cs ++ cons_option x (calls_down new)) (sym is)
    ∙ (ap (λ x. cs ++ x) (sym (calls_down-push new h)) ∙ (ap (λ x. cs ++ calls_down x) (sym split) ∙ so_far)))

pub no_call : (old new : List PlainHeld) (h : PlainHeld) (cs all : List PlainHeld) → old ≡ new ++ h ∷ [] → cs ++ calls_down old ≡ all → as_call h ≡ None → cs ++ calls_down new ≡ all
no_call old new h cs all split so_far is =
    ap (λ x. cs ++ cons_option x (calls_down new)) (sym is)
    ∙ (ap (λ x. cs ++ x) (sym (calls_down-push new h)) ∙ (ap (λ x. cs ++ calls_down x) (sym split) ∙ so_far))

pub through : (old : List PlainHeld) (cs all : List PlainHeld) → old ≡ [] → cs ++ calls_down old ≡ all → cs ≡ all
through old cs all none so_far = sym (append-nil cs) ∙ (ap (λ x. cs ++ calls_down x) (sym none) ∙ so_far)

pub falls : (old new : List PlainHeld) (h : PlainHeld) → old ≡ new ++ h ∷ [] → length new < length old
falls old new h split = omega (arith, ap length split, length_push new h)

below_or_at-more : (j i : ℕ) → (j < i) ⊎ (j ≡ i) → (suc j < suc i) ⊎ (suc j ≡ suc i)
below_or_at-more j i (inl h) = inl (omega (arith, h))
below_or_at-more j i (inr e) = inr (ap suc e)

below_or_at : (j i : ℕ) → j < i + 1 → (j < i) ⊎ (j ≡ i)
below_or_at zero zero h = inr refl
below_or_at zero (suc i) h = inl (omega arith)
below_or_at (suc j) zero h = absurd (omega (arith, h))
below_or_at (suc j) (suc i) h = below_or_at-more j i (below_or_at j i (omega (arith, h)))

got_below : (frames : List Frame) (f : Frame) (j : ℕ) → j < length frames → slice_get frames j ≡ slice_get (frames ++ f ∷ []) j
got_below [] f j h = absurd (omega (arith, h))
got_below (g ∷ frames) f zero h = refl
got_below (g ∷ frames) f (suc j) h = got_below frames f j (omega (arith, h))

got_last : (frames : List Frame) (f : Frame) → Some f ≡ slice_get (frames ++ f ∷ []) (length frames)
got_last [] f = refl
got_last (g ∷ frames) f = got_last frames f

-- the frame of one call more
each_by : (places : List (List Place)) (p : List (PlainItem ℕ)) (calls : List PlainHeld) (frames : List Frame) (i j : ℕ) (f : Frame) → length frames ≡ i
    → ((n : ℕ) → n < i → IsFrame places p (slice_get calls n) (slice_get frames n)) →
    IsFrame places p (slice_get calls i) (Some f) → (j < i) ⊎ (j ≡ i) → IsFrame places p (slice_get calls j) (slice_get (frames ++ f ∷ []) j)
each_by places p calls frames i j f count each is (inl h) = subst (IsFrame places p (slice_get calls j)) (got_below frames f j (omega (arith, h, count))) (each j h)
each_by places p calls frames i j f count each is (inr e) =
    let here : IsFrame places p (slice_get calls j) (Some f) = subst (λ n. IsFrame places p (slice_get calls n) (Some f)) (sym e) is in
    let at : Some f ≡ slice_get (frames ++ f ∷ []) j = got_last frames f ∙ ap (slice_get (frames ++ f ∷ [])) (count ∙ sym e) in
    subst (IsFrame places p (slice_get calls j)) at here

pub each_more : (places : List (List Place)) (p : List (PlainItem ℕ)) (calls : List PlainHeld) (frames : List Frame) (i : ℕ) (f : Frame) (h : PlainHeld) → i < length calls
    → h ≡ get_or calls i h → length frames ≡ i →
    ((n : ℕ) → n < i → IsFrame places p (slice_get calls n) (slice_get frames n)) → IsFrame places p (Some h) (Some f) →
    (j : ℕ) → j < i + 1 → IsFrame places p (slice_get calls j) (slice_get (frames ++ f ∷ []) j)
each_more places p calls frames i f h within at count each is j below =
    let there : Some h ≡ slice_get calls i = sym (slice_get_read calls (length calls) i h refl within at) in
    each_by places p calls frames i j f count each (subst (λ x. IsFrame places p x (Some f)) there is) (below_or_at j i below)
