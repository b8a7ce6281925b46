-- Lists of values that may be missing, looked at from the left.
use Rattle.std.proofs.Common.{◌≡◌, ℕ, suc, ◌+◌, ◌<◌, ◌++◌, List, [], ◌∷◌, map, drop, length, get_or, Option, Some, None, refl, ap, sym, ◌∙◌, append_assoc, add-one}
use Rattle.std.proofs.Math.Seq.{drop-cons}
use Rattle.cml_trace.specs.Given.{both, all_of}

-- these values, and then those, if they are all there
abbrev pub onto : {A : Type 0} → List A → Option (List A) → Option (List A)
onto xs None = None
onto xs (Some ys) = Some (xs ++ ys)

pub onto-nil : {A : Type 0} (o : Option (List A)) → onto [] o ≡ o
onto-nil None = refl
onto-nil (Some ys) = refl

onto-there-of : {A : Type 0} (xs : List A) (x : A) (o : Option (List A)) → onto xs (both (λ y ys. y ∷ ys) (Some x) o) ≡ onto (xs ++ x ∷ []) o
onto-there-of xs x None = refl
onto-there-of xs x (Some ys) = ap (λ zs. Some zs) (sym (append_assoc xs (x ∷ []) ys))

pub onto-there : {A : Type 0} (xs : List A) (x : A) (os : List (Option A)) → onto xs (all_of (Some x ∷ os)) ≡ onto (xs ++ x ∷ []) (all_of os)
onto-there xs x os = onto-there-of xs x (all_of os)

-- one more was found
pub onto-next : {X A : Type 0} (f : X → Option A) (forms : List X) (i : ℕ) (form : X) (xs : List A) (x : A) (all : Option (List A)) →
    i < length forms → form ≡ get_or forms i form → f form ≡ Some x → onto xs (all_of (map f (drop i forms))) ≡ all →
    onto (xs ++ x ∷ []) (all_of (map f (drop (i + 1) forms))) ≡ all
onto-next f forms i form xs x all lt is found inv =
    let tail : drop i forms ≡ form ∷ drop (i + 1) forms =
    rw (add-one) (drop-cons forms i form lt ∙ ap (λ y. y ∷ drop (suc i) forms) (sym is)) in
    sym (onto-there xs x (map f (drop (i + 1) forms)))
    ∙ ap (λ o. onto xs (all_of (o ∷ map f (drop (i + 1) forms)))) (sym found)
    ∙ ap (λ ys. onto xs (all_of (map f ys))) (sym tail)
    ∙ inv
