use Rattle.std.proofs.Common.{◌≡◌, ◌∙◌, ◌==◌, ap, map, List, [], ◌∷◌, refl}
use Rattle.std.specs.Prelude.{Decides}
use Rattle.std.proofs.lemmas.Bool.Decides.{Decides-eqb}
use Rattle.cml_value.specs.declared.number.Tid.{Tid}

-- threads of the same numbers are the same
pub threads_same : (xs ys : List Tid) → map (λ t. t.0) xs ≡ map (λ t. t.0) ys → xs ≡ ys
threads_same [] [] p = refl
threads_same (x ∷ xs) (y ∷ ys) p =
    let e : x.0 ≡ y.0 = cc in
    let r = threads_same xs ys (cc) in
    ap (λ n. record { 0 = n } ∷ xs) e ∙ ap (λ zs. y ∷ zs) r
threads_same _ _ p = cc

-- threads are told apart by their numbers
pub thread_decides : (a b : Tid) → Decides (a.0 == b.0) (a ≡ b)
thread_decides a b =
    let d = Decides-eqb a.0 b.0 in
    (λ e. ap (λ n. record { 0 = n }) (d.0 e), λ p. d.1 (ap (λ (t : Tid). t.0) p))
