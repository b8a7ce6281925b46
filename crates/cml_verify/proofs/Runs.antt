-- Schedules, one item on.
use Rattle.std.proofs.Common.{◌≡◌, List, [], ◌∷◌, ◌++◌, Option, None, Some, true, false, refl, ap, subst, ◌∙◌}
use Rattle.std.specs.Prelude.{option_and_then, IsSome, IfSome}
use Rattle.std.proofs.lemmas.Option.{option_and_then_some, same_Some}
use Rattle.cml_verify.specs.Systems.{System, run, IsReached}

-- what a `Some` holds
pub held : {X : Type 0} (o : Option X) → IsSome o → (x : X) × (o ≡ Some x)
held None h = absurd (none h)
  where
    none : false ≡ true → ⊥
    none e = cc
held (Some x) h = (x, refl)

pub at_some : {X : Type 0} (P : X → Type 0) (o : Option X) (x : X) → o ≡ Some x → IfSome o P → P x
at_some {X = X} P o x e h = let Q : Option X → Type 0 = λ p. IfSome p P in subst Q e h

module _ {S I : Type 0} (y : System S I) where
  -- the first step of a schedule, and the rest
  pub record Begins (s : S) (i : I) (items : List I) (end : S) : Type 0 where
    pub next : S
    pub first : y.step s i ≡ Some next
    pub rest : run y next items ≡ Some end

  pub begins : (s : S) (i : I) (items : List I) (end : S) → run y s (i ∷ items) ≡ Some end → Begins s i items end
  begins s i items end h = option_and_then_some (λ t. run y t items) (y.step s i) end h (λ t f r. record { next = t; first = f; rest = r })

  pub run-cons : (s : S) (i : I) (items : List I) (t : S) → y.step s i ≡ Some t → run y s (i ∷ items) ≡ run y t items
  run-cons s i items t f = ap (λ o. option_and_then (λ u. run y u items) o) f

  pub run-push : (s : S) (items : List I) (i : I) (t u : S) → run y s items ≡ Some t → y.step t i ≡ Some u → run y s (items ++ i ∷ []) ≡ Some u
  run-push s [] i t u h f = run-cons s i [] u (ap (λ v. y.step v i) (same_Some s t h) ∙ f)
  run-push s (j ∷ items) i t u h f =
      let b = begins s j items t h in
      run-cons s j (items ++ i ∷ []) b.next b.first ∙ run-push b.next items i t u b.rest f

  pub reached_next : (s : S) (i : I) (t : S) → IsReached y s → y.step s i ≡ Some t → IsReached y t
  reached_next s i t r f = (r.0 ++ i ∷ [], run-push y.start r.0 i s t r.1 f)
