-- What was found so far, before what is found of the rest.
use Rattle.std.proofs.Common.{◌≡◌, List, [], ◌∷◌, ◌++◌, Ok, Err, refl, sym, ap, ◌∙◌, append_assoc}
use Rattle.cml_value.specs.Value.{PlainValue, PlainEvent}
use Rattle.cml_check.specs.Syntax.{PlainExpr, PlainExprs, exprs_and}
use Rattle.cml_step.specs.declared.fault.Fault.{Fault}
use Rattle.cml_step.specs.Faults.{Found, ◌>>=◌}
use Rattle.cml_step.specs.Kinds.{as_event}
use Rattle.cml_step.specs.Operators.{as_events}
use Rattle.cml_step.specs.Evaluate.{evaluate, evaluate_all}

abbrev pub prefixed : {A : Type 0} → List A → Found (List A) → Found (List A)
prefixed seen (Ok left) = Ok (seen ++ left)
prefixed seen (Err e) = Err e

pub prefixed_none : {A : Type 0} (r : Found (List A)) → prefixed [] r ≡ r
prefixed_none (Ok left) = refl
prefixed_none (Err e) = refl

next_in : {A : Type 0} (seen : List A) (x : A) (r : Found (List A)) → prefixed seen (r >>= (λ xs. Ok (x ∷ xs))) ≡ prefixed (seen ++ x ∷ []) r
next_in seen x (Ok left) = ap Ok (sym (append_assoc seen (x ∷ []) left))
next_in seen x (Err e) = refl

pub events_start : (vs : List PlainValue) → as_events vs ≡ prefixed [] (as_events vs)
events_start vs = sym (prefixed_none (as_events vs))

pub events_next : (vs left : List PlainValue) (seen : List PlainEvent) (v : PlainValue) (e : PlainEvent) → as_events vs ≡ prefixed seen (as_events (v ∷ left)) →
    as_event v ≡ Ok e → as_events vs ≡ prefixed (seen ++ e ∷ []) (as_events left)
events_next vs left seen v e h g =
    h ∙ ap (λ r. prefixed seen (r >>= (λ f. as_events left >>= (λ fs. Ok (f ∷ fs))))) g ∙ next_in seen e (as_events left)

pub events_fault : (vs left : List PlainValue) (seen : List PlainEvent) (v : PlainValue) (x : Fault) → as_events vs ≡ prefixed seen (as_events (v ∷ left)) →
    as_event v ≡ Err x → as_events vs ≡ Err x
events_fault vs left seen v x h g = h ∙ ap (λ r. prefixed seen (r >>= (λ f. as_events left >>= (λ fs. Ok (f ∷ fs))))) g

pub all_start : {V : Type 0} (of : V → PlainValue) (es : PlainExprs V) → evaluate_all of es ≡ prefixed [] (evaluate_all of es)
all_start of es = sym (prefixed_none (evaluate_all of es))

pub all_next : {V : Type 0} (of : V → PlainValue) (es left : PlainExprs V) (seen : List PlainValue) (e : PlainExpr V) (v : PlainValue) →
    evaluate_all of es ≡ prefixed seen (evaluate_all of (exprs_and e left)) → evaluate of e ≡ Ok v → evaluate_all of es ≡ prefixed (seen ++ v ∷ []) (evaluate_all of left)
all_next of es left seen e v h g =
    h ∙ ap (λ r. prefixed seen (r >>= (λ w. evaluate_all of left >>= (λ ws. Ok (w ∷ ws))))) g ∙ next_in seen v (evaluate_all of left)

pub all_fault : {V : Type 0} (of : V → PlainValue) (es left : PlainExprs V) (seen : List PlainValue) (e : PlainExpr V) (x : Fault) →
    evaluate_all of es ≡ prefixed seen (evaluate_all of (exprs_and e left)) → evaluate of e ≡ Err x → evaluate_all of es ≡ Err x
all_fault of es left seen e x h g = h ∙ ap (λ r. prefixed seen (r >>= (λ w. evaluate_all of left >>= (λ ws. Ok (w ∷ ws))))) g
