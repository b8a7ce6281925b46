-- The first value that is no event, one expression after another.
use Rattle.std.proofs.Common.{◌≡◌, ℕ, ◌+◌, ◌<◌, ◌≤◌, Bool, true, false, List, length, get_or, drop, Option, Some, None, refl, sym, ap, ◌∙◌}
use Rattle.std.proofs.lemmas.List.{drop_more, drop_all}
use Rattle.std.specs.Prelude.{if◌then◌else◌}
use Rattle.cml_value.specs.Value.{PlainValue}
use Rattle.cml_check.specs.Syntax.{PlainExpr, exprs}
use Rattle.cml_facts.specs.Parts.{is_an_event, valued, no_event_or, first_no_event}

-- what the value alone says
alone_some_by : (b : Bool) (v w : PlainValue) (others : Option PlainValue) → (if b then None else Some v) ≡ Some w → (if b then others else Some v) ≡ Some w
alone_some_by true v w others e = cc
alone_some_by false v w others e = e

alone_some : (o others : Option PlainValue) (w : PlainValue) → no_event_or o None ≡ Some w → no_event_or o others ≡ Some w
alone_some None others w e = cc
alone_some (Some v) others w e = alone_some_by (is_an_event v) v w others e

alone_none_by : (b : Bool) (v : PlainValue) (others : Option PlainValue) → (if b then None else Some v) ≡ None → (if b then others else Some v) ≡ others
alone_none_by true v others e = refl
alone_none_by false v others e = cc

alone_none : (o others : Option PlainValue) → no_event_or o None ≡ None → no_event_or o others ≡ others
alone_none None others e = refl
alone_none (Some v) others e = alone_none_by (is_an_event v) v others e

-- one expression more
next_is : (of : ℕ → PlainValue) (es : List (PlainExpr ℕ)) (i : ℕ) (e : PlainExpr ℕ) → i < length es → e ≡ get_or es i e →
    first_no_event of (exprs (drop i es)) ≡ no_event_or (valued of e) (first_no_event of (exprs (drop (i + 1) es)))
next_is of es i e h at =
    ap (λ xs. first_no_event of (exprs xs)) (drop_more es i e h)
    ∙ ap (λ x. no_event_or (valued of x) (first_no_event of (exprs (drop (i + 1) es)))) (sym at)

pub found_here : (of : ℕ → PlainValue) (es : List (PlainExpr ℕ)) (i : ℕ) (e : PlainExpr ℕ) (all : Option PlainValue) (v : PlainValue) → i < length es → e ≡ get_or es i e →
    Some v ≡ no_event_or (valued of e) None → first_no_event of (exprs (drop i es)) ≡ all → Some v ≡ all
found_here of es i e all v h at found so_far =
    sym (alone_some (valued of e) (first_no_event of (exprs (drop (i + 1) es))) v (sym found)) ∙ (sym (next_is of es i e h at) ∙ so_far)

pub not_here : (of : ℕ → PlainValue) (es : List (PlainExpr ℕ)) (i : ℕ) (e : PlainExpr ℕ) (all : Option PlainValue) → i < length es → e ≡ get_or es i e →
    None ≡ no_event_or (valued of e) None → first_no_event of (exprs (drop i es)) ≡ all → first_no_event of (exprs (drop (i + 1) es)) ≡ all
not_here of es i e all h at none so_far =
    sym (alone_none (valued of e) (first_no_event of (exprs (drop (i + 1) es))) (sym none)) ∙ (sym (next_is of es i e h at) ∙ so_far)

pub not_at_all : (of : ℕ → PlainValue) (es : List (PlainExpr ℕ)) (i : ℕ) (all : Option PlainValue) → length es ≤ i → first_no_event of (exprs (drop i es)) ≡ all → None ≡ all
not_at_all of es i all h so_far = sym (ap (λ xs. first_no_event of (exprs xs)) (drop_all i es h)) ∙ so_far
