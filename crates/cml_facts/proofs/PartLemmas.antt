-- The first expression that has no value, one after another.
use Rattle.std.proofs.Common.{◌≡◌, ℕ, ◌+◌, ◌<◌, ◌≤◌, List, length, get_or, drop, Option, Some, None, sym, ap, ◌∙◌}
use Rattle.std.specs.Option.{option_map_or}
use Rattle.std.proofs.lemmas.List.{drop_more, drop_all}
use Rattle.cml_value.specs.Value.{PlainValue}
use Rattle.cml_check.specs.Syntax.{PlainExpr, exprs}
use Rattle.cml_facts.specs.declared.fault.part.Part.{Part}
use Rattle.cml_facts.specs.Parts.{valued, part_of, part_of_first}

next_is : (of : ℕ → PlainValue) (es : List (PlainExpr ℕ)) (i : ℕ) (e : PlainExpr ℕ) → i < length es → e ≡ get_or es i e →
    part_of_first of (exprs (drop i es)) ≡ option_map_or (λ (v : PlainValue). part_of_first of (exprs (drop (i + 1) es))) (valued of e) (Some (part_of of e))
next_is of es i e h at =
    ap (λ xs. part_of_first of (exprs xs)) (drop_more es i e h)
    ∙ ap (λ x. option_map_or (λ (v : PlainValue). part_of_first of (exprs (drop (i + 1) es))) (valued of x) (Some (part_of of x))) (sym at)

pub found_here : (of : ℕ → PlainValue) (es : List (PlainExpr ℕ)) (i : ℕ) (e : PlainExpr ℕ) (all : Option Part) (part : Part) → i < length es → e ≡ get_or es i e →
    None ≡ valued of e → part ≡ part_of of e → part_of_first of (exprs (drop i es)) ≡ all → Some part ≡ all
found_here of es i e all part h at none is so_far =
    let others = λ (v : PlainValue). part_of_first of (exprs (drop (i + 1) es)) in
    ap Some is ∙ (ap (λ x. option_map_or others x (Some (part_of of e))) none ∙ (sym (next_is of es i e h at) ∙ so_far))

pub not_here : (of : ℕ → PlainValue) (es : List (PlainExpr ℕ)) (i : ℕ) (e : PlainExpr ℕ) (all : Option Part) (v : PlainValue) → i < length es → e ≡ get_or es i e →
    Some v ≡ valued of e → part_of_first of (exprs (drop i es)) ≡ all → part_of_first of (exprs (drop (i + 1) es)) ≡ all
not_here of es i e all v h at is so_far =
    let others = λ (w : PlainValue). part_of_first of (exprs (drop (i + 1) es)) in
    ap (λ x. option_map_or others x (Some (part_of of e))) is ∙ (sym (next_is of es i e h at) ∙ so_far)

pub not_at_all : (of : ℕ → PlainValue) (es : List (PlainExpr ℕ)) (i : ℕ) (all : Option Part) → length es ≤ i → part_of_first of (exprs (drop i es)) ≡ all → None ≡ all
not_at_all of es i all h so_far = sym (ap (λ xs. part_of_first of (exprs xs)) (drop_all i es h)) ∙ so_far
