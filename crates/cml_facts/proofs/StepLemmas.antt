-- The part of an instruction is that of the statement that it is.
use Rattle.std.proofs.Common.{◌≡◌, ℕ, List, [], ◌∷◌, ◌++◌, Some, None, sym, ap, subst, ◌∙◌}
use Rattle.std.specs.Prelude.{slice_get, IfOk, Result}
use Rattle.std.proofs.lemmas.List.{reverse-append}
use Rattle.cml_value.specs.Value.{PlainValue, unit}
use Rattle.cml_check.specs.Syntax.{PlainStmts, no_stmts}
use Rattle.cml_check.specs.Layout.{PlainInstr, let_then, set_then, do_then, if_then, while_then, return_then}
use Rattle.cml_check.specs.Follows.{Follows}
use Rattle.cml_step.specs.Machines.{PlainHeld}
use Rattle.cml_facts.specs.declared.fault.part.Part.{Part}
use Rattle.cml_facts.specs.declared.fault.part.Part.TheVariants as part
use Rattle.cml_facts.specs.Parts.{part_of_step}
use Rattle.cml_facts.specs.Reasons.{top_entry}
use Rattle.cml_facts.specs.FaultViews.{part_of_instr}

same_part : (of : ℕ → PlainValue) (left : ℕ → PlainStmts ℕ) (i : PlainInstr) (here : PlainStmts ℕ) → Follows left i here → part_of_instr of i ≡ part_of_step of here
same_part of left (let_then x r next) here is = ap (part_of_step of) (sym is)
same_part of left (set_then x e next) here is = ap (part_of_step of) (sym is)
same_part of left (do_then e next) here is = ap (part_of_step of) (sym is)
same_part of left (if_then e holds fails) here so = ap (part_of_step of) (sym so.is)
same_part of left (while_then e body next) here so = ap (part_of_step of) (sym so.is)
same_part of left (return_then e) here so = ap (part_of_step of) (sym so.1)

pub part_of_here : {E : Type 0} (r : Result Part E) (of : ℕ → PlainValue) (left : ℕ → PlainStmts ℕ) (i : PlainInstr) (here : PlainStmts ℕ) → Follows left i here →
    IfOk r (λ found. found ≡ part_of_instr of i) → IfOk r (λ found. found ≡ part_of_step of here)
part_of_here r of left i here follows is = subst (λ (meant : Part). IfOk r (λ found. found ≡ meant)) (same_part of left i here follows) is

pub part_of_end : (of : ℕ → PlainValue) (here : PlainStmts ℕ) → here ≡ no_stmts → part.Returned unit ≡ part_of_step of here
part_of_end of here none = ap (part_of_step of) (sym none)

-- the last entry is on top
pub top_is : (old new : List PlainHeld) (h : PlainHeld) → old ≡ new ++ h ∷ [] → top_entry old ≡ Some h
top_is old new h split = ap top_entry split ∙ ap (λ x. slice_get x 0) (reverse-append new (h ∷ []))

pub no_top : (old : List PlainHeld) → old ≡ [] → top_entry old ≡ None
no_top old none = ap top_entry none
