-- The short forms of instructions.
use Rattle.std.proofs.Common.{◌≡◌, ℕ, zero, suc, ◌+◌, ◌<◌, ◌≤◌, ◌⊎◌, inl, inr, true, ◌&&◌, nat_lt, Option, Some, None, List, [], ◌∷◌, ◌++◌}
use Rattle.std.proofs.Common.{length, get_or, take, map, refl, ap, sym, ◌∙◌, subst, arith}
use Rattle.std.proofs.lemmas.List.{take_more, map_push}
use Rattle.cml_check.specs.declared.instr.Instr.{Instr}
use Rattle.cml_check.specs.declared.flat.Flat.{Flat}
use Rattle.cml_check.specs.declared.flat.Offer.{Offer}
use Rattle.cml_check.specs.declared.flat.Told.{Told}
use Rattle.cml_check.specs.declared.flat.Op.{Op}
use Rattle.cml_check.specs.declared.flat.Op.TheVariants as op
use Rattle.cml_check.specs.declared.syntax.ActOnOne.TheVariants as one_of
use Rattle.cml_check.specs.Syntax.{PlainExpr, PlainEffect, act_on_one, value, effect, let_be, set_to, just_do, stmts_and}
use Rattle.cml_check.specs.InOrder.{expr_fits, effect_fits}
use Rattle.cml_check.specs.Layout.{PlainInstr, let_then, set_then, do_then, if_then, while_then}
use Rattle.cml_check.specs.Follows.{FollowsIf, FollowsWhile}
use Rattle.cml_check.specs.InstrViews.{plain_instr}
use Rattle.cml_check.specs.Ops.{flat_expr, offer_expr, told_effect, acting, IsShortOf, AreShort}

pub other_short : (i : PlainInstr) → IsShortOf i op.Other
other_short i = record { follows = λ left here h. tt; fits = λ fs n h. refl }

pub acts_short : (i : PlainInstr) → IsShortOf i op.Acts
acts_short i = record { follows = λ left here h. tt; fits = λ fs n h. refl }

pub set_short : (x next : ℕ) (e : PlainExpr ℕ) (f : Flat) → flat_expr f ≡ e → IsShortOf (set_then x e next) (op.Set x f next)
set_short x next e f is = record {
  follows = λ left here h. inr (subst (λ d. here ≡ stmts_and (set_to x d) (left next)) (sym is) h);
  fits = λ fs n h. subst (λ d. nat_lt x n && expr_fits fs n d ≡ true) (sym is) h;
}

pub let_short : (x next : ℕ) (e : PlainExpr ℕ) (f : Flat) → flat_expr f ≡ e → IsShortOf (let_then x (value e) next) (op.Set x f next)
let_short x next e f is = record {
  follows = λ left here h. inl (subst (λ d. here ≡ stmts_and (let_be x (value d)) (left next)) (sym is) h);
  fits = λ fs n h. subst (λ d. nat_lt x n && expr_fits fs n d ≡ true) (sym is) h;
}

pub if_short : (first second : ℕ) (e : PlainExpr ℕ) (f : Flat) → flat_expr f ≡ e → IsShortOf (if_then e first second) (op.Test f first second)
if_short first second e f is = record {
  follows = λ left here h. inl (subst (λ d. FollowsIf left d first second here) (sym is) h);
  fits = λ fs n h. subst (λ d. expr_fits fs n d ≡ true) (sym is) h;
}

pub while_short : (first second : ℕ) (e : PlainExpr ℕ) (f : Flat) → flat_expr f ≡ e → IsShortOf (while_then e first second) (op.Test f first second)
while_short first second e f is = record {
  follows = λ left here h. inr (subst (λ d. FollowsWhile left d first second here) (sym is) h);
  fits = λ fs n h. subst (λ d. expr_fits fs n d ≡ true) (sym is) h;
}

pub sync_short : (given : Option ℕ) (next : ℕ) (e : PlainExpr ℕ) (o : Offer) → offer_expr o ≡ e → IsShortOf (acting given (act_on_one one_of.Sync e) next) (op.Sync o given next)
sync_short (Some x) next e o is = record {
  follows = λ left here h. subst (λ d. here ≡ stmts_and (let_be x (effect (act_on_one one_of.Sync d))) (left next)) (sym is) h;
  fits = λ fs n h. subst (λ d. nat_lt x n && expr_fits fs n d ≡ true) (sym is) h;
}
sync_short None next e o is = record {
  follows = λ left here h. subst (λ d. here ≡ stmts_and (just_do (act_on_one one_of.Sync d)) (left next)) (sym is) h;
  fits = λ fs n h. subst (λ d. expr_fits fs n d ≡ true) (sym is) h;
}

pub tell_short : (next : ℕ) (f : PlainEffect ℕ) (t : Told) → told_effect t ≡ f → IsShortOf (do_then f next) (op.Tell t next)
tell_short next f t is = record {
  follows = λ left here h. subst (λ d. here ≡ stmts_and (just_do d) (left next)) (sym is) h;
  fits = λ fs n h. subst (λ d. effect_fits fs n d ≡ true) (sym is) h;
}

pub shorts_none : (xs : List Instr) (ops : List Op) → ops ≡ [] → AreShort (map plain_instr (take 0 xs)) ops
shorts_none xs ops none = subst (λ os. AreShort [] os) (sym none) tt

-- one more instruction, with its short form
shorts_push : (is : List PlainInstr) (os : List Op) (i : PlainInstr) (o : Op) → AreShort is os → IsShortOf i o → AreShort (is ++ i ∷ []) (os ++ o ∷ [])
shorts_push [] [] i o h g = (g, tt)
shorts_push [] (p ∷ os) i o h g = absurd h
shorts_push (j ∷ is) [] i o h g = absurd h
shorts_push (j ∷ is) (p ∷ os) i o h g = (h.0, shorts_push is os i o h.1 g)

pub shorts_next : (xs : List Instr) (old new : List Op) (at : ℕ) (x : Instr) (o : Op) → at < length xs → x ≡ get_or xs at x → AreShort (map plain_instr (take at xs)) old →
    IsShortOf (plain_instr x) o → new ≡ old ++ o ∷ [] → AreShort (map plain_instr (take (at + 1) xs)) new
shorts_next xs old new at x o lt is h g pushed =
    let more : take (at + 1) xs ≡ take at xs ++ x ∷ [] = take_more xs at x lt ∙ ap (λ y. take at xs ++ y ∷ []) (sym is) in
    subst (λ is. AreShort is new) (sym (ap (map plain_instr) more ∙ map_push plain_instr (take at xs) x))
    (subst (λ os. AreShort (map plain_instr (take at xs) ++ plain_instr x ∷ []) os) (sym pushed) (shorts_push (map plain_instr (take at xs)) old (plain_instr x) o h g))

take_past : (xs : List Instr) (n : ℕ) → length xs ≤ n → take n xs ≡ xs
take_past [] zero h = refl
take_past [] (suc n) h = refl
take_past (x ∷ xs) zero h = absurd (omega (arith, h))
take_past (x ∷ xs) (suc n) h = ap (λ ys. x ∷ ys) (take_past xs n (omega (arith, h)))

pub shorts_all : (xs : List Instr) (ops : List Op) (at : ℕ) → length xs ≤ at → AreShort (map plain_instr (take at xs)) ops → AreShort (map plain_instr xs) ops
shorts_all xs ops at le h = subst (λ ys. AreShort (map plain_instr ys) ops) (take_past xs at le) h

-- as many short forms as instructions
pub length_shorts : (is : List PlainInstr) (os : List Op) → AreShort is os → length os ≡ length is
length_shorts [] [] h = refl
length_shorts [] (o ∷ os) h = absurd h
length_shorts (i ∷ is) [] h = absurd h
length_shorts (i ∷ is) (o ∷ os) h = ap suc (length_shorts is os h.1)

-- the short form at a place
pub short_at : (is : List PlainInstr) (os : List Op) (at : ℕ) (i : PlainInstr) (o : Op) → AreShort is os → at < length os → IsShortOf (get_or is at i) (get_or os at o)
short_at [] [] at i o h lt = absurd (omega (arith, lt))
short_at [] (p ∷ os) at i o h lt = absurd h
short_at (j ∷ is) [] at i o h lt = absurd h
short_at (j ∷ is) (p ∷ os) zero i o h lt = h.0
short_at (j ∷ is) (p ∷ os) (suc at) i o h lt = short_at is os at i o h.1 (omega (arith, lt))
