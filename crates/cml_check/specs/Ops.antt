-- What an instruction says in its short form.
use Rattle.std.specs.Prelude.{◌≡◌, ◌⊎◌, ℕ, List, [], ◌∷◌, Bool, true, ◌&&◌, nat_lt, Option, Some, None}
use Rattle.cml_check.specs.declared.flat.Flat.{Flat}
use Rattle.cml_check.specs.declared.flat.Flat.TheVariants as flat
use Rattle.cml_check.specs.declared.flat.Offer.{Offer}
use Rattle.cml_check.specs.declared.flat.Offer.TheVariants as offer
use Rattle.cml_check.specs.declared.flat.Told.{Told}
use Rattle.cml_check.specs.declared.flat.Told.TheVariants as told
use Rattle.cml_check.specs.declared.flat.Op.{Op}
use Rattle.cml_check.specs.declared.flat.Op.TheVariants as op
use Rattle.cml_check.specs.declared.syntax.Constant.TheVariants as constant_of
use Rattle.cml_check.specs.declared.syntax.Unary.TheVariants as unary_of
use Rattle.cml_check.specs.declared.syntax.Binary.TheVariants as binary_of
use Rattle.cml_check.specs.declared.syntax.Act.TheVariants as act_of
use Rattle.cml_check.specs.declared.syntax.ActOnOne.TheVariants as one_of
use Rattle.cml_check.specs.declared.syntax.ActOnTwo.TheVariants as two_of
use Rattle.cml_check.specs.Syntax.{PlainExpr, constant, number, variable, unary, binary, PlainEffect, act, act_on_one, act_on_two, value, effect}
use Rattle.cml_check.specs.Syntax.{let_be, set_to, just_do, PlainStmts, stmts_and}
use Rattle.cml_check.specs.InOrder.{expr_fits, effect_fits}
use Rattle.cml_check.specs.Layout.{PlainInstr, let_then, do_then}
use Rattle.cml_check.specs.Follows.{FollowsIf, FollowsWhile, Follows, instr_fits}

-- the expression that it is
abbrev pub flat_expr : Flat → PlainExpr ℕ
flat_expr flat.True = constant constant_of.True
flat_expr (flat.Number z) = number z
flat_expr (flat.Slot x) = variable x
flat_expr (flat.AddSlots x y) = binary binary_of.Plus (variable x) (variable y)
flat_expr (flat.AddNumber x z) = binary binary_of.Plus (variable x) (number z)
flat_expr (flat.SubNumber x z) = binary binary_of.Minus (variable x) (number z)
flat_expr (flat.LessSlots x y) = binary binary_of.Less (variable x) (variable y)
flat_expr (flat.LessNumber x z) = binary binary_of.Less (variable x) (number z)
flat_expr (flat.NumberLess z x) = binary binary_of.Less (number z) (variable x)
flat_expr (flat.Slots o x y) = binary o (variable x) (variable y)
flat_expr (flat.SlotAndNumber o x z) = binary o (variable x) (number z)
flat_expr (flat.NumberAndSlot o z x) = binary o (number z) (variable x)

-- the expression of the event
abbrev pub offer_expr : Offer → PlainExpr ℕ
offer_expr (offer.Event x) = variable x
offer_expr (offer.Recv x) = unary unary_of.Recv (variable x)
offer_expr (offer.Send x e) = binary binary_of.Send (variable x) (flat_expr e)
offer_expr (offer.MailRecv x) = unary unary_of.MailRecv (variable x)
offer_expr (offer.MTake x) = unary unary_of.MTake (variable x)

-- the effect
abbrev pub told_effect : Told → PlainEffect ℕ
told_effect told.Yield = act act_of.Yield
told_effect (told.Mail x e) = act_on_two two_of.Mail (variable x) (flat_expr e)
told_effect (told.MPut x e) = act_on_two two_of.MPut (variable x) (flat_expr e)

-- the synchronization on the event
abbrev pub sync_effect : Offer → PlainEffect ℕ
sync_effect o = act_on_one one_of.Sync (offer_expr o)

-- The statement that is left first gives the slot the value of the expression.
abbrev pub Sets : (ℕ → PlainStmts ℕ) → ℕ → PlainExpr ℕ → ℕ → PlainStmts ℕ → Type 0
Sets left x e next here = (here ≡ stmts_and (let_be x (value e)) (left next)) ⊎ (here ≡ stmts_and (set_to x e) (left next))

-- It is a choice or a loop with this test.
abbrev pub Tests : (ℕ → PlainStmts ℕ) → PlainExpr ℕ → ℕ → ℕ → PlainStmts ℕ → Type 0
Tests left e holds fails here = FollowsIf left e holds fails here ⊎ FollowsWhile left e holds fails here

-- It has this effect, whose answer the slot is given, if there is one.
abbrev pub Acts : (ℕ → PlainStmts ℕ) → PlainEffect ℕ → Option ℕ → ℕ → PlainStmts ℕ → Type 0
Acts left f (Some x) next here = here ≡ stmts_and (let_be x (effect f)) (left next)
Acts left f None next here = here ≡ stmts_and (just_do f) (left next)

-- What a short form says of the statements that are left at its place. `left` are those at each place, and `here` those at its own.
abbrev pub OpFollows : (ℕ → PlainStmts ℕ) → Op → PlainStmts ℕ → Type 0
OpFollows left op.Other here = Unit {0}
OpFollows left op.Acts here = Unit {0}
OpFollows left (op.Set x e next) here = Sets left x (flat_expr e) next here
OpFollows left (op.Test e holds fails) here = Tests left (flat_expr e) holds fails here
OpFollows left (op.Sync o given next) here = Acts left (sync_effect o) given next here
OpFollows left (op.Tell t next) here = Acts left (told_effect t) None next here

abbrev pub given_fits : ℕ → Option ℕ → Bool
given_fits slots (Some x) = nat_lt x slots
given_fits slots None = true

-- Among functions of these arities, in a function of that many slots: each slot that it names is there.
abbrev pub op_fits : List ℕ → ℕ → Op → Bool
op_fits arities slots op.Other = true
op_fits arities slots op.Acts = true
op_fits arities slots (op.Set x e next) = nat_lt x slots && expr_fits arities slots (flat_expr e)
op_fits arities slots (op.Test e holds fails) = expr_fits arities slots (flat_expr e)
op_fits arities slots (op.Sync o given next) = given_fits slots given && effect_fits arities slots (sync_effect o)
op_fits arities slots (op.Tell t next) = effect_fits arities slots (told_effect t)

-- the instruction of an effect, whose answer the slot is given, if there is one
abbrev pub acting : Option ℕ → PlainEffect ℕ → ℕ → PlainInstr
acting (Some x) f next = let_then x (effect f) next
acting None f next = do_then f next

-- A short form of an instruction: what it says is so wherever what the instruction says is so.
pub record IsShortOf (i : PlainInstr) (o : Op) : Type 0 where
  pub follows : (left : ℕ → PlainStmts ℕ) (here : PlainStmts ℕ) → Follows left i here → OpFollows left o here
  pub fits : (arities : List ℕ) (slots : ℕ) → instr_fits arities slots i ≡ true → op_fits arities slots o ≡ true

-- each operation is a short form of the instruction at its place, and there are as many
abbrev pub AreShort : List PlainInstr → List Op → Type 0
AreShort [] [] = Unit {0}
AreShort (i ∷ is) (o ∷ os) = IsShortOf i o × AreShort is os
AreShort is os = ⊥
