-- What an expression that is in order makes of values that agree with the program, agrees with it.
use Rattle.std.specs.Prelude.{ℤ, ◌+ℤ◌, ◌-ℤ◌, ◌*ℤ◌, IfSome}
use Rattle.std.proofs.Common.{◌≡◌, ℕ, zero, suc, ◌+◌, Bool, true, false, ◌&&◌, cond, List, [], ◌∷◌, length, refl, ap, sym, ◌∙◌, arith, Result, Ok, Err, IfOk, Option, Some, None, subst}
use Rattle.cml_check.specs.declared.syntax.Constant.{Constant}
use Rattle.cml_check.specs.declared.syntax.Constant.TheVariants as constant_of
use Rattle.cml_check.specs.declared.syntax.Unary.{Unary}
use Rattle.cml_check.specs.declared.syntax.Unary.TheVariants as unary_of
use Rattle.cml_check.specs.declared.syntax.Binary.{Binary}
use Rattle.cml_check.specs.declared.syntax.Binary.TheVariants as binary_of
use Rattle.cml_value.specs.Value.{PlainValue, unit, int, truth, pair, thread, chan, ivar, mvar, mailbox, mchan}
use Rattle.cml_value.specs.Value.{port, event, PlainValues, no_values, values_and, PlainFunction, function, values}
use Rattle.cml_value.specs.Value.{PlainEvent, PlainBase, events, leaf}
use Rattle.cml_value.specs.Value as value
use Rattle.cml_value.specs.Limits.{value_fits}
use Rattle.cml_check.specs.Syntax.{PlainExpr, constant, number, text, variable, unary, binary, choose, wrap, guard, with_nack, PlainExprs, no_exprs, exprs_and}
use Rattle.cml_check.specs.Heads.{takes}
use Rattle.cml_check.specs.InOrder.{expr_fits, exprs_fit, exprs_count}
use Rattle.cml_step.specs.declared.fault.Fault.TheVariants.{Deep, Overflow}
use Rattle.std.specs.Global.{Global}
use Rattle.std.specs.declared.vec.Vec.{Vec}
use Rattle.std.proofs.lemmas.Bool.{and_parts, and_from}
use Rattle.cml_step.specs.declared.fault.Stop.{Stop}
use Rattle.cml_step.specs.Faults.{Found, ◌>>=◌, ComesTo}
use Rattle.cml_step.specs.Kinds.{as_number, as_truth, first_part, second_part, as_thread, as_chan, as_swapchan, as_ivar, as_mvar, as_mailbox, as_port, as_event}
use Rattle.cml_step.specs.Operators.{constant_value, ticks_of, built, is_in_range, in_range, base_value, unary_value, binary_value, as_events, choose_value, wrap_value, guard_value, nack_value}
use Rattle.cml_step.specs.Variables.{slot_value}
use Rattle.cml_step.specs.Evaluate.{evaluate, evaluate_all}
use Rattle.cml_step.specs.Agrees.{value_agrees, values_agree, values_count, function_agrees, base_agrees, event_agrees, events_agree, all_agree}

pub all_values : (fs : List ℕ) (vs : List PlainValue) → values_agree fs (values vs) ≡ all_agree fs vs
all_values fs [] = refl
all_values fs (v ∷ vs) = ap (λ t. value_agrees fs v && t) (all_values fs vs)

pub count_values : (vs : List PlainValue) → values_count (values vs) ≡ length vs
count_values [] = refl
count_values (v ∷ vs) = omega (arith, count_values vs)

-- what is found, if anything is, agrees
abbrev pub Agrees : List ℕ → Found PlainValue → Type 0
Agrees fs r = IfOk r (λ v. value_agrees fs v ≡ true)

abbrev pub AllAgrees : List ℕ → Found (List PlainValue) → Type 0
AllAgrees fs r = IfOk r (λ vs. all_agree fs vs ≡ true)

built_if : (fs : List ℕ) (b : Bool) (v : PlainValue) → value_agrees fs v ≡ true → Agrees fs (cond b (Ok v) (Err Deep))
built_if fs true v h = h
built_if fs false v h = tt

pub built_agrees : (fs : List ℕ) (v : PlainValue) → value_agrees fs v ≡ true → Agrees fs (built v)
built_agrees fs v h = built_if fs (value_fits v) v h

-- where one part is found, the next is looked at
then_agrees : {A : Type 0} (fs : List ℕ) (r : Found A) (k : A → Found PlainValue) → ((x : A) → r ≡ Ok x → Agrees fs (k x)) → Agrees fs (r >>= k)
then_agrees fs (Ok x) k h = h x refl
then_agrees fs (Err e) k h = tt

constant_agrees : (fs : List ℕ) (c : Constant) → Agrees fs (constant_value c)
constant_agrees fs constant_of.True = refl
constant_agrees fs constant_of.False = refl
constant_agrees fs constant_of.Unit = refl
constant_agrees fs constant_of.Never = refl

first_agrees : (fs : List ℕ) (v : PlainValue) → value_agrees fs v ≡ true → Agrees fs (first_part v)
first_agrees fs (pair a b) h = (and_parts _ _ h).0
first_agrees fs _ h = tt

second_agrees : (fs : List ℕ) (v : PlainValue) → value_agrees fs v ≡ true → Agrees fs (second_part v)
second_agrees fs (pair a b) h = (and_parts (value_agrees fs a) _ h).1
second_agrees fs _ h = tt

plain_base_agrees : {A : Type 0} (fs : List ℕ) (r : Found A) (b : A → PlainBase) → ((x : A) → base_agrees fs (b x) ≡ true) → Agrees fs (r >>= (λ x. base_value (b x)))
plain_base_agrees fs r b h = then_agrees fs r (λ x. base_value (b x)) (λ x _. built_agrees fs (event (leaf (b x))) (h x))

unary_agrees : (fs : List ℕ) (op : Unary) (v : PlainValue) → value_agrees fs v ≡ true → Agrees fs (unary_value op v)
unary_agrees fs unary_of.Not v h = then_agrees fs (as_truth v) _ (λ x _. refl)
unary_agrees fs unary_of.Fst v h = first_agrees fs v h
unary_agrees fs unary_of.Snd v h = second_agrees fs v h
unary_agrees fs unary_of.Always v h = built_agrees fs (event (leaf (value.always v))) h
unary_agrees fs unary_of.Recv v h = plain_base_agrees fs (as_chan v) value.recv (λ x. refl)
unary_agrees fs unary_of.IGet v h = plain_base_agrees fs (as_ivar v) value.iget (λ x. refl)
unary_agrees fs unary_of.MTake v h = plain_base_agrees fs (as_mvar v) value.mtake (λ x. refl)
unary_agrees fs unary_of.MGet v h = plain_base_agrees fs (as_mvar v) value.mget (λ x. refl)
unary_agrees fs unary_of.MailRecv v h = plain_base_agrees fs (as_mailbox v) value.mail_recv (λ x. refl)
unary_agrees fs unary_of.PortRecv v h = plain_base_agrees fs (as_port v) value.port_recv (λ x. refl)
unary_agrees fs unary_of.Join v h = plain_base_agrees fs (as_thread v) value.join (λ x. refl)
unary_agrees fs unary_of.At v h = plain_base_agrees fs (ticks_of v) value.at_tick (λ x. refl)
unary_agrees fs unary_of.After v h = plain_base_agrees fs (ticks_of v) value.after_ticks (λ x. refl)

in_range_if : (fs : List ℕ) (b : Bool) (z : ℤ) → Agrees fs (cond b (Ok (int z)) (Err Overflow))
in_range_if fs true z = refl
in_range_if fs false z = tt

in_range_agrees : (fs : List ℕ) (z : ℤ) → Agrees fs (in_range z)
in_range_agrees fs z = in_range_if fs (is_in_range z) z

two_numbers : (fs : List ℕ) (v w : PlainValue) (k : ℤ → ℤ → Found PlainValue) → ((x y : ℤ) → Agrees fs (k x y)) →
    Agrees fs (as_number v >>= (λ x. as_number w >>= (λ y. k x y)))
two_numbers fs v w k h = then_agrees fs (as_number v) _ (λ x _. then_agrees fs (as_number w) _ (λ y _. h x y))

binary_agrees : (fs : List ℕ) (op : Binary) (v w : PlainValue) → value_agrees fs v ≡ true → value_agrees fs w ≡ true → Agrees fs (binary_value op v w)
binary_agrees fs binary_of.Plus v w h g = two_numbers fs v w _ (λ x y. in_range_agrees fs (x +ℤ y))
binary_agrees fs binary_of.Minus v w h g = two_numbers fs v w _ (λ x y. in_range_agrees fs (x -ℤ y))
binary_agrees fs binary_of.Times v w h g = two_numbers fs v w _ (λ x y. in_range_agrees fs (x *ℤ y))
binary_agrees fs binary_of.Less v w h g = two_numbers fs v w _ (λ x y. refl)
binary_agrees fs binary_of.Equal v w h g = refl
binary_agrees fs binary_of.Pair v w h g = built_agrees fs (pair v w) (and_from _ _ h g)
binary_agrees fs binary_of.Send v w h g = then_agrees fs (as_chan v) _ (λ c _. built_agrees fs (event (leaf (value.send c w))) g)
binary_agrees fs binary_of.Swap v w h g = then_agrees fs (as_swapchan v) _ (λ s _. built_agrees fs (event (leaf (value.swap s w))) g)
binary_agrees fs binary_of.MSwap v w h g = then_agrees fs (as_mvar v) _ (λ m _. built_agrees fs (event (leaf (value.mswap m w))) g)

pub event_of_agrees : (fs : List ℕ) (v : PlainValue) (e : PlainEvent) → value_agrees fs v ≡ true → as_event v ≡ Ok e → event_agrees fs e ≡ true
event_of_agrees fs (event d) e h g = let p : d ≡ e = cc in ap (event_agrees fs) (sym p) ∙ h
event_of_agrees fs _ e h g = absurd (cc)

events_then : (fs : List ℕ) (r : Found PlainEvent) (q : Found (List PlainEvent)) → ((e : PlainEvent) → r ≡ Ok e → event_agrees fs e ≡ true) →
    IfOk q (λ es. events_agree fs (events es) ≡ true) → IfOk (r >>= (λ e. q >>= (λ es. Ok (e ∷ es)))) (λ es. events_agree fs (events es) ≡ true)
events_then fs (Ok e) (Ok es) h g = and_from _ _ (h e refl) g
events_then fs (Ok e) (Err x) h g = tt
events_then fs (Err x) q h g = tt

events_of_agree : (fs : List ℕ) (vs : List PlainValue) → all_agree fs vs ≡ true → IfOk (as_events vs) (λ es. events_agree fs (events es) ≡ true)
events_of_agree fs [] h = refl
events_of_agree fs (v ∷ vs) h = events_then fs (as_event v) (as_events vs) (λ e g. event_of_agrees fs v e (and_parts _ _ h).0 g) (events_of_agree fs vs (and_parts _ _ h).1)

choose_agrees : (fs : List ℕ) (r : Found (List PlainEvent)) → IfOk r (λ es. events_agree fs (events es) ≡ true) → Agrees fs (r >>= (λ es. built (event (value.choose (events es)))))
choose_agrees fs (Ok es) h = built_agrees fs (event (value.choose (events es))) h
choose_agrees fs (Err e) h = tt

wrap_agrees : (fs : List ℕ) (v : PlainValue) (f : PlainFunction) → value_agrees fs v ≡ true → function_agrees fs 1 f ≡ true → Agrees fs (wrap_value v f)
wrap_agrees fs v f h g = then_agrees fs (as_event v) _ (λ e p. built_agrees fs (event (value.wrap e f)) (and_from (event_agrees fs e) (function_agrees fs 1 f) (event_of_agrees fs v e h p) g))

slot_agrees : (fs : List ℕ) (vs : List PlainValue) (s : ℕ) → all_agree fs vs ≡ true → value_agrees fs (slot_value vs s) ≡ true
slot_agrees fs [] zero h = refl
slot_agrees fs [] (suc s) h = refl
slot_agrees fs (v ∷ vs) zero h = (and_parts _ _ h).0
slot_agrees fs (v ∷ vs) (suc s) h = slot_agrees fs vs s (and_parts _ _ h).1

-- a function that takes this many values and is given them
pub given_agrees : (fs : List ℕ) (f n more : ℕ) (vs : List PlainValue) → takes fs f (n + more) ≡ true → length vs ≡ n → all_agree fs vs ≡ true →
    function_agrees fs more (function f (values vs)) ≡ true
given_agrees fs f n more vs t l h =
    and_from _ _ (ap (λ k. takes fs f (k + more)) (count_values vs ∙ l) ∙ t) (all_values fs vs ∙ h)

all_then : (fs : List ℕ) (r : Found PlainValue) (q : Found (List PlainValue)) → Agrees fs r → AllAgrees fs q → AllAgrees fs (r >>= (λ v. q >>= (λ vs. Ok (v ∷ vs))))
all_then fs (Ok v) (Ok vs) h g = and_from _ _ h g
all_then fs (Ok v) (Err e) h g = tt
all_then fs (Err e) q h g = tt

counted_then : (n : ℕ) (r : Found PlainValue) (q : Found (List PlainValue)) → IfOk q (λ vs. length vs ≡ n) → IfOk (r >>= (λ v. q >>= (λ vs. Ok (v ∷ vs)))) (λ vs. length vs ≡ n + 1)
counted_then n (Ok v) (Ok vs) h = omega (arith, h)
counted_then n (Ok v) (Err e) h = tt
counted_then n (Err e) q h = tt

pub all_counted : {V : Type 0} (of : V → PlainValue) (es : PlainExprs V) → IfOk (evaluate_all of es) (λ vs. length vs ≡ exprs_count es)
all_counted of no_exprs = refl
all_counted of (exprs_and e es) = counted_then (exprs_count es) (evaluate of e) (evaluate_all of es) (all_counted of es)

-- a function that is given these values
captured : (fs : List ℕ) (f n more : ℕ) (q : Found (List PlainValue)) (k : PlainFunction → Found PlainValue) → takes fs f (n + more) ≡ true →
    IfOk q (λ vs. length vs ≡ n) → AllAgrees fs q → ((g : PlainFunction) → function_agrees fs more g ≡ true → Agrees fs (k g)) →
    Agrees fs (q >>= (λ vs. k (function f (values vs))))
captured fs f n more (Ok vs) k t l h a = a _ (given_agrees fs f n more vs t l h)
captured fs f n more (Err e) k t l h a = tt

pub takes_none : (fs : List ℕ) (f n : ℕ) → takes fs f n ≡ true → takes fs f (n + 0) ≡ true
takes_none fs f n t = let e : n + 0 ≡ n = omega arith in ap (takes fs f) e ∙ t

wrap_then : (fs : List ℕ) (f n : ℕ) (r : Found PlainValue) (q : Found (List PlainValue)) → takes fs f (n + 1) ≡ true → Agrees fs r →
    IfOk q (λ vs. length vs ≡ n) → AllAgrees fs q → Agrees fs (r >>= (λ v. q >>= (λ vs. wrap_value v (function f (values vs)))))
wrap_then fs f n (Ok v) q t h l a = captured fs f n 1 q (wrap_value v) t l a (λ g p. wrap_agrees fs v g h p)
wrap_then fs f n (Err e) q t h l a = tt

binary_then : (fs : List ℕ) (op : Binary) (r q : Found PlainValue) → Agrees fs r → Agrees fs q → Agrees fs (r >>= (λ v. q >>= (λ w. binary_value op v w)))
binary_then fs op (Ok v) (Ok w) h g = binary_agrees fs op v w h g
binary_then fs op (Ok v) (Err e) h g = tt
binary_then fs op (Err e) q h g = tt

unary_then : (fs : List ℕ) (op : Unary) (r : Found PlainValue) → Agrees fs r → Agrees fs (r >>= (λ v. unary_value op v))
unary_then fs op (Ok v) h = unary_agrees fs op v h
unary_then fs op (Err e) h = tt

choose_then : (fs : List ℕ) (r : Found (List PlainValue)) → AllAgrees fs r → Agrees fs (r >>= choose_value)
choose_then fs (Ok vs) h = choose_agrees fs (as_events vs) (events_of_agree fs vs h)
choose_then fs (Err e) h = tt

module _ (fs : List ℕ) (n : ℕ) (vs : List PlainValue) (h : all_agree fs vs ≡ true) where
  mutual
    pub evaluate_agrees : (e : PlainExpr ℕ) → expr_fits fs n e ≡ true → Agrees fs (evaluate (slot_value vs) e)
    evaluate_agrees (constant c) f = constant_agrees fs c
    evaluate_agrees (number z) f = refl
    evaluate_agrees (text bytes) f = refl
    evaluate_agrees (variable s) f = slot_agrees fs vs s h
    evaluate_agrees (unary op e) f = unary_then fs op (evaluate (slot_value vs) e) (evaluate_agrees e f)
    evaluate_agrees (binary op a b) f = binary_then fs op _ _ (evaluate_agrees a (and_parts _ _ f).0) (evaluate_agrees b (and_parts (expr_fits fs n a) _ f).1)
    evaluate_agrees (choose es) f = choose_then fs _ (all_evaluate_agree es f)
    evaluate_agrees (wrap e g es) f =
        wrap_then fs g (exprs_count es) _ _ (and_parts (expr_fits fs n e && exprs_fit fs n es) _ f).1 (evaluate_agrees e (and_parts _ _ (and_parts _ _ f).0).0)
        (all_counted (slot_value vs) es) (all_evaluate_agree es (and_parts (expr_fits fs n e) _ (and_parts _ _ f).0).1)
    evaluate_agrees (guard g es) f =
        captured fs g (exprs_count es) 0 _ guard_value (takes_none fs g _ (and_parts (exprs_fit fs n es) _ f).1) (all_counted (slot_value vs) es)
        (all_evaluate_agree es (and_parts _ _ f).0) (λ d p. built_agrees fs (event (value.guard d)) p)
    evaluate_agrees (with_nack g es) f =
        captured fs g (exprs_count es) 1 _ nack_value (and_parts (exprs_fit fs n es) _ f).1 (all_counted (slot_value vs) es)
        (all_evaluate_agree es (and_parts _ _ f).0) (λ d p. built_agrees fs (event (value.with_nack d)) p)

    pub all_evaluate_agree : (es : PlainExprs ℕ) → exprs_fit fs n es ≡ true → AllAgrees fs (evaluate_all (slot_value vs) es)
    all_evaluate_agree no_exprs f = refl
    all_evaluate_agree (exprs_and e es) f = all_then fs _ _ (evaluate_agrees e (and_parts _ _ f).0) (all_evaluate_agree es (and_parts (expr_fits fs n e) _ f).1)

-- from what is found to what a call returns
pub answer_agrees : (fs : List ℕ) (r : Result PlainValue Stop) (found : Found PlainValue) → ComesTo (λ v. v) r found → Agrees fs found → IfOk r (λ v. value_agrees fs v ≡ true)
answer_agrees fs (Ok v) (Ok w) g a = let p : w ≡ v = cc in ap (value_agrees fs) (sym p) ∙ a
answer_agrees fs (Ok v) (Err e) g a = absurd (cc)
answer_agrees fs (Err e) found g a = tt

pub answers_agree : (fs : List ℕ) (r : Result (Vec PlainValue Global) Stop) (found : Found (List PlainValue)) → ComesTo (λ vs. vs.items) r found → AllAgrees fs found →
    IfOk r (λ vs. all_agree fs vs.items ≡ true)
answers_agree fs (Ok vs) (Ok ws) g a = let p : ws ≡ vs.items = cc in ap (all_agree fs) (sym p) ∙ a
answers_agree fs (Ok vs) (Err e) g a = absurd (cc)
answers_agree fs (Err e) found g a = tt

pub answers_count : (n : ℕ) (r : Result (Vec PlainValue Global) Stop) (found : Found (List PlainValue)) → ComesTo (λ vs. vs.items) r found → IfOk found (λ vs. length vs ≡ n) →
    IfOk r (λ vs. length vs.items ≡ n)
answers_count n (Ok vs) (Ok ws) g a = let p : ws ≡ vs.items = cc in ap length (sym p) ∙ a
answers_count n (Ok vs) (Err e) g a = absurd (cc)
answers_count n (Err e) found g a = tt

-- an event that was found
pub offer_agrees : (fs : List ℕ) (x : PlainEvent) (found : Found PlainValue) → found ≡ Ok (event x) → Agrees fs found → event_agrees fs x ≡ true
offer_agrees fs x found g a = subst (Agrees fs) g a

-- the same of a value that is found
pub message_agrees : (fs : List ℕ) (r : Option PlainValue) (found : Found PlainValue) → IfSome r (λ v. found ≡ Ok v) → Agrees fs found → IfSome r (λ v. value_agrees fs v ≡ true)
message_agrees fs (Some v) found g a = subst (Agrees fs) g a
message_agrees fs None found g a = tt

-- a function that takes as many values as there are
pub called_agrees : (fs : List ℕ) (f n : ℕ) (vs : List PlainValue) → takes fs f n ≡ true → length vs ≡ n → all_agree fs vs ≡ true →
    function_agrees fs 0 (function f (values vs)) ≡ true
called_agrees fs f n vs t l h = given_agrees fs f n 0 vs (takes_none fs f n t) l h
