-- Scripts worked by hand: what each slice asks, and how many steps it takes. No call of this crate is about them.
use Rattle.std.proofs.Common.{◌≡◌, ℕ, List, [], ◌∷◌, refl}
use Rattle.std.specs.Prelude.{codes, pos}
use Rattle.cml_value.specs.Value.{PlainValue, unit, int, text, thread, chan, swapchan, event, function, values, recv, send, swap, always, nack}
use Rattle.cml_value.specs.Value as event_of
use Rattle.cml_value.specs.Group.{leaf, choose, wrap, scope, groups}
use Rattle.cml_check.specs.declared.syntax.Constant.TheVariants.{True}
use Rattle.cml_check.specs.declared.syntax.Unary.TheVariants.{Recv, Always}
use Rattle.cml_check.specs.declared.syntax.Binary.TheVariants.{Plus, Send, Swap}
use Rattle.cml_check.specs.declared.syntax.Act.TheVariants.{Chan, SwapChan}
use Rattle.cml_check.specs.declared.syntax.ActOnOne.TheVariants.{Sync, Print}
use Rattle.cml_check.specs.Syntax.{PlainItem, Name, PlainExpr, constant, number, variable, unary, binary, exprs}
use Rattle.cml_check.specs.Syntax.{act, act_on_one, value, effect, let_be, just_do, while_so, return_with}
use Rattle.cml_check.specs.Syntax.{PlainStmt, stmts}
use Rattle.cml_check.specs.Syntax as syntax
use Rattle.cml_step.specs.declared.fault.Fault.TheVariants.{Kind, Deep, Stack}
use Rattle.cml_step.specs.Terms.{Program, call_of}
use Rattle.cml_step.specs.Asks.{PlainAsk, nothing, spawn, make_chan, make_swap, print, fresh_nack, sync, end, fault, a_value, a_nack, a_commit}
use Rattle.cml_step.specs.Slices.{PlainSlice, sliced, sliced_from}
use Rattle.cml_step.specs.Answers.{after_answer}

abbrev item : List Name → ℕ → List (PlainStmt Name) → PlainItem Name
item names arity body = record { name = []; names = names; arity = arity; body = stmts body }

abbrev named : Name → PlainExpr Name
named x = variable x

-- (fn add (a b) (return (+ a b)))
-- (fn give (c) (sync (send c 41)))
-- (fn main () (let c (chan)) (spawn give c) (let x (sync (wrap (recv c) add 1))) (print x))
abbrev addition : Program
addition =
    item (codes "a" ∷ codes "b" ∷ []) 2 (return_with (binary Plus (named (codes "a")) (named (codes "b"))) ∷ [])
    ∷ item (codes "c" ∷ []) 1 (just_do (act_on_one Sync (binary Send (named (codes "c")) (number (pos 41)))) ∷ [])
    ∷ item (codes "c" ∷ codes "x" ∷ []) 0
    (let_be (codes "c") (effect (act Chan)) ∷ just_do (syntax.spawn 1 (exprs (named (codes "c") ∷ [])))
    ∷ let_be (codes "x") (effect (act_on_one Sync (syntax.wrap (unary Recv (named (codes "c"))) 0 (exprs (number (pos 1) ∷ [])))))
    ∷ just_do (act_on_one Print (named (codes "x"))) ∷ [])
    ∷ []

abbrev main_0 : PlainSlice
main_0 = sliced addition 0 (call_of addition (function 2 (values [])) ∷ [])

abbrev main_1 : PlainSlice
main_1 = sliced addition 0 (after_answer addition (a_value (chan 0)) main_0.end)

abbrev main_2 : PlainSlice
main_2 = sliced addition 0 (after_answer addition (a_value (thread 1)) main_1.end)

abbrev give_0 : PlainSlice
give_0 = sliced addition 1 (call_of addition (function 1 (values (chan 0 ∷ []))) ∷ [])

abbrev give_1 : PlainSlice
give_1 = sliced addition 1 (after_answer addition (a_commit unit []) give_0.end)

abbrev main_3 : PlainSlice
main_3 = sliced addition 0 (after_answer addition (a_commit (int (pos 41)) (function 0 (values (int (pos 1) ∷ [])) ∷ [])) main_2.end)

abbrev main_4 : PlainSlice
main_4 = sliced addition 0 (after_answer addition (a_value unit) main_3.end)

abbrev told : PlainSlice → PlainAsk × ℕ
told s = (s.ask, s.steps)

pub first_asks_a_channel : told main_0 ≡ (make_chan, 1)
unfolding sliced_from
first_asks_a_channel = refl

pub then_spawns : told main_1 ≡ (spawn (function 1 (values (chan 0 ∷ []))), 1)
unfolding sliced_from
then_spawns = refl

pub then_synchronizes : told main_2 ≡ (sync (wrap (leaf (recv 0)) (function 0 (values (int (pos 1) ∷ [])))), 2)
unfolding sliced_from
then_synchronizes = refl

pub the_other_synchronizes : told give_0 ≡ (sync (leaf (send 0 (int (pos 41)))), 2)
unfolding sliced_from
the_other_synchronizes = refl

pub the_other_ends : told give_1 ≡ (end, 2)
unfolding sliced_from
the_other_ends = refl

pub prints_the_sum : told main_3 ≡ (print (int (pos 42)), 4)
unfolding sliced_from
prints_the_sum = refl

pub main_ends : told main_4 ≡ (end, 1)
unfolding sliced_from
main_ends = refl

-- (fn other (s) (let y (sync (swap s 2))) (print y))
-- (fn main () (let s (swapchan)) (spawn other s) (let x (sync (swap s 1))) (print x))
abbrev exchange : Program
exchange =
    item (codes "s" ∷ codes "y" ∷ []) 1
    (let_be (codes "y") (effect (act_on_one Sync (binary Swap (named (codes "s")) (number (pos 2))))) ∷ just_do (act_on_one Print (named (codes "y"))) ∷ [])
    ∷ item (codes "s" ∷ codes "x" ∷ []) 0
    (let_be (codes "s") (effect (act SwapChan)) ∷ just_do (syntax.spawn 0 (exprs (named (codes "s") ∷ [])))
    ∷ let_be (codes "x") (effect (act_on_one Sync (binary Swap (named (codes "s")) (number (pos 1))))) ∷ just_do (act_on_one Print (named (codes "x"))) ∷ [])
    ∷ []

abbrev swapper_0 : PlainSlice
swapper_0 = sliced exchange 0 (call_of exchange (function 1 (values [])) ∷ [])

abbrev swapper_1 : PlainSlice
swapper_1 = sliced exchange 0 (after_answer exchange (a_value (swapchan 0)) swapper_0.end)

abbrev swapper_2 : PlainSlice
swapper_2 = sliced exchange 0 (after_answer exchange (a_value (thread 1)) swapper_1.end)

abbrev other_0 : PlainSlice
other_0 = sliced exchange 1 (call_of exchange (function 0 (values (swapchan 0 ∷ []))) ∷ [])

pub asks_a_swap_channel : told swapper_0 ≡ (make_swap, 1)
unfolding sliced_from
asks_a_swap_channel = refl

pub hands_it_on : told swapper_1 ≡ (spawn (function 0 (values (swapchan 0 ∷ []))), 1)
unfolding sliced_from
hands_it_on = refl

pub offers_its_value : told swapper_2 ≡ (sync (leaf (swap 0 (int (pos 1)))), 2)
unfolding sliced_from
offers_its_value = refl

pub the_other_offers_too : told other_0 ≡ (sync (leaf (swap 0 (int (pos 2)))), 2)
unfolding sliced_from
the_other_offers_too = refl

pub main_gets_the_others : told (sliced exchange 0 (after_answer exchange (a_commit (int (pos 2)) []) swapper_2.end)) ≡ (print (int (pos 2)), 2)
unfolding sliced_from
main_gets_the_others = refl

pub the_other_gets_mains : told (sliced exchange 1 (after_answer exchange (a_commit (int (pos 1)) []) other_0.end)) ≡ (print (int (pos 1)), 2)
unfolding sliced_from
the_other_gets_mains = refl

-- a channel is no swap channel
pub swaps_on_no_channel : told (sliced exchange 1 (call_of exchange (function 0 (values (chan 0 ∷ []))) ∷ [])) ≡ (fault Kind, 1)
unfolding sliced_from
swaps_on_no_channel = refl

-- (fn main () (while true))
abbrev spinning : Program
spinning = item [] 0 (while_so (constant True) (stmts []) ∷ []) ∷ []

pub spins : told (sliced spinning 0 (call_of spinning (function 0 (values [])) ∷ [])) ≡ (nothing, 1000)
unfolding sliced_from
spins = refl

-- (fn g () (return (choose (guard g))))
-- (fn main () (sync (guard g)))
abbrev deep_guards : Program
deep_guards =
    item [] 0 (return_with (syntax.choose (exprs (syntax.guard 0 (exprs []) ∷ []))) ∷ []) ∷ item [] 0 (just_do (act_on_one Sync (syntax.guard 0 (exprs []))) ∷ []) ∷ []

pub grows_too_deep : told (sliced deep_guards 0 (call_of deep_guards (function 1 (values [])) ∷ [])) ≡ (fault Deep, 129)
unfolding sliced_from
grows_too_deep = refl

-- (fn f () (call f))
-- (fn main () (call f))
abbrev calls : Program
calls = item [] 0 (just_do (syntax.call 0 (exprs [])) ∷ []) ∷ item [] 0 (just_do (syntax.call 0 (exprs [])) ∷ []) ∷ []

abbrev calls_0 : PlainSlice
calls_0 = sliced calls 0 (call_of calls (function 1 (values [])) ∷ [])

pub goes_on_calling : told calls_0 ≡ (nothing, 1000)
unfolding sliced_from
goes_on_calling = refl

pub runs_out_of_stack : told (sliced calls 0 calls_0.end) ≡ (fault Stack, 24)
unfolding sliced_from
runs_out_of_stack = refl

-- (fn watch (n) (sync n) (print "cancelled"))
-- (fn branch (c n) (spawn watch n) (return (recv c)))
-- (fn main () (let c (chan)) (let x (sync (choose (withnack branch c) (always 7)))) (print x))
abbrev cancelled : Program
cancelled =
    item (codes "n" ∷ []) 1 (just_do (act_on_one Sync (named (codes "n"))) ∷ just_do (act_on_one Print (syntax.text (codes "cancelled"))) ∷ [])
    ∷ item (codes "c" ∷ codes "n" ∷ []) 2 (just_do (syntax.spawn 0 (exprs (named (codes "n") ∷ []))) ∷ return_with (unary Recv (named (codes "c"))) ∷ [])
    ∷ item (codes "c" ∷ codes "x" ∷ []) 0
    (let_be (codes "c") (effect (act Chan))
    ∷ let_be (codes "x") (effect (act_on_one Sync (syntax.choose (exprs (syntax.with_nack 1 (exprs (named (codes "c") ∷ [])) ∷ unary Always (number (pos 7)) ∷ [])))))
    ∷ just_do (act_on_one Print (named (codes "x"))) ∷ [])
    ∷ []

abbrev branch_0 : PlainSlice
branch_0 = sliced cancelled 0 (call_of cancelled (function 2 (values [])) ∷ [])

abbrev branch_1 : PlainSlice
branch_1 = sliced cancelled 0 (after_answer cancelled (a_value (chan 0)) branch_0.end)

abbrev branch_2 : PlainSlice
branch_2 = sliced cancelled 0 (after_answer cancelled (a_nack 0) branch_1.end)

abbrev branch_3 : PlainSlice
branch_3 = sliced cancelled 0 (after_answer cancelled (a_value (thread 1)) branch_2.end)

pub asks_for_a_nack : told branch_1 ≡ (fresh_nack, 2)
unfolding sliced_from
asks_for_a_nack = refl

pub gives_the_nack_last : told branch_2 ≡ (spawn (function 0 (values (event (event_of.leaf (nack 0)) ∷ []))), 1)
unfolding sliced_from
gives_the_nack_last = refl

pub synchronizes_on_the_branch : told branch_3
    ≡ (sync (choose (groups (scope 0 (leaf (recv 0)) ∷ leaf (always (int (pos 7))) ∷ []))), 2)
unfolding sliced_from
synchronizes_on_the_branch = refl
