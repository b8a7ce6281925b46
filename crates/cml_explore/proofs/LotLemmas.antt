-- The threads that run, and what is next by lot.
use Rattle.std.proofs.Common.{◌≡◌, ◌≢◌, ℕ, suc, ◌+◌, ◌<◌, ◌≤◌, false, if◌then◌else◌, List, ◌++◌, length, get_or, drop, Some, None, sym, ap, subst, ◌∙◌, arith, append_assoc, append-nil, add-one}
use Rattle.std.specs.Prelude.{◌==◌, slice_get, option_map}
use Rattle.std.proofs.lemmas.Bool.Decides.{nat_tests}
use Rattle.std.proofs.lemmas.List.{at_drop_more, drop_all}
use Rattle.std.proofs.lemmas.Option.{slice_get-get_or}
use Rattle.cml_value.specs.declared.number.Tid.{Tid}
use Rattle.cml_scan.specs.World.{running, PlainThread, PlainWorld}
use Rattle.cml_scan.specs.Scan.{scan}
use Rattle.cml_schedule.specs.declared.item.Item.TheVariants.{Clock}
use Rattle.cml_hub.specs.Runs.{next_alarm}
use Rattle.cml_hub.specs.Playing.{Rules, picked}
use Rattle.cml_explore.specs.Lots.{ready_of, ready_from, row_choices, row_by_lot, item_by_lot, next_by_lot}

-- one thread more was looked at; the book has the threads of this world
pub ready_more : {b w : PlainWorld} → b ≡ w → (i : ℕ) (o p whole : List Tid) → i < length b.threads
    → ((t : PlainThread) → slice_get w.threads i ≡ Some t → p ≡ o ++ ready_of i t)
    → o ++ ready_from i (drop i w.threads) ≡ whole → p ++ ready_from (i + 1) (drop (i + 1) w.threads) ≡ whole
ready_more {b} {w} same i o p whole within is so_far =
    let h : i < length w.threads = subst (λ (v : PlainWorld). i < length v.threads) same within in
    let t = get_or w.threads i running in
    let rest = ready_from (suc i) (drop (i + 1) w.threads) in
    let next : ready_from i (drop i w.threads) ≡ ready_of i t ++ rest = at_drop_more (ready_from i) w.threads i running h in
    ap (λ k. p ++ ready_from k (drop (i + 1) w.threads)) (add-one i)
    ∙ (ap (λ x. x ++ rest) (is t (slice_get-get_or w.threads i running h))
    ∙ (append_assoc o (ready_of i t) rest ∙ (ap (λ x. o ++ x) (sym next) ∙ so_far)))

-- all threads were looked at
pub ready_all : {b w : PlainWorld} → b ≡ w → (i : ℕ) (o whole : List Tid) → length b.threads ≤ i → o ++ ready_from i (drop i w.threads) ≡ whole → o ≡ whole
ready_all {b} {w} same i o whole past so_far =
    let h : length w.threads ≤ i = subst (λ (v : PlainWorld). length v.threads ≤ i) same past in
    sym (append-nil o) ∙ (ap (λ x. o ++ x) (sym (ap (ready_from i) (drop_all i w.threads h))) ∙ so_far)

-- this number was next_by_lot
pub lot_moves : {C : Type 0} (rules : Rules C) (w : PlainWorld) (state : C) (ready : List Tid) (a b n : ℕ)
    → ready ≡ ready_from 0 w.threads → a ≡ length ready → b ≡ row_choices (scan w) → n ≡ a + b → n ≢ 0
    → next_by_lot rules w state ≡ item_by_lot rules w (rules.next state) (slice_get ready (rules.picks state n))
lot_moves rules w state ready a b n is long rows sum some =
    let count : length (ready_from 0 w.threads) + row_choices (scan w) ≡ n = omega (arith, ap length is) in
    let test : (n == 0) ≡ false = grind (arith, nat_tests) in
    ap (λ k. if k == 0 then (option_map Clock (next_alarm w), state) else item_by_lot rules w (rules.next state) (slice_get (ready_from 0 w.threads) (rules.picks state k))) count
    ∙ (ap (λ t. if t then (option_map Clock (next_alarm w), state) else item_by_lot rules w (rules.next state) (slice_get (ready_from 0 w.threads) (rules.picks state n))) test
    ∙ ap (λ l. item_by_lot rules w (rules.next state) (slice_get l (rules.picks state n))) (sym is))

-- the lot fell on a row
pub lot_row : {C : Type 0} (rules : Rules C) (w : PlainWorld) (state spent_ : C) (ready : List Tid) (a b n k : ℕ)
    → ready ≡ ready_from 0 w.threads → a ≡ length ready → b ≡ row_choices (scan w) → n ≡ a + b → n ≢ 0
    → k ≡ rules.picks state n → spent_ ≡ rules.next state → None ≡ slice_get ready k → next_by_lot rules w state ≡ row_by_lot rules w spent_ (picked rules spent_ (scan w))
lot_row rules w state spent_ ready a b n k is long rows sum some at next none =
    lot_moves rules w state ready a b n is long rows sum some
    ∙ (ap (λ i. item_by_lot rules w (rules.next state) (slice_get ready i)) (sym at)
    ∙ (ap (item_by_lot rules w (rules.next state)) (sym none) ∙ ap (λ s. item_by_lot rules w s None) (sym next)))
