use Rattle.std.proofs.Common.{◌≡◌, ◌<◌, ◌≤◌, ◌+◌, ◌-◌, ◌∙◌, length, get_or, take, nat_eq, ap, sym, refl, arith}
use Rattle.std.specs.List.{list_any}
use Rattle.cml_index.specs.Numbers.{PlainNumbers, has}
use Rattle.cml_index.proofs.InPlace.{cut_number, in_by_place, not_in, get_default, moved_is, is_above}
use Rattle.cml_index.proofs.numbers.Numbers.cut.Goals as goal

pub returns-then-number-len-clause-here : goal.returns-then-number-len-clause-here
returns-then-number-len-clause-here c =
    let s = c.self.inside in
    let n = c.args.number in
    let high : length s.order.items ≤ n = omega (arith, c.self.invariant.0.long, c.self.inside.places.ok.0, c.len.ensures, c.if-number-len.true) in
    sym (ap (λ (v : PlainNumbers). has v n) c.self.view_is) ∙ not_in s.order.items s.places.items s.count n c.self.invariant.0 c.self.invariant.1 high

pub returns-then-place-self-clause-here : goal.returns-then-place-self-clause-here
returns-then-place-self-clause-here c =
    let s = c.self.inside in
    let n = c.args.number in
    let n_in : n < length s.order.items = omega (arith, c.self.invariant.0.long, c.self.inside.places.ok.0, c.len.ensures, c.if-number-len.false) in
    let place : c.index.result.now ≡ get_or s.places.items n 0 = c.index.ensures ∙ get_default s.places.items n c.index.result.now 0 (omega (arith, n_in, c.self.invariant.0.long)) in
    (cut_number s.order.items s.places.items c.exchange.new.order.items c.exchange.new.places.items (s.count - 1) n n
    c.self.invariant.0 c.exchange.ensures.placed
    (moved_is s.order.items c.exchange.new.order.items c.index.result.now (get_or s.places.items n 0) (s.count - 1)
    c.exchange.ensures.order place) n_in (omega (arith, place, c.if-place-self.true))
    (omega (arith, c.self.invariant.1, c.if-place-self.true))).0 refl

pub returns-then-place-self-clause-elsewhere : goal.returns-then-place-self-clause-elsewhere
returns-then-place-self-clause-elsewhere c m apart =
    let s = c.self.inside in
    let n = c.args.number in
    let n_in : n < length s.order.items = omega (arith, c.self.invariant.0.long, c.self.inside.places.ok.0, c.len.ensures, c.if-number-len.false) in
    let place : c.index.result.now ≡ get_or s.places.items n 0 = c.index.ensures ∙ get_default s.places.items n c.index.result.now 0 (omega (arith, n_in, c.self.invariant.0.long)) in
    let whole : (s.count - 1) + 1 ≡ s.count = omega (arith, c.if-place-self.true) in
    (cut_number s.order.items s.places.items c.exchange.new.order.items c.exchange.new.places.items (s.count - 1) n m
    c.self.invariant.0 c.exchange.ensures.placed
    (moved_is s.order.items c.exchange.new.order.items c.index.result.now (get_or s.places.items n 0) (s.count - 1)
    c.exchange.ensures.order place) n_in (omega (arith, place, c.if-place-self.true))
    (omega (arith, c.self.invariant.1, c.if-place-self.true))).1 apart
    ∙ ap (λ k. list_any (λ x. nat_eq m x) (take k s.order.items)) whole ∙ ap (λ (v : PlainNumbers). has v m) c.self.view_is

pub returns-else-place-self-clause-here : goal.returns-else-place-self-clause-here
returns-else-place-self-clause-here c =
    let s = c.self.inside in
    let n = c.args.number in
    let n_in : n < length s.order.items = omega (arith, c.self.invariant.0.long, c.self.inside.places.ok.0, c.len.ensures, c.if-number-len.false) in
    let place : c.index.result.now ≡ get_or s.places.items n 0 = c.index.ensures ∙ get_default s.places.items n c.index.result.now 0 (omega (arith, n_in, c.self.invariant.0.long)) in
    sym (ap (λ (v : PlainNumbers). has v n) c.self.view_is)
    ∙ in_by_place s.order.items s.places.items s.count n c.self.invariant.0 c.self.invariant.1 n_in
    ∙ is_above (get_or s.places.items n 0) s.count (omega (arith, place, c.if-place-self.false))
