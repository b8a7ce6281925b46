use Rattle.std.proofs.Common.{◌≡◌, ◌<◌, ◌≤◌, ◌∙◌, length, get_or, ap, sym, refl, arith}
use Rattle.cml_index.specs.Numbers.{PlainNumbers, has}
use Rattle.cml_index.proofs.InPlace.{put_number, in_by_place, get_default, moved_is, is_below}
use Rattle.cml_index.proofs.numbers.Numbers.put.Goals as goal

pub returns-then-place-self-clause-here : goal.returns-then-place-self-clause-here
returns-then-place-self-clause-here c =
    let s = c.self.inside in
    let n = c.args.number in
    let size : length s.order.items ≡ c.args.self.now.size = ap (λ (v : PlainNumbers). v.size) c.self.view_is in
    let n_in : n < length s.order.items = omega (arith, size, c.requires) in
    let place : c.index.result.now ≡ get_or s.places.items n 0 = c.index.ensures ∙ get_default s.places.items n c.index.result.now 0 (omega (arith, n_in, c.self.invariant.0.long)) in
    let high : s.count ≤ get_or s.places.items n 0 = omega (arith, place, c.if-place-self.true) in
    (put_number s.order.items s.places.items c.exchange.new.order.items c.exchange.new.places.items s.count n n
    c.self.invariant.0 c.exchange.ensures.placed
    (moved_is s.order.items c.exchange.new.order.items c.index.result.now (get_or s.places.items n 0) s.count
    c.exchange.ensures.order place) n_in high).0 refl

pub returns-then-place-self-clause-elsewhere : goal.returns-then-place-self-clause-elsewhere
returns-then-place-self-clause-elsewhere c m apart =
    let s = c.self.inside in
    let n = c.args.number in
    let size : length s.order.items ≡ c.args.self.now.size = ap (λ (v : PlainNumbers). v.size) c.self.view_is in
    let n_in : n < length s.order.items = omega (arith, size, c.requires) in
    let place : c.index.result.now ≡ get_or s.places.items n 0 = c.index.ensures ∙ get_default s.places.items n c.index.result.now 0 (omega (arith, n_in, c.self.invariant.0.long)) in
    let high : s.count ≤ get_or s.places.items n 0 = omega (arith, place, c.if-place-self.true) in
    (put_number s.order.items s.places.items c.exchange.new.order.items c.exchange.new.places.items s.count n m
    c.self.invariant.0 c.exchange.ensures.placed
    (moved_is s.order.items c.exchange.new.order.items c.index.result.now (get_or s.places.items n 0) s.count
    c.exchange.ensures.order place) n_in high).1 apart
    ∙ ap (λ (v : PlainNumbers). has v m) c.self.view_is

pub returns-else-place-self-clause-here : goal.returns-else-place-self-clause-here
returns-else-place-self-clause-here c =
    let s = c.self.inside in
    let n = c.args.number in
    let size : length s.order.items ≡ c.args.self.now.size = ap (λ (v : PlainNumbers). v.size) c.self.view_is in
    let n_in : n < length s.order.items = omega (arith, size, c.requires) in
    let place : c.index.result.now ≡ get_or s.places.items n 0 = c.index.ensures ∙ get_default s.places.items n c.index.result.now 0 (omega (arith, n_in, c.self.invariant.0.long)) in
    sym (ap (λ (v : PlainNumbers). has v n) c.self.view_is)
    ∙ in_by_place s.order.items s.places.items s.count n c.self.invariant.0 c.self.invariant.1 n_in
    ∙ is_below (get_or s.places.items n 0) s.count (omega (arith, place, c.if-place-self.false))
