use Rattle.std.proofs.Common.{◌≡◌, ◌<◌, ◌≤◌, ◌∙◌, length, get_or, nat_lt, ap, sym, arith}
use Rattle.cml_index.specs.Numbers.{PlainNumbers, has}
use Rattle.cml_index.proofs.InPlace.{in_by_place, not_in, get_default}
use Rattle.cml_index.proofs.numbers.Numbers.has.Goals as goal

pub returns-then-number-len-clause-value : goal.returns-then-number-len-clause-value
returns-then-number-len-clause-value c =
    let s = c.self.inside in
    let n = c.args.number in
    let high : length s.order.items ≤ n = omega (arith, c.self.invariant.0.long, c.self.inside.places.ok.0, c.len.ensures, c.if-number-len.true) in
    sym (sym (ap (λ (v : PlainNumbers). has v n) c.self.view_is) ∙ not_in s.order.items s.places.items s.count n c.self.invariant.0 c.self.invariant.1 high)

pub returns-clause-value : goal.returns-clause-value
returns-clause-value c =
    let s = c.self.inside in
    let n = c.args.number in
    let n_in : n < length s.order.items = omega (arith, c.self.invariant.0.long, c.self.inside.places.ok.0, c.len.ensures, c.if-number-len.false) in
    let place : c.index.result.now ≡ get_or s.places.items n 0 = c.index.ensures ∙ get_default s.places.items n c.index.result.now 0 (omega (arith, n_in, c.self.invariant.0.long)) in
    ap (λ p. nat_lt p s.count) place ∙ sym (in_by_place s.order.items s.places.items s.count n c.self.invariant.0 c.self.invariant.1 n_in) ∙ ap (λ (v : PlainNumbers). has v n) c.self.view_is

pub returns-clause-placed : goal.returns-clause-placed
returns-clause-placed c on =
    let s = c.self.inside in
    let size : length s.order.items ≡ c.args.self.now.size = ap (λ (v : PlainNumbers). v.size) c.self.view_is in
    omega (arith, size, c.self.invariant.0.long, c.self.inside.places.ok.0, c.len.ensures, c.if-number-len.false)
