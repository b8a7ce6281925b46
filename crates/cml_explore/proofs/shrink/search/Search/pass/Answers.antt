use Rattle.std.proofs.Common.{◌≡◌, ◌+◌, ◌-◌, ◌≤◌, length, ap, arith}
use Rattle.cml_explore.specs.Searching.{PlainSearch}
use Rattle.cml_explore.proofs.SearchLemmas.{pass_goes, pass_ends}
use Rattle.cml_explore.proofs.shrink.search.Search.pass.Goals as goal

pub loop-done-preserved : goal.loop-done-preserved
loop-done-preserved c =
    let number = c.len-count.result - 1 - c.loop-done.done in
    let at : number + 1 + c.loop-done.done ≡ length c.args.self.now.items =
    omega (arith, c.len-count.ensures, c.self.inside.items.ok.0, ap (λ (s : PlainSearch). length s.items) c.self.view_is) in
    pass_goes c.args.goal.now c.args.self.now c.loop-done.self c.cut_if_there.new.self c.loop-done.changed c.in_ok-came.came c.either-changed.result c.loop-done.done number
    c.either-changed.ensures at c.loop-done.invariant c.in_ok-came.ensures

pub returns : goal.returns
returns c =
    let all : length c.args.self.now.items ≤ c.loop-done.done =
    omega (arith, c.len-count.ensures, c.self.inside.items.ok.0, ap (λ (s : PlainSearch). length s.items) c.self.view_is) in
    pass_ends c.args.goal.now c.args.self.now c.loop-done.self c.loop-done.changed c.loop-done.done all c.loop-done.invariant
