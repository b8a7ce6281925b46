use Rattle.std.proofs.Common.{◌≡◌, ◌+◌, drop, length, ap, ◌∙◌, arith}
use Rattle.cml_check.specs.Sizes.{stmt_count}
use Rattle.cml_check.specs.Syntax.{stmts}
use Rattle.cml_check.specs.Layout.{entry}
use Rattle.cml_check.proofs.Laid.{laid_next}
use Rattle.cml_check.proofs.lay.+lay.Goals as goal

pub lay_block-loop-at-preserved : goal.lay_block-loop-at-preserved
lay_block-loop-at-preserved t c =
    let old = c.loop-at.code.items in
    let xs = c.block.inside.items.items in
    let s = c.index-stmt.result.now in
    let at = c.loop-at.at in
    let next = c.args.next in
    let n : c.in_ok-end.end ≡ length old + stmt_count s = omega (arith, c.len.ensures, c.in_ok-end.ensures, c.in_ok-count.ensures, c.loop-at.code.ok.0) in
    let go : c.start-after.result ≡ entry (length old + stmt_count s) (stmts (drop (at + 1) xs)) next =
    c.start-after.ensures
    ∙ ap (λ ys. entry c.in_ok-end.end (stmts (drop (at + 1) ys)) next) c.as_slice.ensures.value
    ∙ ap (λ k. entry k (stmts (drop (at + 1) xs)) next) n in
    laid_next _ old c.lay_stmt.new.code.items xs s at next c.start-after.result (omega arith) c.index-stmt.ensures go c.in_ok-lay_stmt.ensures c.loop-at.invariant
