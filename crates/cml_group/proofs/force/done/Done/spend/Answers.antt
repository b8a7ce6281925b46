use Rattle.std.proofs.Common.{arith, ap, ◌∙◌}
use Rattle.std.proofs.lemmas.Bool.Decides.{nat_tests}
use Rattle.std.specs.List.{flat_map}
use Rattle.cml_value.specs.Group.{groups, groups_depth, groups_nodes}
use Rattle.cml_group.proofs.Spending.{pieces_depth, pieces_nodes}
use Rattle.cml_group.proofs.force.done.Done.spend.Goals as goal

pub returns-in_err-left-clause-enough : goal.returns-in_err-left-clause-enough
returns-in_err-left-clause-enough c =
    let piece = c.deref-in-loop-piece.ensures.value ∙ ap (λ v. v.items) c.deref.ensures in
    let all = ap (flat_map (λ p. p.value.items)) c.deref-piece-items.ensures.value ∙ c.self.view_is in
    let d = pieces_depth (λ p. p.value.items) c.deref-piece-items.result.now c.loop-piece.piece-index c.piece-item.result (omega arith) c.piece-item.is in
    let n = pieces_nodes (λ p. p.value.items) c.deref-piece-items.result.now c.loop-piece.piece-index c.piece-item.result (omega arith) c.piece-item.is in
    let dp = ap (λ l. groups_depth (groups l)) piece in
    let np = ap (λ l. groups_nodes (groups l)) piece in
    let da = ap (λ l. groups_depth (groups l)) all in
    let na = ap (λ l. groups_nodes (groups l)) all in
    grind (arith, nat_tests)

pub loop-piece-preserved : goal.loop-piece-preserved
loop-piece-preserved c =
    let piece = c.deref-in-loop-piece.ensures.value ∙ ap (λ v. v.items) c.deref.ensures in
    let d = pieces_depth (λ p. p.value.items) c.deref-piece-items.result.now c.loop-piece.piece-index c.piece-item.result (omega arith) c.piece-item.is in
    let n = pieces_nodes (λ p. p.value.items) c.deref-piece-items.result.now c.loop-piece.piece-index c.piece-item.result (omega arith) c.piece-item.is in
    let dp = ap (λ l. groups_depth (groups l)) piece in
    let np = ap (λ l. groups_nodes (groups l)) piece in
    let l = c.in_ok-left.ensures.left in
    let i = c.loop-piece.invariant in
    (grind (arith, nat_tests), grind (arith, nat_tests))
