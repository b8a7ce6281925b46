use Rattle.std.proofs.Common.{◌-◌, take, drop, ap, arith, ◌∙◌}
use Rattle.std.proofs.lemmas.Result.{IfOk-weaker}
use Rattle.cml_scan.specs.World.{PlainWorld}
use Rattle.cml_scan.specs.Scan.{scan}
use Rattle.cml_stepper.specs.Replies.{IsListed, Lists}
use Rattle.cml_stepper.proofs.ReplyLemmas.{lists_by, lists_zero}
use Rattle.cml_stepper.proofs.reply.list.Goals as goal

pub returns-then-number-eq0 : goal.returns-then-number-eq0
returns-then-number-eq0 c = lists_zero c.args.hub.now.course c.args.number (omega arith)

pub returns : goal.returns
returns c =
    let course = c.args.hub.now.course in
    let n = c.args.number in
    let first = c.as_slice.result.now in
    let are = c.as_slice.ensures.value ∙ (c.in_ok-rows.ensures ∙ ap (λ (w : PlainWorld). take 21 (drop (n - 1) (scan w))) c.book.ensures) in
    IfOk-weaker c.list_of.result (IsListed course n first) (Lists course n) (λ s is. lists_by course n first s (omega arith) are is) c.list_of.ensures
