use Rattle.std.proofs.Common.{length}
use Rattle.cml_hub.proofs.MarkLemmas.{empty, not_empty}
use Rattle.cml_stepper.proofs.ReplyLemmas.{none_listed, some_listed}
use Rattle.cml_stepper.proofs.reply.list_of.Goals as goal

pub returns-then-is_empty : goal.returns-then-is_empty
returns-then-is_empty c =
    let rows = c.args.rows.now in
    none_listed c.args.hub.now.course c.args.number rows (empty (length rows) c.is_empty.result c.is_empty.ensures c.if-is_empty.true)

pub returns : goal.returns
returns c =
    let rows = c.args.rows.now in
    some_listed c.args.hub.now.course c.args.number rows c.in_ok-listed.listed
    (not_empty (length rows) c.is_empty.result c.is_empty.ensures c.if-is_empty.false) c.in_ok-listed.ensures
