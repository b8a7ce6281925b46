use Rattle.std.proofs.Common.{◌∙◌, ap, arith}
use Rattle.cml_judge.specs.Finishes.{are_some}
use Rattle.cml_judge.proofs.FinishLemmas.{filled_here, none_filled, none_at_all}
use Rattle.cml_judge.proofs.finish.some_mailbox.Goals as goal

pub returns-then-has : goal.returns-then-has
returns-then-has c =
    filled_here c.args.book.now.mailboxes c.loop-mailbox.mailbox _ (omega (arith, c.next_objects-mailbox-end.ensures.mailbox))
    (c.are_some-has.ensures ∙ ap are_some c.mailbox_len.ensures) c.if-has.true

pub loop-mailbox-preserved : goal.loop-mailbox-preserved
loop-mailbox-preserved c =
    none_filled c.args.book.now.mailboxes c.loop-mailbox.mailbox _ (omega (arith, c.next_objects-mailbox-end.ensures.mailbox))
    (c.are_some-has.ensures ∙ ap are_some c.mailbox_len.ensures) c.if-has.false c.loop-mailbox.invariant

pub returns : goal.returns
returns c = none_at_all c.args.book.now.mailboxes c.loop-mailbox.mailbox (omega (arith, c.next_objects-mailbox-end.ensures.mailbox)) c.loop-mailbox.invariant
