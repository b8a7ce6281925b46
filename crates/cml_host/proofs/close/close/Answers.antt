use Rattle.std.proofs.Common.{rules}
use Rattle.cml_host.specs.Closed.{plain_asked}
use Rattle.cml_host.specs.declared.close.Closing.{Closing}
use Rattle.cml_host.proofs.ClosedLemmas.{closing_so}
use Rattle.cml_host.proofs.close.close.Goals as goal

pub returns : goal.returns
returns c =
    let closing : Closing = record { status = c.closing_status-status.result; words = c.in_ok-words.words } in
    closing_so (plain_asked c.args.asked.now) c.args.hub.now c.as_slice.result.now c.in_ok-judged.judged.items c.as_slice-2.result.now c.are_all_kept.result closing
    c.as_slice.ensures.value c.in_ok-judged.ensures c.as_slice-2.ensures.value c.are_all_kept.ensures c.closing_status-status.ensures c.in_ok-words.ensures
