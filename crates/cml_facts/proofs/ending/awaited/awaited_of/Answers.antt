use Rattle.std.proofs.Common.{◌≡◌, length, arith}
use Rattle.cml_facts.proofs.WaitLemmas.{waited_by}
use Rattle.cml_step.specs.Calls.{text_of}
use Rattle.cml_hub.specs.Deeds.{origins}
use Rattle.cml_facts.specs.Takes.{taker_in}
use Rattle.cml_facts.proofs.ending.awaited.awaited_of.Goals as goal

pub returns : goal.returns
returns c =
    let h = c.args.hub.now.course in
    let many : c.len.result ≡ length c.in_ok-bases.bases.items = omega (arith, c.in_ok-bases.bases.ok.0) in
    waited_by h.world (origins (text_of h.program) h.items) (taker_in c.args.takers.now) c.args.group.now _ _ _ _ _
    c.in_ok-bases.ensures c.as_slice.ensures.value c.first_of.ensures c.in_ok-events.ensures many
