use Rattle.std.proofs.Common.{◌∙◌}
use Rattle.cml_explore.proofs.ExploreLemmas.{first_so}
use Rattle.cml_explore.proofs.explored.first_output.Goals as goal

pub returns : goal.returns
returns c =
    first_so c.from_slice-output.result c.args.program.now c.args.asked.now c.of-order.result c.in_ok-hub.hub c.as_bytes.result.now
    c.of-order.ensures c.in_ok-hub.ensures (c.as_bytes.ensures.value ∙ c.out.ensures) c.from_slice-output.ensures.items
