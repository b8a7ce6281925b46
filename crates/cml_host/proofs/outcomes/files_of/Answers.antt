use Rattle.std.proofs.Common.{arith}
use Rattle.cml_host.proofs.OutcomeLemmas.{outcome_next}
use Rattle.cml_host.proofs.outcomes.files_of.Goals as goal

pub loop-index-preserved : goal.loop-index-preserved
loop-index-preserved c =
    outcome_next c.args.start.now c.args.program.now c.args.told.now c.loop-index.index c.index-told-index.result c.as_slice-items.result.now c.loop-index.files.items c.push.new.self.items
    c.in_ok-file.file (omega arith) c.as_slice-items.ensures.value c.loop-index.invariant c.in_ok-file.ensures c.in_ok-push.ensures.items
