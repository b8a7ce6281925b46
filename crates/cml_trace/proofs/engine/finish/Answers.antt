use Rattle.cml_trace.proofs.EngineLemmas.{part_written}
use Rattle.cml_trace.proofs.engine.finish.Goals as goal

pub returns-clause-err : goal.returns-clause-err
returns-clause-err g c = part_written _ c.args.page c.in-Err.ensures.err.0 c.in-Err.ensures.err.1
