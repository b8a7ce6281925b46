use Rattle.std.proofs.Common.{◌∙◌, ap}
use Rattle.cml_stream.specs.Counts.{counted}
use Rattle.cml_host.proofs.SayLemmas.{start_taken}
use Rattle.cml_host.proofs.file.save_to.Goals as goal

pub returns-in-Err-clause-err : goal.returns-in-Err-clause-err
returns-in-Err-clause-err g c = (
  start_taken _ c.args.bytes.now c.in-Err.ensures.err.0 c.in-Err.ensures.err.1,
  c.in-Err.ensures.failed ∙ ap counted c.requires.fresh,
)
