use Rattle.std.proofs.Common.{◌∙◌, ap}
use Rattle.std.specs.Prelude.{slice_get, unwrap_or}
use Rattle.cml_verify.proofs.Showing.{counted}
use Rattle.cml_verify.proofs.read.message_count.Goals as goal

pub returns : goal.returns
returns c = c.unwrap_or.ensures ∙ ap (λ o. unwrap_or o 0) c.port_len.ensures ∙ counted (slice_get c.args.book.now.ports c.args.port.0)
