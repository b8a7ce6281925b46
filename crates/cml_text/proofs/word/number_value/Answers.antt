use Rattle.std.proofs.Common.{◌∙◌}
use Rattle.cml_text.proofs.WordLemmas.{number-parse}
use Rattle.cml_text.proofs.word.number_value.Goals as goal

pub returns : goal.returns
returns c = c.ok.ensures.value ∙ number-parse c.args.token.now c.parse.result c.requires c.parse.ensures.value.0
