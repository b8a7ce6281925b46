use Rattle.std.proofs.Common.{◌∙◌, ap}
use Rattle.std.specs.Option.{option_map}
use Rattle.cml_explain.specs.Names.{is_next, known_name}
use Rattle.cml_explain.specs.Views.{plain_declared}
use Rattle.cml_explain.proofs.OptionLemmas.{find_seen}
use Rattle.cml_explain.proofs.lets.known_next.Goals as goal

pub returns : goal.returns
returns c = ap (option_map plain_declared) c.first_next.ensures ∙ find_seen plain_declared (λ d. is_next c.args.name.now (known_name c.args.at d)) c.args.found.now
