use Rattle.std.proofs.Common.{◌∙◌, ap}
use Rattle.std.specs.Option.{option_map}
use Rattle.std.specs.Str.{bytes_eq}
use Rattle.cml_explain.specs.Names.{declared_name}
use Rattle.cml_explain.specs.Views.{plain_declared}
use Rattle.cml_explain.proofs.OptionLemmas.{find_seen}
use Rattle.cml_explain.proofs.lets.declared_named.Goals as goal

pub returns : goal.returns
returns c = ap (option_map plain_declared) c.first_named.ensures ∙ find_seen plain_declared (λ d. bytes_eq (declared_name d) c.args.name.now) c.args.found.now
