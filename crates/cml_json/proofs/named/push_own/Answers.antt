use Rattle.std.proofs.Common.{◌++◌, ◌∙◌, ap, map, sym}
use Rattle.std.proofs.lemmas.Result.{on_ok_weaker}
use Rattle.cml_step.proofs.ForceLemmas.{list_values}
use Rattle.cml_step.specs.Terms.{list_of}
use Rattle.cml_json.specs.Json.{array}
use Rattle.cml_json.specs.Runs.{value_json}
use Rattle.cml_json.proofs.named.push_own.Goals as goal

pub returns : goal.returns
returns c =
    let same = sym (list_values c.args-values.result.now) ∙ ap list_of c.args-values.ensures in
    on_ok_weaker c.push_values.result (λ is. is ∙ ap (λ vs. c.args.text.now.items ++ array (map value_json vs)) same) c.push_values.ensures
