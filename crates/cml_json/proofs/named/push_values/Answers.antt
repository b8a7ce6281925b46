use Rattle.std.proofs.Common.{◌++◌, arith, codes}
use Rattle.cml_json.specs.Runs.{value_json}
use Rattle.cml_json.proofs.ListLemmas.{list_next}
use Rattle.cml_json.proofs.named.push_values.Goals as goal

pub loop-place-preserved : goal.loop-place-preserved
loop-place-preserved c =
    list_next value_json (c.args.text.now.items ++ codes "[") c.loop-place.text.items c.push_comma.new.text.items c.push_value.new.text.items c.args.values.now c.loop-place.place
    c.index-values-place.result c.index-values-place.result (omega arith) c.index-values-place.is c.loop-place.invariant c.in_ok-push_comma.ensures c.in_ok-push_value.ensures
