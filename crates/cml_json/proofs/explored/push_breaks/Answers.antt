use Rattle.std.proofs.Common.{◌++◌, arith, codes}
use Rattle.cml_json.specs.Explored.{break_json}
use Rattle.cml_json.proofs.ListLemmas.{list_next}
use Rattle.cml_json.proofs.explored.push_breaks.Goals as goal

pub loop-place-preserved : goal.loop-place-preserved
loop-place-preserved c =
    list_next (break_json c.args.forms.now c.args.properties.now) (c.args.text.now.items ++ codes "[") c.loop-place.text.items
    c.push_comma.new.text.items c.push_break.new.text.items c.args.breaks.now c.loop-place.place
    c.index-breaks-place.result c.index-breaks-place.result (omega arith) c.index-breaks-place.is c.loop-place.invariant c.in_ok-push_comma.ensures c.in_ok-push_break.ensures
