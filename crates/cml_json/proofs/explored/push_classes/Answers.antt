use Rattle.std.proofs.Common.{◌++◌, arith, codes}
use Rattle.cml_json.specs.Explored.{class_json}
use Rattle.cml_json.proofs.ListLemmas.{list_next}
use Rattle.cml_json.proofs.explored.push_classes.Goals as goal

pub loop-place-preserved : goal.loop-place-preserved
loop-place-preserved c =
    list_next (class_json c.args.forms.now c.args.properties.now c.args.servers.now) (c.args.text.now.items ++ codes "[") c.loop-place.text.items
    c.push_comma.new.text.items c.push_class.new.text.items c.args.classes.now c.loop-place.place
    c.index-classes-place.result c.index-classes-place.result (omega arith) c.index-classes-place.is c.loop-place.invariant c.in_ok-push_comma.ensures c.in_ok-push_class.ensures
