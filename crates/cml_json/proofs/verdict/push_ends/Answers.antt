use Rattle.std.proofs.Common.{◌++◌, arith, codes, get_or, refl}
use Rattle.cml_json.specs.Verdicts.{numbered_json}
use Rattle.cml_json.proofs.ListLemmas.{list_next}
use Rattle.cml_json.proofs.verdict.push_ends.Goals as goal

pub loop-place-preserved : goal.loop-place-preserved
loop-place-preserved c =
    list_next (numbered_json c.args.forms.now c.args.servers.now c.args.ends.now) (c.args.text.now.items ++ codes "[") c.loop-place.text.items c.push_comma.new.text.items
    c.push_some_end.new.text.items c.args.order.now c.loop-place.place 0 (get_or c.args.order.now c.loop-place.place 0) (omega arith) refl c.loop-place.invariant
    c.in_ok-push_comma.ensures c.in_ok-push_some_end.ensures
