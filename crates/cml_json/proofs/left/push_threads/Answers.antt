use Rattle.std.proofs.Common.{◌++◌, arith, codes}
use Rattle.cml_json.specs.Runs.{left_json}
use Rattle.cml_json.proofs.ListLemmas.{list_next}
use Rattle.cml_json.proofs.left.push_threads.Goals as goal

pub loop-place-preserved : goal.loop-place-preserved
loop-place-preserved c =
    list_next (left_json c.args.forms.now c.args.servers.now) (c.args.text.now.items ++ codes "[") c.loop-place.text.items
    c.push_comma.new.text.items c.push_left.new.text.items c.args.threads.now c.loop-place.place
    c.index-threads-place.result c.index-threads-place.result (omega arith) c.index-threads-place.is c.loop-place.invariant c.in_ok-push_comma.ensures c.in_ok-push_left.ensures
