use Rattle.std.proofs.Common.{◌++◌, arith, codes}
use Rattle.cml_json.specs.Runs.{event_json}
use Rattle.cml_json.proofs.ListLemmas.{list_next}
use Rattle.cml_json.proofs.event.push_events.Goals as goal

pub loop-place-preserved : goal.loop-place-preserved
loop-place-preserved c =
    list_next (event_json c.args.forms.now) (c.args.text.now.items ++ codes "[") c.loop-place.text.items c.push_comma.new.text.items c.push_event.new.text.items c.args.events.now c.loop-place.place
    c.index-events-place.result c.index-events-place.result (omega arith) c.index-events-place.is c.loop-place.invariant c.in_ok-push_comma.ensures c.in_ok-push_event.ensures
