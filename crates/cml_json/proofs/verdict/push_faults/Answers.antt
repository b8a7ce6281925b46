use Rattle.std.proofs.Common.{◌++◌, arith, codes}
use Rattle.cml_json.specs.Verdicts.{fault_json}
use Rattle.cml_json.proofs.ListLemmas.{list_next}
use Rattle.cml_json.proofs.verdict.push_faults.Goals as goal

pub loop-place-preserved : goal.loop-place-preserved
loop-place-preserved c =
    list_next (fault_json c.args.forms.now c.args.servers.now) (c.args.text.now.items ++ codes "[") c.loop-place.text.items
    c.push_comma.new.text.items c.push_fault.new.text.items c.args.faults.now c.loop-place.place
    c.index-faults-place.result c.index-faults-place.result (omega arith) c.index-faults-place.is c.loop-place.invariant c.in_ok-push_comma.ensures c.in_ok-push_fault.ensures
