use Rattle.std.proofs.Common.{refl}
use Rattle.cml_facts.specs.FaultViews.{plain_places}
use Rattle.cml_facts.proofs.EndLemmas.{none_faulted, all_faulted}
use Rattle.cml_facts.proofs.fault.faults.faults_of.Goals as goal

pub returns-then-count-eq0 : goal.returns-then-count-eq0
returns-then-count-eq0 c =
    none_faulted c.args.forms.now (plain_places c.args.places.now) c.args.hub.now.course c.faults-count.result _ c.faults-count.ensures c.if-count-eq0.true c.new.ensures.items refl

pub returns : goal.returns
returns c =
    all_faulted c.args.forms.now (plain_places c.args.places.now) c.args.hub.now.course c.faults-count.result _ c.faults-count.ensures c.in_ok-first_faults.ensures c.saturating_sub.ensures
