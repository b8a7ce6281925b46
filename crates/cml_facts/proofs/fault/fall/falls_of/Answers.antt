use Rattle.std.proofs.Common.{◌∙◌, sym}
use Rattle.cml_facts.specs.FallViews.{fall_in}
use Rattle.cml_facts.proofs.FallLemmas.{none_fell}
use Rattle.cml_facts.proofs.fault.fall.falls_of.Goals as goal

pub returns-then-faults-eq0 : goal.returns-then-faults-eq0
returns-then-faults-eq0 c =
    none_fell c.args.hub.now.course.program c.args.hub.now.course.items (fall_in c.new.result) (sym c.faults.ensures ∙ c.if-faults-eq0.true) c.new.ensures
