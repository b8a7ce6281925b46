use Rattle.std.proofs.Common.{length, ap, sym}
use Rattle.cml_objects.specs.declared.lane.PartnerThreads.TheVariants.{Others}
use Rattle.cml_index.specs.Slots.{lane_at}
use Rattle.cml_index.proofs.Beside.{none_among}
use Rattle.cml_index.proofs.counts.count_beside.Goals as goal

pub returns-in-None-clause-count : goal.returns-in-None-clause-count
returns-in-None-clause-count c =
    sym (none_among Others (lane_at c.args.core.now.lanes c.args.slot) c.args.heads.now.places (ap length (sym (c.in-None.ensures))))
