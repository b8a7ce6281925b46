use Rattle.std.proofs.Common.{ap, sym, subst, ◌∙◌}
use Rattle.std.specs.Option.{option_copied}
use Rattle.cml_index.specs.Slots.{is_slot}
use Rattle.cml_index.specs.Stands as stands
use Rattle.cml_index.specs.Stands.{stand_at}
use Rattle.cml_index.proofs.Walks.{same_slot_is}
use Rattle.cml_index.proofs.lanes.Lanes.count_of.Goals as goal

pub returns-in-Some-clause-here : goal.returns-in-Some-clause-here
returns-in-Some-clause-here c k e =
    subst (λ j. stands.CountsOneMore (stand_at c.args.self.now j) (stand_at c.count_at.new.self j))
    (sym (same_slot_is k c.in-Some.slot.now (sym (ap (λ s. is_slot k (option_copied s)) c.in-Some.is) ∙ e))) c.count_at.ensures.here
