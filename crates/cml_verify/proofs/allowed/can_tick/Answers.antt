use Rattle.std.proofs.Common.{ap, ◌∙◌}
use Rattle.cml_hub.specs.Runs.{is_allowed}
use Rattle.cml_schedule.specs.declared.item.Item.TheVariants.{Clock}
use Rattle.cml_verify.proofs.allowed.can_tick.Goals as goal

pub returns : goal.returns
returns c = c.may_tick.ensures ∙ ap (λ w. is_allowed w (Clock c.args.tick)) c.book.ensures
