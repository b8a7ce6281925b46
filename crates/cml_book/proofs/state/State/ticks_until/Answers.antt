use Rattle.std.proofs.Common.{◌∙◌, ap, map}
use Rattle.cml_scan.specs.declared.object.Light.TheVariants as of
use Rattle.cml_book.proofs.Alarms.{ticks_only, ticks_all, if_ok}
use Rattle.cml_book.proofs.state.State.ticks_until.Goals as goal

pub returns-clause-only : goal.returns-clause-only
returns-clause-only c = if_ok _ _ c.alarms_at.result
    (λ lights is. rw (← c.self.view_is) (ticks_only c.self.inside.clock _ c.self.invariant.3 c.args.to _ lights.items
    c.in_ok-ticks.ensures.exact (is ∙ ap (map of.Alarm) c.deref.ensures.value))) c.alarms_at.ensures

pub returns-clause-all : goal.returns-clause-all
returns-clause-all c = if_ok _ _ c.alarms_at.result
    (λ lights is. rw (← c.self.view_is) (ticks_all c.self.inside.clock _ c.self.invariant.3 c.args.to _ lights.items
    c.in_ok-ticks.ensures.exact (is ∙ ap (map of.Alarm) c.deref.ensures.value))) c.alarms_at.ensures
