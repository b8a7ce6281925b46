use Rattle.std.proofs.Common.{not, ap, ◌∙◌}
use Rattle.cml_hub.proofs.Marking.{placed_any}
use Rattle.cml_hub.proofs.hub.Hub.is_allowed.Goals as goal

pub may_tick-requires : goal.may_tick-requires
may_tick-requires c =
    let s = c.self.inside in
    c.is_idle.ensures ∙ ap not (placed_any s.course.world.threads s.marks.marks c.self.invariant.placed)

pub returns-in-Turn : goal.returns-in-Turn
returns-in-Turn c =
    rw (← c.self.view_is, c.in-Turn.is) c.is_running.ensures

pub returns-in-Meet : goal.returns-in-Meet
returns-in-Meet c =
    rw (← c.self.view_is, c.in-Meet.is) c.has.ensures

pub returns-in-Exchange : goal.returns-in-Exchange
returns-in-Exchange c =
    rw (← c.self.view_is, c.in-Exchange.is) c.swaps.ensures

pub returns-in-Clock : goal.returns-in-Clock
returns-in-Clock c =
    rw (← c.self.view_is, c.in-Clock.is) c.may_tick.ensures
