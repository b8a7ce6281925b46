use Rattle.std.proofs.Common.{◌∙◌, sym, ap}
use Rattle.cml_explore.specs.SightViews.{plain_sight}
use Rattle.cml_explore.specs.Sights.{state_or_fault}
use Rattle.cml_explore.proofs.SightLemmas.{not_left}
use Rattle.cml_explore.proofs.sight.Sighted.state.Goals as goal

pub returns-in-Some : goal.returns-in-Some
returns-in-Some c = λ t at. ap (state_or_fault (plain_sight c.args.self.now) c.args.thread) (sym c.in-Some.is ∙ c.in_ok-stands.ensures t at)

pub returns-in-None : goal.returns-in-None
returns-in-None c =
    not_left c.fault_state.result (plain_sight c.args.self.now) c.args.thread c.args.self.now.hub.now.course.world.threads
    (λ t at. sym c.in-None.is ∙ c.in_ok-stands.ensures t at) c.fault_state.ensures
