use Rattle.cml_explore.specs.SightViews.{plain_sight}
use Rattle.cml_explore.proofs.SightLemmas.{told_so}
use Rattle.cml_explore.proofs.sight.Sighted.push_thread.Goals as goal

pub returns : goal.returns
returns c =
    told_so c.push_so.result (plain_sight c.args.self.now) c.args.thread c.args.self.now.hub.now.course.world.threads c.args.threads.now.items
    c.push_so.new.threads.items c.in_ok-state.state c.in_ok-state.ensures c.push_so.ensures
