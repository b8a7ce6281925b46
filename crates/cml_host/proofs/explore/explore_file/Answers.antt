use Rattle.cml_host.specs.Replies.{moment}
use Rattle.cml_host.proofs.BehindLemmas.{carried_behind}
use Rattle.cml_host.proofs.explore.explore_file.Goals as goal

pub returns-clause-ran : goal.returns-clause-ran
returns-clause-ran g c = (
  moment g.E.Write.contents c.explore_there-made.new.err,
  _,
  c.explore_there-made.ensures.told,
  carried_behind _ _ _ _ _ _ _ c.explore_there-made.ensures.same c.carry_out.ensures.carried,
)
