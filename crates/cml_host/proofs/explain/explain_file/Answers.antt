use Rattle.cml_host.specs.Replies.{moment}
use Rattle.cml_host.proofs.BehindLemmas.{carried_behind}
use Rattle.cml_host.proofs.explain.explain_file.Goals as goal

pub returns-clause-ran : goal.returns-clause-ran
returns-clause-ran g c = (
  moment g.O.Write.contents c.explain_there-made.new.out,
  _,
  c.explain_there-made.ensures.told,
  carried_behind _ _ _ _ _ _ _ c.explain_there-made.ensures.same c.carry_out.ensures.carried,
)
