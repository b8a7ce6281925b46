use Rattle.cml_host.specs.Replies.{moment}
use Rattle.cml_host.proofs.trace.trace.Goals as goal

pub returns-clause-ran : goal.returns-clause-ran
returns-clause-ran g c = (moment g.O.Write.contents c.traced-made.new.out, _, c.traced-made.ensures.told, c.carry_out.ensures.carried)
