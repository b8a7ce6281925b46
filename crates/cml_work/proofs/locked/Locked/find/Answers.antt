use Rattle.std.proofs.Common.{subst}
use Rattle.std.proofs.lemmas.Result.{IfOk-weaker}
use Rattle.cml_work.specs.Picks.{ChoosesBy, picker}
use Rattle.cml_work.proofs.Finding.{job_follows}
use Rattle.cml_work.proofs.Going.{follows_on}
use Rattle.cml_work.proofs.MarkSteps.{begins_trans}
use Rattle.cml_work.proofs.Picking.{chose}
use Rattle.cml_work.proofs.locked.Locked.find.Goals as goal

pub invariant_of-self : goal.invariant_of-self
invariant_of-self g c =
    let s = c.self.inside in (
      follows_on _ _ _ c.self.invariant.0 c.take_job-answer.ensures.goes_on,
      c.self.invariant.1,
      begins_trans _ _ _ c.take_job-answer.ensures.reports c.self.invariant.2,
      chose c.take_job-answer.result c.is_err-self-inside.result (record { picks = g.C.Chooser.picks; next = g.C.Chooser.next }) s.chooser c.take_job-answer.new.chooser
          g.O.Opening.opening g.O.Opening.picks s.hub c.take_job-answer.new.hub c.is_err-self-inside.ensures.value
          (subst (λ b. ChoosesBy g.O.Opening.opening g.O.Opening.picks s.hub (picker (record { picks = g.C.Chooser.picks; next = g.C.Chooser.next }) s.chooser) b)
          c.if-self.false c.self.invariant.3)
          c.take_job-answer.ensures.goes_on.program c.take_job-answer.ensures.picks c.take_job-answer.ensures.some,
    )

pub returns-clause-job : goal.returns-clause-job
returns-clause-job g c = IfOk-weaker c.take_job-answer.result _ _ (λ found job. job_follows _ _ found c.self.invariant.0 job) c.take_job-answer.ensures.job
