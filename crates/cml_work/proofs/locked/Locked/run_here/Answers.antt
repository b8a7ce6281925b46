use Rattle.std.proofs.Common.{ap, subst, ◌∙◌}
use Rattle.cml_work.specs.Held.{Held}
use Rattle.cml_work.specs.Picks.{ChoosesBy, picker}
use Rattle.cml_work.proofs.Going.{follows_on, goes_on_continues, reports_continue}
use Rattle.cml_work.proofs.MarkSteps.{begins_trans}
use Rattle.cml_work.proofs.Picking.{chose, ran_ok, ran_err}
use Rattle.cml_work.proofs.locked.Locked.run_here.Goals as goal

pub invariant_of-self : goal.invariant_of-self
invariant_of-self g c =
    let s = c.self.inside in
    let r = c.run_on-answer in (
      follows_on _ _ _ c.self.invariant.0 (goes_on_continues _ _ r.ensures.more),
      c.self.invariant.1,
      begins_trans _ _ _ (reports_continue _ _ r.ensures.more) c.self.invariant.2,
      chose r.result c.is_err-self-inside.result (record { picks = g.C.Chooser.picks; next = g.C.Chooser.next }) s.chooser r.new.chooser g.O.Opening.opening g.O.Opening.picks s.hub r.new.self
          c.is_err-self-inside.ensures.value
          (subst (λ b. ChoosesBy g.O.Opening.opening g.O.Opening.picks s.hub (picker (record { picks = g.C.Chooser.picks; next = g.C.Chooser.next }) s.chooser) b)
          (ap (λ (held : Held). held.is_stopped) c.self.view_is ∙ c.requires.going) c.self.invariant.3)
          r.ensures.more.program
          (ran_ok r.result (record { picks = g.C.Chooser.picks; next = g.C.Chooser.next }) s.hub r.new.self s.chooser r.new.chooser c.what_is_played_is_picked.ensures c.leads.ensures r.ensures.plays)
          (ran_err r.result (record { picks = g.C.Chooser.picks; next = g.C.Chooser.next }) s.hub r.new.self s.chooser c.what_is_played_is_picked.ensures c.leads.ensures r.ensures.so_far),
    )
