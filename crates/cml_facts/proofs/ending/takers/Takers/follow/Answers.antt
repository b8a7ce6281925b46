use Rattle.std.proofs.Common.{sym, ◌∙◌}
use Rattle.cml_step.specs.Calls.{text_of}
use Rattle.cml_hub.specs.Courses.{run_of}
use Rattle.cml_facts.proofs.TakeLemmas.{one_taken, none_taken}
use Rattle.cml_facts.proofs.ending.takers.Takers.follow.Goals as goal

pub returns-in_ok-keep-in-Some-clause-ok : goal.returns-in_ok-keep-in-Some-clause-ok
returns-in_ok-keep-in-Some-clause-ok c =
    let h = c.args.hub.now.course in
    one_taken (text_of h.program) h.items c.args.item.now (run_of h) c.in-Some.take c.args.self.now c.keep.new.self
    c.schedule-so_far.ensures.leads (sym c.in_ok-take.ensures ∙ c.in-Some.is) c.in_ok-keep-in-Some.ensures.ok

pub returns-in-None-clause-ok : goal.returns-in-None-clause-ok
returns-in-None-clause-ok c =
    let h = c.args.hub.now.course in
    none_taken (text_of h.program) h.items c.args.item.now (run_of h) c.args.self.now c.schedule-so_far.ensures.leads (sym c.in_ok-take.ensures ∙ c.in-None.is)
