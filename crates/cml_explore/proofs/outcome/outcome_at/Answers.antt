use Rattle.std.proofs.Common.{◌∙◌, rules}
use Rattle.cml_facts.specs.FallViews.{fall_in}
use Rattle.cml_hub.specs.Courses.{run_of}
use Rattle.cml_explore.proofs.OutcomeLemmas.{ends_fallen}
use Rattle.cml_explore.proofs.outcome.outcome_at.Goals as goal

pub returns : goal.returns
returns c =
    let course = c.args.hub.now.course in
    record {
      run = run_of course;
      leads = c.schedule-items.ensures.leads;
      output_is = search rules;
      threads_are = c.in_ok-threads.ensures ∙ ends_fallen course.program course.items (fall_in c.in_ok-falls.falls) c.in_ok-falls.ensures course.world.threads;
    }
