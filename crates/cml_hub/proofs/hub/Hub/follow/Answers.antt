use Rattle.std.proofs.Common.{◌≡◌, sym, subst, ◌∙◌}
use Rattle.cml_hub.specs.Runs.{is_allowed}
use Rattle.cml_hub.specs.Courses.{PlainCourse, Adds}
use Rattle.cml_hub.proofs.Going.{none_out_reported}
use Rattle.cml_hub.proofs.hub.Hub.follow.Goals as goal

pub add-requires-clause-due : goal.add-requires-clause-due
add-requires-clause-due c = c.in_ok-report.ensures.ok.none_due

pub add-requires-clause-none_out : goal.add-requires-clause-none_out
add-requires-clause-none_out c = none_out_reported c.args.self.now c.report.new.self c.requires c.in_ok-report.ensures.ok

pub returns-then-not-is_allowed : goal.returns-then-not-is_allowed
returns-then-not-is_allowed c =
    let r = c.in_ok-report.ensures.ok in
    record {
      ok = record {
        budget = r.budget;
        watch = r.watch;
        made = r.made;
        reports = r.reports;
        course = (subst (λ (x : PlainCourse). is_allowed x.world c.args.item ≡ _) r.course (sym c.is_allowed.ensures ∙ c.if-not-is_allowed.true), r.course);
      };
      none_out = none_out_reported c.args.self.now c.report.new.self c.requires r;
      err = tt;
    }

pub returns : goal.returns
returns c =
    let r = c.in_ok-report.ensures.ok in
    let m = c.in_ok-add.ensures.moves in
    record {
      ok = record {
        budget = m.budget ∙ r.budget;
        watch = m.watch ∙ r.watch;
        made = r.made;
        reports = m.reports ∙ r.reports;
        course = subst (λ (x : PlainCourse). Adds x c.args.item c.add.new.self.course) r.course m.adds;
      };
      none_out = c.in_ok-add.ensures.none_out;
      err = tt;
    }
