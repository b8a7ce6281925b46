use Rattle.std.proofs.Common.{◌≡◌, ap, ◌∙◌}
use Rattle.cml_hub.specs.Kept.{Kept}
use Rattle.cml_hub.proofs.Going.{none_out_reported}
use Rattle.cml_hub.proofs.Deciding.{on_ok, in_both, adds_then}
use Rattle.cml_hub.specs.Moves.{Reported, Happens}
use Rattle.cml_hub.proofs.hub.Hub.step.Goals as goal

pub returns-clause-ok : goal.returns-clause-ok
returns-clause-ok c =
    let a = c.args.self.now in
    let b = c.add.new.self in
    let d = c.report.new.self in
    let m = c.in_ok-add.ensures.moves in
    let made : Reported b d → Happens a c.args.item d = λ r. record {
      adds = adds_then a b d c.args.item m r;
      budget = r.budget ∙ m.budget;
      watch = r.watch ∙ m.watch;
      none_due = r.none_due;
      none_out = none_out_reported b d c.in_ok-add.ensures.none_out r;
    } in
    on_ok c.report.result made c.report.ensures.ok

pub returns-clause-program : goal.returns-clause-program
returns-clause-program c =
    let k : c.add.new.self.course.program ≡ c.args.self.now.course.program = c.in_ok-add.ensures.moves.adds.program in
    in_both c.report.result (λ (r : Reported c.add.new.self c.report.new.self). ap (λ x. x.program) r.course ∙ k)
    (λ (e : c.report.new.self ≡ c.add.new.self). ap (λ (x : Kept). x.course.program) e ∙ k) c.report.ensures.ok c.report.ensures.err
