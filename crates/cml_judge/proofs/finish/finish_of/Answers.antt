use Rattle.std.proofs.Common.{◌∙◌, ap}
use Rattle.cml_hub.specs.Courses.{run_of}
use Rattle.cml_hub.specs.Runs.{ending}
use Rattle.cml_judge.specs.Finishes.{finish_in, has_items_left}
use Rattle.cml_judge.proofs.finish.finish_of.Goals as goal

pub returns : goal.returns
returns c =
    c.finish_in.ensures ∙ ap (λ e. finish_in e c.has_items_left.result) c.end.ensures
    ∙ ap (λ left. finish_in (ending c.args.hub.now.budget (run_of c.args.hub.now.course)) left) (c.has_items_left.ensures ∙ ap has_items_left c.book.ensures)
