use Rattle.std.proofs.Common.{◌∙◌, ap, map, subst, IsSomeAnd}
use Rattle.std.specs.String.{string_bytes}
use Rattle.std.proofs.lemmas.Result.{IfOk-weaker}
use Rattle.clap.specs.Words.{kind_of}
use Rattle.cml_arguments.specs.Words.{commands, is_complete, IsTask, Names}
use Rattle.cml_arguments.proofs.Answers.{among_faults, named_by, no_fault, IsAnswer-error, IsAnswer-task}
use Rattle.cml_arguments.proofs.Entered.{commands_complete}
use Rattle.cml_arguments.proofs.read_arguments.Goals as goal

pub task_of-requires : goal.task_of-requires
task_of-requires c =
    let app = c.in_ok-command.ensures in
    let words = map string_bytes c.args.words.now in
    ap (is_complete commands) (named_by _ words c.in-Ok.matches app c.in-Ok.ensures.matches) ∙ commands_complete words (no_fault _ words app c.in-Ok.ensures.kinds)

pub returns-in_ok-task-in-Ok : goal.returns-in_ok-task-in-Ok
returns-in_ok-task-in-Ok c =
    let app = c.in_ok-command.ensures in
    let words = map string_bytes c.args.words.now in
    let named = subst (λ found. IsSomeAnd found (λ named. Names named c.in_ok-task-in-Ok.task)) (named_by _ words c.in-Ok.matches app c.in-Ok.ensures.matches) c.in_ok-task-in-Ok.ensures in
    let is : IsTask words c.in_ok-task-in-Ok.task = (no_fault _ words app c.in-Ok.ensures.kinds, named) in
    IfOk-weaker c.answer_to_task.result _ _ (λ a says. IsAnswer-task words c.in_ok-task-in-Ok.task a is says) c.answer_to_task.ensures

pub returns-in-Err : goal.returns-in-Err
returns-in-Err c =
    let words = map string_bytes c.args.words.now in
    let among = among_faults _ words c.in-Err.error c.in_ok-command.ensures c.in-Err.ensures.kinds in
    IfOk-weaker c.answer_to_error.result _ _ (λ a says. IsAnswer-error words (kind_of c.in-Err.error) a among says) c.answer_to_error.ensures
