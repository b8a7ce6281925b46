use Rattle.std.proofs.Common.{rules, ◌≡◌, ℕ, List, ap, map, inl, subst}
use Rattle.std.specs.String.{string_bytes}
use Rattle.cml_arguments.specs.declared.Answer.TheVariants as answer
use Rattle.cml_arguments.specs.Words.{IsAnswer}
use Rattle.cml_host.specs.Between.{between}
use Rattle.cml_host.specs.Statuses.{IsReplied, TaskOutcome}
use Rattle.cml_host.specs.Replies.{gives, refusal}
use Rattle.cml_host.specs.Stores.{Shelf}
use Rattle.cml_host.proofs.BehindLemmas.{from_first}
use Rattle.cml_host.proofs.CountLemmas.{task_counted}
use Rattle.cml_host.proofs.command.run_command_counted.Goals as goal

pub do_task-requires-clause-counts : goal.do_task-requires-clause-counts
do_task-requires-clause-counts g c κs within =
    let words = map string_bytes c.args.words.now in
    task_counted words c.in-Ok-Task.task (subst (IsAnswer words) c.in-Ok-Task.field-0-is c.in-Ok-Task.ensures)

pub returns-in-Ok-Task-clause-ran : goal.returns-in-Ok-Task-clause-ran
returns-in-Ok-Task-clause-ran g c =
    let words = map string_bytes c.args.words.now in
    let given = between g.I.Read.remaining c.args.input.now c.do_task.new.input in
    let shelf : Shelf = record { before = g.S.Store.holds c.args.store.now; after = g.S.Store.holds c.do_task.new.store } in
    inl (
      answer.Task c.in-Ok-Task.task,
      subst (IsAnswer words) c.in-Ok-Task.field-0-is c.in-Ok-Task.ensures,
      from_first g.O.Write.contents g.E.Write.contents (λ output errors. TaskOutcome c.in-Ok-Task.task c.args.terminal given output errors shelf c.do_task.result)
          c.args.out.now c.do_task.new.out c.args.err.now c.do_task.new.err c.requires.writes c.requires.complaints c.do_task.ensures.ran,
    )

pub returns-in-Ok-Help-clause-ran : goal.returns-in-Ok-Help-clause-ran
returns-in-Ok-Help-clause-ran g c =
    let words = map string_bytes c.args.words.now in
    let given = between g.I.Read.remaining c.args.input.now c.args.input.now in
    let shelf : Shelf = record { before = g.S.Store.holds c.args.store.now; after = g.S.Store.holds c.carry_out.new.store } in
    inl (
      answer.Help c.in-Ok-Help.text,
      subst (IsAnswer words) c.in-Ok-Help.field-0-is c.in-Ok-Help.ensures,
      from_first g.O.Write.contents g.E.Write.contents (λ output errors. IsReplied (λ reply. reply ≡ gives (string_bytes c.in-Ok-Help.text)) given output errors shelf c.carry_out.result)
          c.args.out.now c.carry_out.new.out c.args.err.now c.carry_out.new.err c.requires.writes c.requires.complaints
          ((_, search rules, c.carry_out.ensures.carried), (search rules, c.requires.reads.0, c.requires.reads.1)),
    )

pub returns-in-Ok-Fault-clause-ran : goal.returns-in-Ok-Fault-clause-ran
returns-in-Ok-Fault-clause-ran g c =
    let words = map string_bytes c.args.words.now in
    let given = between g.I.Read.remaining c.args.input.now c.args.input.now in
    let shelf : Shelf = record { before = g.S.Store.holds c.args.store.now; after = g.S.Store.holds c.carry_out-in-Ok-Fault.new.store } in
    let text = c.into_bytes-in-Ok-Fault.result.items in
    let same : text ≡ string_bytes c.in-Ok-Fault.text = search rules in
    inl (
      answer.Fault c.in-Ok-Fault.text,
      subst (IsAnswer words) c.in-Ok-Fault.field-0-is c.in-Ok-Fault.ensures,
      from_first g.O.Write.contents g.E.Write.contents (λ output errors. IsReplied
          (λ reply. reply ≡ refusal (string_bytes c.in-Ok-Fault.text) 1) given output errors shelf c.carry_out-in-Ok-Fault.result)
          c.args.out.now c.carry_out-in-Ok-Fault.new.out c.args.err.now c.carry_out-in-Ok-Fault.new.err c.requires.writes c.requires.complaints
          ((refusal text 1, ap (λ (ts : List ℕ). refusal ts 1) same, c.carry_out-in-Ok-Fault.ensures.carried), (search rules, c.requires.reads.0, c.requires.reads.1)),
    )
