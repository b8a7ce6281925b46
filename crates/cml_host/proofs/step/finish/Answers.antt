use Rattle.std.proofs.Common.{rules, ◌≡◌, ◌<◌, length, []}
use Rattle.cml_stepper.specs.Steppers.{places_known}
use Rattle.cml_host.proofs.SayLemmas.{on_err}
use Rattle.cml_host.proofs.TalkLemmas.{begun_alone, cut_answer, last_answered, nothing_left}
use Rattle.cml_host.proofs.step.finish.Goals as goal

pub returns-then-is_empty-clause-ok : goal.returns-then-is_empty-clause-ok
returns-then-is_empty-clause-ok g c = λ given came spent.
    let none : length c.args.typed.now ≡ 0 = search rules in
    nothing_left (places_known c.args.stepper.now) c.args.hub.now c.args.typed.now c.args.typed.now given _ none came spent

pub returns-in_err-_ends-clause-err : goal.returns-in_err-_ends-clause-err
returns-in_err-_ends-clause-err g c = λ given came.
    let some : 0 < length c.args.typed.now = search rules in
    on_err c.from_residual.result _
    (cut_answer (places_known c.args.stepper.now) c.args.hub.now c.args.typed.now [] given _ _ (begun_alone c.args.typed.now some) came c.in_err-_ends.ensures.err)

pub returns-clause-ok : goal.returns-clause-ok
returns-clause-ok g c = λ given came spent.
    let some : 0 < length c.args.typed.now = search rules in
    last_answered (places_known c.args.stepper.now) c.args.hub.now c.args.typed.now c.args.typed.now c.in_ok-_ends._ends c.reply.new.hub given _ some came spent
    c.in_ok-_ends.ensures.ok.0 c.in_ok-_ends.ensures.ok.1
