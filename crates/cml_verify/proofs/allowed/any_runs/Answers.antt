use Rattle.std.proofs.Common.{ap, sym, ◌∙◌, arith, take_all}
use Rattle.std.specs.List.{list_any}
use Rattle.cml_book.specs.Walks.{runs}
use Rattle.cml_verify.proofs.Reading.{some_pass, none_more}
use Rattle.cml_verify.proofs.allowed.any_runs.Goals as goal

pub returns-then-is_running : goal.returns-then-is_running
returns-then-is_running c = sym (some_pass runs c.args.book.now.threads c.loop-t.t (sym c.is_running.ensures ∙ c.if-is_running.true))

pub loop-t-preserved : goal.loop-t-preserved
loop-t-preserved c = none_more runs c.args.book.now.threads c.loop-t.t (omega arith) (sym c.is_running.ensures ∙ c.if-is_running.false) c.loop-t.invariant

pub returns : goal.returns
returns c = sym c.loop-t.invariant ∙ ap (list_any runs) (take_all c.loop-t.t c.args.book.now.threads (omega arith))
