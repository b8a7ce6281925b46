use Rattle.std.proofs.Common.{◌+◌, ◌∙◌, sym, ap, cond, Some, drop, arith}
use Rattle.cml_facts.specs.Whys.{first_running}
use Rattle.cml_facts.proofs.WhyLemmas.{runs_first}
use Rattle.cml_facts.proofs.narrative.why.first_running.Goals as goal

pub returns-then-is_running : goal.returns-then-is_running
returns-then-is_running c =
    let threads = c.args.book.now.threads in
    let e = runs_first threads c.loop-t.t c.is_running.result (omega arith) c.is_running.ensures in
    sym (sym c.loop-t.invariant ∙ e ∙ ap (λ b. cond b (Some c.loop-t.t) (first_running (c.loop-t.t + 1) (drop (c.loop-t.t + 1) threads))) c.if-is_running.true)

pub loop-t-preserved : goal.loop-t-preserved
loop-t-preserved c =
    let threads = c.args.book.now.threads in
    let e = runs_first threads c.loop-t.t c.is_running.result (omega arith) c.is_running.ensures in
    sym (ap (λ b. cond b (Some c.loop-t.t) (first_running (c.loop-t.t + 1) (drop (c.loop-t.t + 1) threads))) c.if-is_running.false) ∙ sym e ∙ c.loop-t.invariant
