use Rattle.std.proofs.Common.{List, [], ℕ, inl, inr, refl, subst}
use Rattle.cml_check.specs.Syntax.{PlainItem}
use Rattle.cml_host.specs.Closed.{plain_asked}
use Rattle.cml_host.specs.Replies.{passage, runs_out}
use Rattle.cml_host.specs.Running.{ProgramOutcome, plain_saving}
use Rattle.cml_host.specs.Stores.{Shelf}
use Rattle.cml_host.proofs.ClosedLemmas.{starts_itself}
use Rattle.cml_host.proofs.run.run_program.Goals as goal

pub run_begun-requires-clause-begun : goal.run_begun-requires-clause-begun
run_begun-requires-clause-begun g c κs within = starts_itself c.args.program _ _ c.in-Ok.hub c.in-Ok.ensures.ok

pub returns-in-Ok-clause-ran : goal.returns-in-Ok-clause-ran
returns-in-Ok-clause-ran g c =
    let output = passage g.O.Write.contents c.args.out.now c.run_begun.new.out in
    let errors = passage g.E.Write.contents c.args.err.now c.run_begun.new.err in
    let store : Shelf = record { before = g.S.Store.holds c.args.store.now; after = g.S.Store.holds c.run_begun.new.store } in
    inl (subst (λ (p : List (PlainItem ℕ)). ProgramOutcome (plain_asked c.args.asked.now)
    (plain_saving c.args.saving.now) p c.args.options.now output errors store c.run_begun.result)
    c.in-Ok.ensures.ok.program c.run_begun.ensures.ran)

pub returns-in-Err-clause-ran : goal.returns-in-Err-clause-ran
returns-in-Err-clause-ran g c = inr (runs_out [], refl, c.carry_out.ensures.carried)
