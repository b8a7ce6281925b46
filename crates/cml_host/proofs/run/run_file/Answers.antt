use Rattle.std.proofs.Common.{ℕ, List, inl, inr}
use Rattle.cml_host.specs.Replies.{passage}
use Rattle.cml_host.specs.Running.{WantedOutcome}
use Rattle.cml_host.specs.Scripts.{plain_script}
use Rattle.cml_host.specs.Stores.{Content}
use Rattle.cml_host.proofs.BehindLemmas.{refused_behind, store_from}
use Rattle.cml_host.proofs.run.run_file.Goals as goal

pub returns-in-Ok-clause-ran : goal.returns-in-Ok-clause-ran
returns-in-Ok-clause-ran g c =
    let output = passage g.O.Write.contents c.args.out.now c.run_wanted.new.out in
    let errors = passage g.E.Write.contents c.args.err.now c.run_wanted.new.err in
    let new = g.S.Store.holds c.run_wanted.new.store in
    let s = plain_script c.in-Ok.script in
    inl (
      s,
      c.in-Ok.ensures.ok,
      store_from (λ (held : List ℕ → Content). WantedOutcome c.args.explains s c.args.options.now output errors (record { before = held; after = new }) c.run_wanted.result)
          (g.S.Store.holds c.args.store.now) (g.S.Store.holds c.open_script.new.store) c.open_script.ensures.same c.run_wanted.ensures.ran,
    )

pub returns-in-Err-clause-ran : goal.returns-in-Err-clause-ran
returns-in-Err-clause-ran g c = inr (refused_behind _ c.in-Err.why _ _ _ _ _ _ c.in-Err.ensures.err c.open_script.ensures.same c.carry_out.ensures.carried)
