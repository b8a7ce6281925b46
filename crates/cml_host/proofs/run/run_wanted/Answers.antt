use Rattle.std.proofs.Common.{ℕ, List, inl, inr}
use Rattle.cml_host.specs.Replies.{passage}
use Rattle.cml_host.specs.Running.{ScriptOutcome}
use Rattle.cml_host.specs.Scripts.{plain_script}
use Rattle.cml_host.specs.Stores.{Content}
use Rattle.cml_host.proofs.BehindLemmas.{refused_behind, store_from}
use Rattle.cml_host.proofs.run.run_wanted.Goals as goal

pub returns-in-Ok-clause-ran : goal.returns-in-Ok-clause-ran
returns-in-Ok-clause-ran g c =
    let output = passage g.O.Write.contents c.args.out.now c.run_script.new.out in
    let errors = passage g.E.Write.contents c.args.err.now c.run_script.new.err in
    let new = g.S.Store.holds c.run_script.new.store in
    let s = plain_script c.args.script in
    let wanted = c.in-Ok.wanted.items in
    inl (
      wanted,
      c.in-Ok.ensures.ok,
      store_from (λ (held : List ℕ → Content). ScriptOutcome c.args.explains s wanted c.args.options.now output errors (record { before = held; after = new }) c.run_script.result)
          (g.S.Store.holds c.args.store.now) (g.S.Store.holds c.find_properties.new.store) c.find_properties.ensures.same c.run_script.ensures.ran,
    )

pub returns-in-Err-clause-ran : goal.returns-in-Err-clause-ran
returns-in-Err-clause-ran g c = inr (refused_behind _ c.in-Err.why _ _ _ _ _ _ c.in-Err.ensures.err c.find_properties.ensures.same c.carry_out.ensures.carried)
