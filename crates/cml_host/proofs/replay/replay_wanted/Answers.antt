use Rattle.std.proofs.Common.{List, ℕ, inl, inr}
use Rattle.cml_host.specs.Replaying.{ScriptReplayed}
use Rattle.cml_host.specs.Replies.{passage}
use Rattle.cml_host.specs.Scripts.{plain_script}
use Rattle.cml_host.specs.Stores.{Content}
use Rattle.cml_host.proofs.BehindLemmas.{refused_behind, store_from}
use Rattle.cml_host.proofs.replay.replay_wanted.Goals as goal

pub returns-in-Ok-clause-ran : goal.returns-in-Ok-clause-ran
returns-in-Ok-clause-ran g c =
    let output = passage g.O.Write.contents c.args.out.now c.replay_script.new.out in
    let errors = passage g.E.Write.contents c.args.err.now c.replay_script.new.err in
    let s = plain_script c.args.script in
    let options = c.args.options.now in
    let wanted = c.in-Ok.wanted.items in
    let new = g.S.Store.holds c.replay_script.new.store in
    inl (
      wanted,
      c.in-Ok.ensures.ok,
      store_from (λ (held : List ℕ → Content). ScriptReplayed c.args.explains s wanted options (held options.schedule.now) output errors (record { before = held; after = new }) c.replay_script.result)
          (g.S.Store.holds c.args.store.now) (g.S.Store.holds c.find_properties.new.store) c.find_properties.ensures.same c.replay_script.ensures.ran,
    )

pub returns-in-Err-clause-ran : goal.returns-in-Err-clause-ran
returns-in-Err-clause-ran g c = inr (refused_behind _ c.in-Err.why _ _ _ _ _ _ c.in-Err.ensures.err c.find_properties.ensures.same c.carry_out.ensures.carried)
