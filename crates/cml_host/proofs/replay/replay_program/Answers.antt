use Rattle.std.proofs.Common.{List, ℕ, inr}
use Rattle.cml_host.specs.Closed.{plain_asked}
use Rattle.cml_host.specs.Replaying.{ReplayTold}
use Rattle.cml_host.specs.Replies.{passage}
use Rattle.cml_host.specs.Stores.{Content, Shelf}
use Rattle.cml_host.proofs.BehindLemmas.{refused_behind, store_from}
use Rattle.cml_host.proofs.ClosedLemmas.{scheduled}
use Rattle.cml_host.proofs.replay.replay_program.Goals as goal

pub returns-in-Ok-clause-ran : goal.returns-in-Ok-clause-ran
returns-in-Ok-clause-ran g c =
    let asked = plain_asked c.args.asked.now in
    let output = passage g.O.Write.contents c.args.out.now c.tell_run-status.new.out in
    let errors = passage g.E.Write.contents c.args.err.now c.tell_run-status.new.err in
    let held = g.S.Store.holds c.args.store.now in
    let new = g.S.Store.holds c.tell_run-status.new.store in
    let store : Shelf = record { before = held; after = new } in
    scheduled asked c.args.program c.args.options.now.watch c.args.options.now.schedule.now (held c.args.options.now.schedule.now) c.in-Ok.hub output errors store c.tell_run-status.result
    c.in-Ok.ensures.ok
    (store_from (λ (b : List ℕ → Content). ReplayTold asked c.in-Ok.hub output errors (record { before = b; after = new }) c.tell_run-status.result) held (g.S.Store.holds c.replayed.new.store)
    c.replayed.ensures.same c.tell_run-status.ensures.told)

pub returns-in-Err-clause-ran : goal.returns-in-Err-clause-ran
returns-in-Err-clause-ran g c = inr (refused_behind _ c.in-Err.why _ _ _ _ _ _ c.in-Err.ensures.err c.replayed.ensures.same c.carry_out.ensures.carried)
