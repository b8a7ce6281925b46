use Rattle.std.proofs.Common.{subst}
use Rattle.cml_host.specs.Replies.{IsCarriedOut, PlainReply, passage}
use Rattle.cml_host.specs.Stores.{Shelf}
use Rattle.cml_host.proofs.tell.stop.Goals as goal

pub returns-clause-told : goal.returns-clause-told
returns-clause-told g c =
    let output = passage g.O.Write.contents c.args.out.now c.carry_out.new.out in
    let errors = passage g.E.Write.contents c.args.err.now c.carry_out.new.err in
    let store : Shelf = record { before = g.S.Store.holds c.args.store.now; after = g.S.Store.holds c.carry_out.new.store } in
    subst (λ (reply : PlainReply). IsCarriedOut reply output errors store c.carry_out.result) c.stopped_for-why.ensures c.carry_out.ensures.carried
