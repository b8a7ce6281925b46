use Rattle.std.proofs.Common.{List, ℕ, subst}
use Rattle.cml_host.specs.Closed.{plain_asked}
use Rattle.cml_host.specs.Replies.{IsCarriedOut, passage, plain_reply}
use Rattle.cml_host.specs.Running.{plain_saving}
use Rattle.cml_host.specs.Stores.{Shelf}
use Rattle.cml_host.proofs.RanLemmas.{whole_told}
use Rattle.cml_host.proofs.run.tell_whole.Goals as goal

pub returns-clause-told : goal.returns-clause-told
returns-clause-told g c =
    let h = c.args.hub.now in
    let output = passage g.O.Write.contents c.args.out.now c.carry_out-status.new.out in
    let errors = passage g.E.Write.contents c.args.err.now c.carry_out-status.new.err in
    let store : Shelf = record { before = g.S.Store.holds c.args.store.now; after = g.S.Store.holds c.carry_out-status.new.store } in (
      plain_reply h.course.output c.end-made.result,
      whole_told (plain_asked c.args.asked.now) (plain_saving c.args.saving.now) h c.end-made.result c.end-made.ensures.ok c.end-made.ensures.err,
      subst (λ (ts : List ℕ). IsCarriedOut (plain_reply ts c.end-made.result) output errors store c.carry_out-status.result) c.out.ensures c.carry_out-status.ensures.carried,
    )
