use Rattle.std.proofs.Common.{rules}
use Rattle.cml_host.specs.Stores.{MayBeRefused}
use Rattle.cml_host.proofs.RefusedLemmas.{unread_by}
use Rattle.cml_host.proofs.refusal.load.Goals as goal

pub returns-in-Err-Refused-clause-err : goal.returns-in-Err-Refused-clause-err
returns-in-Err-Refused-clause-err g c =
    let content = g.S.Store.holds c.args.store.now c.args.name.now in
    let may : MayBeRefused content = search rules in
    unread_by c.args.explains c.args.name.now content c.unread.result may c.unread.ensures
