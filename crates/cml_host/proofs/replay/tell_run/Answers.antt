use Rattle.std.proofs.Common.{List, subst}
use Rattle.cml_schedule.specs.Reports.{PlainReport}
use Rattle.cml_host.specs.Closed.{plain_asked}
use Rattle.cml_host.specs.Replies.{moment, passage}
use Rattle.cml_host.specs.Stores.{Shelf}
use Rattle.cml_host.specs.Told.{AreCut, AreTold}
use Rattle.cml_host.proofs.ClosedLemmas.{replay_cut, replay_told}
use Rattle.cml_host.proofs.replay.tell_run.Goals as goal

pub returns-in-Ok-clause-told : goal.returns-in-Ok-clause-told
returns-in-Ok-clause-told g c =
    let mid = moment g.E.Write.contents c.send_reports.new.err in
    let output = passage g.O.Write.contents c.args.out.now c.tell_end.new.out in
    let errors = passage g.E.Write.contents c.args.err.now c.tell_end.new.err in
    let store : Shelf = record { before = g.S.Store.holds c.args.store.now; after = g.S.Store.holds c.tell_end.new.store } in
    let sent = passage g.E.Write.contents c.args.err.now c.send_reports.new.err in
    replay_told (plain_asked c.args.asked.now) c.args.hub.now output errors mid store c.tell_end.result c.hub_is_a_run.ensures
    (subst (λ (rs : List PlainReport). AreTold rs sent) c.reports.ensures.reports c.in-Ok.ensures.sent) c.tell_end.ensures.told

pub returns-in-Err-clause-told : goal.returns-in-Err-clause-told
returns-in-Err-clause-told g c =
    let sent = passage g.E.Write.contents c.args.err.now c.send_reports.new.err in
    let errors = passage g.E.Write.contents c.args.err.now c.carry_out.new.err in
    replay_cut (plain_asked c.args.asked.now) c.args.hub.now _ errors (moment g.E.Write.contents c.send_reports.new.err) _ _ c.hub_is_a_run.ensures
    (subst (λ (rs : List PlainReport). AreCut rs sent) c.reports.ensures.reports c.in-Err.ensures.sent) c.carry_out.ensures.carried
