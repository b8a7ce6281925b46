use Rattle.cml_host.specs.Closed.{plain_asked}
use Rattle.cml_host.specs.Replies.{moment, passage}
use Rattle.cml_host.specs.Running.{plain_saving}
use Rattle.cml_host.specs.Stores.{Shelf}
use Rattle.cml_host.proofs.RanLemmas.{ended_ran, stopped_ran}
use Rattle.cml_host.proofs.run.run_begun.Goals as goal

pub returns-in-Ok-clause-ran : goal.returns-in-Ok-clause-ran
returns-in-Ok-clause-ran g c =
    let output = passage g.O.Write.contents c.args.out.now c.tell_end-status.new.out in
    let errors = passage g.E.Write.contents c.args.err.now c.tell_end-status.new.err in
    let mid = moment g.E.Write.contents c.run_hub.new.err in
    let store : Shelf = record { before = g.S.Store.holds c.args.store.now; after = g.S.Store.holds c.tell_end-status.new.store } in
    ended_ran (plain_asked c.args.asked.now) (plain_saving c.args.saving.now) c.args.hub.course.program c.args.options.now c.args.hub c.in-Ok.hub output errors mid
    store c.tell_end-status.result c.requires.begun c.hub_is_a_run.ensures.leads c.in-Ok.ensures.chosen c.in-Ok.ensures.ok.0 c.hub_is_a_run-in-Ok.ensures
    (c.in-Ok.ensures.ok.1, c.in-Ok.ensures.ok.2) c.tell_end-status.ensures.told

pub returns-in-Err-clause-ran : goal.returns-in-Err-clause-ran
returns-in-Err-clause-ran g c =
    let output = passage g.O.Write.contents c.args.out.now c.stop-status.new.out in
    let errors = passage g.E.Write.contents c.args.err.now c.stop-status.new.err in
    let mid = moment g.E.Write.contents c.run_hub.new.err in
    let store : Shelf = record { before = g.S.Store.holds c.args.store.now; after = g.S.Store.holds c.stop-status.new.store } in
    stopped_ran (plain_asked c.args.asked.now) (plain_saving c.args.saving.now) c.args.hub.course.program c.args.options.now c.args.hub c.in-Err.stopped output errors mid store
    c.stop-status.result c.requires.begun c.hub_is_a_run.ensures.leads c.in-Err.ensures.so_far c.in-Err.ensures.err c.hub_is_a_run-in-Err.ensures c.stop-status.ensures.told
