use Rattle.std.proofs.Common.{List, ℕ, subst, refl}
use Rattle.cml_host.specs.Closed.{plain_asked}
use Rattle.cml_host.specs.Replies.{IsCarriedOut, passage, runs_out}
use Rattle.cml_host.specs.Running.{plain_saving}
use Rattle.cml_host.specs.Stores.{Shelf}
use Rattle.cml_host.proofs.RanLemmas.{lost, stops_nowhere, stops_there, told_there}
use Rattle.cml_host.proofs.run.tell_end.Goals as goal

pub returns-in-Ok-Some-clause-told : goal.returns-in-Ok-Some-clause-told
returns-in-Ok-Some-clause-told g c =
    let h = c.args.hub.now in
    let asked = plain_asked c.args.asked.now in
    let other = c.in-Ok-Some.other in
    let there = stops_there asked.stops asked.properties h other (rw c.in-Ok-Some.field-0-is at c.in-Ok-Some.ensures) in
    let told = c.tell_whole-status.ensures.told in
    (told.0, told_there asked (plain_saving c.args.saving.now) h other told.0 there.0 there.1 there.2 c.hub_is_a_run.ensures.leads told.1, told.2)

pub returns-in-Ok-None-clause-told : goal.returns-in-Ok-None-clause-told
returns-in-Ok-None-clause-told g c =
    let h = c.args.hub.now in
    let asked = plain_asked c.args.asked.now in
    let there = stops_nowhere asked.stops asked.properties h _ (rw c.in-Ok-None.field-0-is at c.in-Ok-None.ensures) in
    let told = c.tell_whole.ensures.told in
    (told.0, told_there asked (plain_saving c.args.saving.now) h h told.0 there refl refl c.hub_is_a_run-in-Ok-None.ensures.leads told.1, told.2)

pub returns-in-Err-clause-told : goal.returns-in-Err-clause-told
returns-in-Err-clause-told g c =
    let h = c.args.hub.now in
    let output = passage g.O.Write.contents c.args.out.now c.carry_out.new.out in
    let errors = passage g.E.Write.contents c.args.err.now c.carry_out.new.err in
    let store : Shelf = record { before = g.S.Store.holds c.args.store.now; after = g.S.Store.holds c.carry_out.new.store } in (
      runs_out h.course.output,
      lost (plain_asked c.args.asked.now) (plain_saving c.args.saving.now) h,
      subst (λ (ts : List ℕ). IsCarriedOut (runs_out ts) output errors store c.carry_out.result) c.out.ensures c.carry_out.ensures.carried,
    )
