use Rattle.std.proofs.Common.{◌≡◌, ◌∙◌, Option, Some, None, inl, inr, subst, sym}
use Rattle.cml_host.specs.Closed.{plain_asked}
use Rattle.cml_host.specs.Orders.{order_said}
use Rattle.cml_host.specs.Replies.{passage}
use Rattle.cml_host.specs.Running.{RunsSo, plain_saving}
use Rattle.cml_host.specs.Stores.{Shelf}
use Rattle.cml_explore.specs.declared.seed.order.Order.{Order}
use Rattle.cml_host.proofs.RanLemmas.{somehow_so}
use Rattle.cml_host.proofs.run.run_so.Goals as goal

pub returns-in-Some-clause-ran : goal.returns-in-Some-clause-ran
returns-in-Some-clause-ran g c =
    let options = c.args.options.now in
    let output = passage g.O.Write.contents c.args.out.now c.run_ordered.new.out in
    let errors = passage g.E.Write.contents c.args.err.now c.run_ordered.new.err in
    let store : Shelf = record { before = g.S.Store.holds c.args.store.now; after = g.S.Store.holds c.run_ordered.new.store } in
    let said : order_said options.turns options.priority ≡ Some c.in-Some.order = sym c.order_said.ensures ∙ c.in-Some.is in
    inl (
    subst (λ (o : Option Order). RunsSo o (plain_asked c.args.asked.now) (plain_saving c.args.saving.now) c.args.program options output errors store c.run_ordered.result) (sym said)
    c.run_ordered.ensures.ran
    )

pub returns-in-None-clause-ran : goal.returns-in-None-clause-ran
returns-in-None-clause-ran g c =
    let options = c.args.options.now in
    let output = passage g.O.Write.contents c.args.out.now c.run_program.new.out in
    let errors = passage g.E.Write.contents c.args.err.now c.run_program.new.err in
    let store : Shelf = record { before = g.S.Store.holds c.args.store.now; after = g.S.Store.holds c.run_program.new.store } in
    let said : order_said options.turns options.priority ≡ None = sym c.order_said.ensures ∙ c.in-None.is in
    somehow_so (plain_asked c.args.asked.now) (plain_saving c.args.saving.now) c.args.program options output errors store c.run_program.result said c.run_program.ensures.ran
