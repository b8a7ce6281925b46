use Rattle.std.proofs.Common.{◌∙◌, sym, arith}
use Rattle.cml_explore.specs.Generators.{by_generator}
use Rattle.cml_explore.specs.Lots.{by_lot}
use Rattle.cml_explore.proofs.DrawLemmas.{draws_init, draws_more, draws_over, draws_out}
use Rattle.cml_explore.proofs.seed.lot.run_by_lot.Goals as goal

pub items-init : goal.items-init
items-init c = draws_init (by_lot by_generator) c.args.hub.now c.args.chooser.now c.budget-left.result c.budget-left.ensures.budget c.requires

pub items-preserved : goal.items-preserved
items-preserved c =
    draws_more (by_lot by_generator) c.args.hub.now c.args.chooser.now c.items.left _ c.items.hub c.go.new.hub c.items.chooser
    c.go.new.chooser c.items.invariant (omega arith) (sym c.if-is_over.false ∙ c.is_over.ensures)
    c.in_ok-go.ensures.ok c.in_ok-go.ensures.none_out

pub returns-then-is_over : goal.returns-then-is_over
returns-then-is_over c = draws_over (by_lot by_generator) c.args.hub.now c.args.chooser.now c.items.left c.items.hub c.items.chooser c.items.invariant (sym c.if-is_over.true ∙ c.is_over.ensures)

pub returns : goal.returns
returns c = draws_out (by_lot by_generator) c.args.hub.now c.args.chooser.now c.items.left c.items.hub c.items.chooser c.items.invariant (omega arith)
