use Rattle.std.proofs.Common.{◌∙◌, refl, add-one}
use Rattle.cml_value.specs.Group.{scopes}
use Rattle.cml_book.proofs.Scopes.{scope_at, settle_step, next_live}
use Rattle.cml_book.proofs.NackLemmas.{settled_is}
use Rattle.cml_book.proofs.nacks.settle.Goals as goal

pub loop-i-init : goal.loop-i-init
loop-i-init c = record { leads = settled_is c.args.leaf (scopes c.args.flat.now) c.args.cells.now.objects c.requires.alive; alive = c.requires.alive; waits = refl }

pub settle_one-requires : goal.settle_one-requires
settle_one-requires c =
    let p = scope_at c.args.leaf c.loop-i.i (scopes c.args.flat.now) c.scopes-nacks.result.now c.loses.result (record { 0 = 0 }) c.loop-i-test.true c.scopes-nacks.ensures.nacks c.loses.ensures in
    next_live _ _ _ _ _ _ p c.loop-i.invariant.alive

pub loop-i-preserved : goal.loop-i-preserved
loop-i-preserved c =
    let p = scope_at c.args.leaf c.loop-i.i (scopes c.args.flat.now) c.scopes-nacks.result.now c.loses.result (record { 0 = 0 }) c.loop-i-test.true c.scopes-nacks.ensures.nacks c.loses.ensures in
    let s = settle_step _ _ _ _ _ _ c.settle_one.new.cells.objects _ p c.settle_one.ensures.objects c.loop-i.invariant.leads c.loop-i.invariant.alive in
    rw add-one (record { leads = s.0; alive = s.1; waits = c.settle_one.ensures.waits ∙ c.loop-i.invariant.waits })
