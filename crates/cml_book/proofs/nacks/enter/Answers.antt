use Rattle.std.proofs.Common.{drop, subst, sym, ◌∙◌, ap, suc, add-one, slice_index_or}
use Rattle.std.proofs.Math.Seq.{drop-cons}
use Rattle.cml_value.specs.Nack.{live}
use Rattle.cml_group.specs.Leaves.{numbers}
use Rattle.cml_book.specs.Sync.{with_each}
use Rattle.cml_book.specs.Keeping.{AreFresh}
use Rattle.cml_book.proofs.NackLemmas.{rest_fresh}
use Rattle.cml_book.proofs.nacks.enter.Goals as goal

pub loop-nack-preserved : goal.loop-nack-preserved
loop-nack-preserved c =
    let ks = c.args.nacks.now in
    let i = c.loop-nack.nack-index in
    let found = drop-cons ks i (record { 0 = 0 }) c.loop-nack-test.true in
    let k = slice_index_or ks i (record { 0 = 0 }) in
    let fresh = subst (λ xs. AreFresh (numbers xs) c.loop-nack.cells.objects) found c.loop-nack.invariant.fresh in
    let leads = ap (λ xs. with_each (numbers xs) live c.loop-nack.cells.objects) (sym found) ∙ c.loop-nack.invariant.leads in
    rw (add-one, c.enter_one.ensures.objects)
    (record { leads = leads; fresh = rest_fresh k.0 (numbers (drop (suc i) ks)) c.loop-nack.cells.objects live fresh; waits = c.enter_one.ensures.waits ∙ c.loop-nack.invariant.waits })
