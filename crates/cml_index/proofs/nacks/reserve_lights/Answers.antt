use Rattle.std.proofs.Common.{◌∙◌, [], ◌∷◌, take, get_or, subst, sym}
use Rattle.std.proofs.lemmas.List.{take_more}
use Rattle.cml_scan.specs.Order.{Every}
use Rattle.cml_scan.specs.declared.object.Light.TheVariants as of
use Rattle.cml_scan.proofs.Ordered.{Every-weaker, Every-append}
use Rattle.cml_index.specs.declared.slot.Slot.TheVariants.{Waiters}
use Rattle.cml_index.specs.Posts as spec
use Rattle.cml_index.proofs.Lit.{at_place}
use Rattle.cml_index.proofs.nacks.reserve_lights.Goals as goal

pub returns-in_err-reserve-clause-sure : goal.returns-in_err-reserve-clause-sure
returns-in_err-reserve-clause-sure c = λ each.
    let d = of.IVar (record { 0 = 0 }) in
    let named = at_place (λ l. spec.is_named c.args.flags.now.entries (Waiters l)) c.args.lights.now c.loop-light.light-index d c.loop-light-test.true each in
    let ok = c.in_err-reserve.ensures.sure (c.loop-light.invariant.kept (Waiters (get_or c.args.lights.now c.loop-light.light-index d)) named) in
    cc

pub loop-light-preserved : goal.loop-light-preserved
loop-light-preserved c =
    let xs = c.args.lights.now in
    let i = c.loop-light.light-index in
    record {
      told = λ m. c.reserve.ensures.kept.same m ∙ c.loop-light.invariant.told m;
      there = subst (Every (λ l. spec.is_named c.reserve.new.flags.entries (Waiters l))) (sym (take_more xs i _ c.loop-light-test.true))
          (Every-append (λ l. spec.is_named c.reserve.new.flags.entries (Waiters l)) (take i xs) (get_or xs i _ ∷ [])
          (Every-weaker (λ l. spec.is_named c.loop-light.flags.entries (Waiters l))
          (λ l. spec.is_named c.reserve.new.flags.entries (Waiters l)) (take i xs)
          (λ l h. c.reserve.ensures.kept.named (Waiters l) h) c.loop-light.invariant.there)
          (c.in_ok-reserve.ensures.there, tt));
      kept = λ k h. c.reserve.ensures.kept.named k (c.loop-light.invariant.kept k h);
    }
