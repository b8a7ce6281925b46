use Rattle.std.proofs.Common.{◌∙◌, [], ◌∷◌, take, get_or, subst, sym}
use Rattle.std.proofs.lemmas.List.{take_more}
use Rattle.cml_scan.specs.Order.{Every}
use Rattle.cml_scan.proofs.Ordered.{Every-weaker, Every-append}
use Rattle.cml_index.specs.Posts as spec
use Rattle.cml_index.proofs.nacks.reserve_nacks.Goals as goal

pub loop-nack-preserved : goal.loop-nack-preserved
loop-nack-preserved c =
    let xs = c.args.nacks.now in
    let i = c.loop-nack.nack-index in
    record {
      told = λ m. c.reserve.ensures.kept.same m ∙ c.loop-nack.invariant.told m;
      there = subst (Every (λ k. spec.is_named c.reserve.new.flags.entries (spec.slot_of_nack k))) (sym (take_more xs i 0 c.loop-nack-test.true))
          (Every-append (λ k. spec.is_named c.reserve.new.flags.entries (spec.slot_of_nack k)) (take i xs) (get_or xs i 0 ∷ [])
          (Every-weaker (λ k. spec.is_named c.loop-nack.flags.entries (spec.slot_of_nack k))
          (λ k. spec.is_named c.reserve.new.flags.entries (spec.slot_of_nack k)) (take i xs)
          (λ k h. c.reserve.ensures.kept.named (spec.slot_of_nack k) h) c.loop-nack.invariant.there)
          (c.in_ok-reserve.ensures.there, tt));
      kept = λ k h. c.reserve.ensures.kept.named k (c.loop-nack.invariant.kept k h);
    }
