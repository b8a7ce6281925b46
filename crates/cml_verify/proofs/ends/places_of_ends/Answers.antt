use Rattle.std.proofs.Common.{◌≡◌, ◌<◌, ◌+◌, false, Some, length, slice_get, refl, ap, sym, subst, ◌∙◌, arith}
use Rattle.std.specs.List.{All}
use Rattle.std.proofs.lemmas.List.Elements.{All-push}
use Rattle.std.proofs.lemmas.Option.{slice_get_read}
use Rattle.cml_hub.specs.Runs.{terminal}
use Rattle.cml_verify.specs.Ends.{IsEndAt, EachEndIsAmong}
use Rattle.cml_verify.proofs.Endings.{end_told, no_end, ArePlacesApart, below_more, below_push, apart_push}
use Rattle.cml_verify.proofs.ends.places_of_ends.Goals as goal
use Rattle.cml_verify.proofs.ends.places_of_ends.Goals.{then-ends+in_ok-push, else-ends}

pub loop-k-preserved : goal.loop-k-preserved
loop-k-preserved c =
    let kept = c.args.kept.now in
    let places = c.loop-k.places.items in
    let k = c.loop-k.k in
    let before = c.loop-k.invariant in
    let lt : k < length kept = omega arith in
    let a = c.index-kept-k.result in
    let at : slice_get kept k ≡ Some a = slice_get_read kept (length kept) k a refl lt c.index-kept-k.is in
    elim c.if-ends.branch [
      | then-ends+in_ok-push w ↦
          let after = ap (λ v. v.items) w.places-is ∙ w.in_ok-push.ensures.items in
          let here : IsEndAt kept k = record { one = a; at = at; over = sym c.ends.ensures ∙ w.if-ends.true } in
          record {
            within = subst (All (λ j. j < length kept)) (sym after) (All-push (λ j. j < length kept) places k before.within lt);
            each = subst (All (IsEndAt kept)) (sym after) (All-push (IsEndAt kept) places k before.each here);
            all = subst (λ l. EachEndIsAmong kept l (k + 1)) (sym after) (end_told kept k places before.all);
            below = subst (All (λ j. j < k + 1)) (sym after) (below_push places k before.below);
            apart = subst ArePlacesApart (sym after) (apart_push places k before.below before.apart);
          }
      | else-ends w ↦
          let same = ap (λ v. v.items) w.places-is in
          let goes : terminal a.world ≡ false = sym c.ends.ensures ∙ w.if-ends.false in
          record {
            within = subst (All (λ j. j < length kept)) (sym same) before.within;
            each = subst (All (IsEndAt kept)) (sym same) before.each;
            all = subst (λ l. EachEndIsAmong kept l (k + 1)) (sym same) (no_end kept k places before.all a at goes);
            below = subst (All (λ j. j < k + 1)) (sym same) (below_more places k before.below);
            apart = subst ArePlacesApart (sym same) before.apart;
          }
    ]
