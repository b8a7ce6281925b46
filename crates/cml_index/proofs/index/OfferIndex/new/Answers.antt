use Rattle.std.proofs.Common.{◌≡◌, ℕ, Bool, true, false, length, refl, ap, sym, subst, ◌∙◌}
use Rattle.std.specs.List.{filter, list_any}
use Rattle.cml_scan.specs.Order.{IsSorted, Every}
use Rattle.cml_scan.specs.Scan.{offers_of}
use Rattle.cml_objects.specs.Pairings.{one_lane, same_object}
use Rattle.cml_index.specs.declared.slot.Slot.TheVariants.{Side}
use Rattle.cml_index.specs.Slots.{lane_at, lane_of}
use Rattle.cml_index.specs.Stands.{places_in, late_in, going_in}
use Rattle.cml_index.specs.Live.{may_meet, is_in}
use Rattle.cml_index.specs.Posts as spec
use Rattle.cml_index.proofs.Objects.{in_objects}
use Rattle.cml_index.proofs.index.OfferIndex.new.Goals as goal

-- without offers two can not meet
dark : (b : Bool) (m : ℕ) → may_meet b 0 m ≡ false
dark true m = refl
dark false m = refl

pub invariant_of-result : goal.invariant_of-result
invariant_of-result c =
    let none = c.new-entries.ensures in
    let lanes = c.new-lanes.result in
    let live = c.new-live.result in
    let flags = c.new-flags.result.entries in (
      record {
        sorted = subst IsSorted (sym none) tt;
        placed = λ k. ap places_in (c.new-lanes.ensures k) ∙ ap (λ es. lane_of spec.slot_of k (offers_of es)) (sym none);
        sides = λ n. in_objects live n ∙ ap (list_any (same_object n)) c.new-live.ensures
            ∙ sym (ap (λ ps. may_meet (one_lane n.kind) (length ps) (length (lane_at lanes (Side false n))))
            (ap places_in (c.new-lanes.ensures (Side true n)))
            ∙ dark (one_lane n.kind) (length (lane_at lanes (Side false n))));
        counted = λ n on two. let off : is_in live n ≡ false = in_objects live n ∙ ap (list_any (same_object n)) c.new-live.ensures in let no_ : true ≡ false = sym on ∙ off in cc;
        still = λ k. ap going_in (c.new-lanes.ensures k);
        all = ap (λ es. length (offers_of es)) (sym none);
        cross = ap (λ es. length (filter spec.is_crosser es)) (sym none);
        alone = ap (λ es. length (spec.lit_offers flags es)) (sym none);
        named = subst (λ es. Every (λ k. spec.is_named flags (spec.slot_of_nack k)) (spec.nacks_in es)) (sym none) tt;
      },
      λ k. ap late_in (c.new-lanes.ensures k),
    )
