-- The heads of the channels that are kept, where no thread may stand on both sides of one.
use Rattle.std.proofs.Common.{◌≡◌, ℕ, ◌+◌, ◌<◌, ◌≤◌, Bool, true, false, nat_eq, nat_lt, List, map, drop, length, refl, ap, sym, subst, ◌∙◌, arith}
use Rattle.std.specs.List.{filter, list_any, IsDistinct}
use Rattle.std.proofs.lemmas.Bool.{and_parts}
use Rattle.std.proofs.lemmas.Bool.Decides.{nat_tests}
use Rattle.cml_scan.specs.World.{PlainEntry}
use Rattle.cml_scan.specs.Scan.{offers_of}
use Rattle.cml_scan.specs.Order.{has_partner}
use Rattle.cml_objects.specs.Pairings.{same_object}
use Rattle.cml_objects.specs.declared.pairing.PairedId.{PairedId}
use Rattle.cml_index.specs.declared.lanes.Lanes.{Lanes}
use Rattle.cml_index.specs.declared.live.Live.{Live}
use Rattle.cml_index.specs.declared.slot.Slot.{Slot}
use Rattle.cml_index.specs.declared.slot.Slot.TheVariants.{Side}
use Rattle.cml_index.specs.HeadCounts.{head_count_of}
use Rattle.cml_index.specs.Slots.{lane_at, lane_of}
use Rattle.cml_index.specs.Live.{is_live, objects, kept_heads}
use Rattle.cml_index.specs.Heads.{heads_on, head_total}
use Rattle.cml_index.specs.Posts.{slot_of, AreIndexed}
use Rattle.cml_index.proofs.Objects.{channel, swap}
use Rattle.cml_index.proofs.Parted.{filter_fewer}
use Rattle.cml_index.proofs.Counted.{total, head_total_is, both_kept, all_met}
use Rattle.cml_index.proofs.Crossed.{channel_heads}
use Rattle.cml_index.proofs.Summed.{channel_total, total-append, drop_first}

positive : (n : ℕ) → nat_lt 0 n ≡ true → 0 < n
positive n e = grind (arith, nat_tests)

module _ (es : List PlainEntry) (lanes : Lanes) (live : Live) (flags : List (Slot × Bool)) (leaves crossing lit : ℕ)
    (x : AreIndexed es lanes live flags leaves crossing lit) (nobody : crossing ≡ 0) where
  abbrev heads : PairedId → ℕ
  heads n = length (heads_on (offers_of es) n)

  each : (m : ℕ) → list_any (λ y. nat_eq m y) live.channels.items ≡ true → heads (channel m) ≡ head_count_of live.channels m
  each m e =
      let lively : is_live lanes (channel m) ≡ true = sym (x.sides (channel m)) ∙ e in
      let both = and_parts (nat_lt 0 (length (lane_at lanes (Side true (channel m))))) (nat_lt 0 (length (lane_at lanes (Side false (channel m))))) lively in
      let some : 0 < length (lane_of slot_of (Side false (channel m)) (offers_of es)) = positive
      (length (lane_of slot_of (Side false (channel m)) (offers_of es)))
      (subst (λ ps. nat_lt 0 (length ps) ≡ true) (x.placed (Side false (channel m))) both.1) in
      channel_heads es x.sorted (sym x.cross ∙ nobody) m some ∙ ap length (sym (x.placed (Side true (channel m)))) ∙ sym (x.counted (channel m) e refl)

  on_channels : total heads (map channel live.channels.items) ≡ kept_heads live
  on_channels = channel_total (head_count_of live.channels) heads live.channels.items each

  parts : total heads (objects live) ≡ total heads (map channel live.channels.items) + total heads (map swap live.swaps.items)
  parts = total-append heads (map channel live.channels.items) (map swap live.swaps.items)

  -- they are no more than the leaves
  pub kept_few : IsDistinct same_object (objects live) → kept_heads live ≤ leaves
  kept_few once =
      let both = both_kept lanes live (offers_of es) x.sides x.placed in
      let whole = all_met (offers_of es) (objects live) once both in
      let few : length (filter (has_partner (offers_of es)) (offers_of es)) ≤ length (offers_of es) = filter_fewer (has_partner (offers_of es)) (offers_of es) in
      let sum = on_channels in
      let two = parts in
      omega (arith, whole, few, sum, two, x.all)

  -- with those of the swap channels they are all
  pub kept_rest : kept_heads live + head_total (offers_of es) (drop (length live.channels.items) (objects live)) ≡ head_total (offers_of es) (objects live)
  kept_rest =
      let a = head_total_is (offers_of es) (objects live) in
      let b : head_total (offers_of es) (drop (length live.channels.items) (objects live))
      ≡ total heads (map swap live.swaps.items) = ap (head_total (offers_of es))
      (drop_first live.channels.items (map swap live.swaps.items))
      ∙ head_total_is (offers_of es) (map swap live.swaps.items) in
      let sum = on_channels in
      let two = parts in
      omega (arith, a, b, sum, two)
