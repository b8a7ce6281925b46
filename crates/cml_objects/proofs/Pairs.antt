-- Two base events are the sides of one communication exactly where the laws of their kind say so, by the places of their sides.
use Rattle.std.proofs.Common.{◌≡◌, ℕ, Bool, true, false, not, ◌&&◌, ◌||◌, nat_eq, nat_lt, Option, Some, None, refl, ap, sym, ◌∙◌, inl, inr, arith}
use Rattle.std.specs.Prelude.{◌≢◌, ◌⊎◌, ◌↔◌, IsTrue}
use Rattle.std.specs.Bool.{beq}
use Rattle.std.specs.Option.{option_or}
use Rattle.std.proofs.lemmas.Bool.{and_parts}
use Rattle.std.proofs.lemmas.Bool.Decides.{nat_tests}
use Rattle.cml_value.specs.Value.{PlainBase, send, recv, swap}
use Rattle.cml_value.specs.declared.number.Tid.{Tid}
use Rattle.cml_scan.specs.Scan.{meets, do_meet}
use Rattle.cml_scan.specs.declared.meet.Place.{Place}
use Rattle.cml_objects.specs.declared.pairing.PairedKind.{PairedKind}
use Rattle.cml_objects.specs.declared.pairing.PairedKind.TheVariants.{Channel, Swap}
use Rattle.cml_objects.specs.declared.pairing.PairedId.{PairedId}
use Rattle.cml_objects.specs.declared.pairing.SidePlace.{SidePlace}
use Rattle.cml_objects.specs.declared.channel.ChannelSide.{ChannelSide}
use Rattle.cml_objects.specs.declared.swap.SwapSide.{SwapSide}
use Rattle.cml_objects.specs.contracts.channel.ChannelsPaired.TheImpl.Laws as channel_laws
use Rattle.cml_objects.specs.contracts.swap.SwapChannelsPaired.TheImpl.Laws as swap_laws
use Rattle.cml_objects.specs.Lanes.{is_of}
use Rattle.cml_objects.specs.Pairings.{one_lane, same_object, placed, side_place, leads, leads_by, partner_threads}
use Rattle.cml_objects.specs.Sides as channels
use Rattle.cml_objects.specs.Swaps as swaps

same : (n m : ℕ) → n ≡ m → nat_eq n m ≡ true
same n m e = grind (arith, nat_tests)

one : (n m : ℕ) → nat_eq n m ≡ true → n ≡ m
one n m e = grind (arith, nat_tests)

-- one object, as a test and as a fact

pub same_object_is : (a b : PairedId) → same_object a b ≡ true → a ≡ b
same_object_is a b e = at a.kind a.number b.kind b.number e
  where
    object : PairedKind → ℕ → PairedId
    object k n = record { kind = k; number = n }

    at : (k : PairedKind) (n : ℕ) (j : PairedKind) (m : ℕ) → same_object (object k n) (object j m) ≡ true → object k n ≡ object j m
    at Channel n Channel m e = ap (object Channel) (one n m e)
    at Swap n Swap m e = ap (object Swap) (one n m e)
    at Channel n Swap m e = cc
    at Swap n Channel m e = cc

pub same_object_self : (a : PairedId) → same_object a a ≡ true
same_object_self a = at a.kind a.number
  where
    at : (k : PairedKind) (n : ℕ) → same_object (record { kind = k; number = n }) (record { kind = k; number = n }) ≡ true
    at Channel n = same n n refl
    at Swap n = same n n refl

-- the two are sides of one kind that meet, and the first heads
abbrev pub led_in : {S : Type 0} → (S → Bool) → (S → S → Bool) → Option S → Option S → Bool
led_in is_head do_meet (Some s) (Some t) = is_head s && do_meet s t
led_in is_head do_meet (Some s) None = false
led_in is_head do_meet None t = false

and_false : (b : Bool) → b && false ≡ false
and_false true = refl
and_false false = refl

or_false : (b : Bool) → b || false ≡ b
or_false true = refl
or_false false = refl

-- By the laws of one kind: whether two of its sides meet, the first as the head, by their places.
module _ {S : Type 0} (kind : PairedKind) (key_of : S → ℕ) (is_head : S → Bool) (meet : S → S → Bool) (lane : Bool) (is : one_lane kind ≡ lane)
    (meeting : (s t : S) → IsTrue (meet s t) ↔ ((key_of s ≡ key_of t) × (IsTrue lane ⊎ (is_head s ≢ is_head t)))) (leading : (s : S) → IsTrue lane → IsTrue (is_head s)) where
  abbrev place_of : S → SidePlace
  place_of s = record { object = record { kind = kind; number = key_of s }; heads = is_head s }

  alike : (n m : ℕ) → same_object (record { kind = kind; number = n }) (record { kind = kind; number = m }) ≡ nat_eq n m
  alike n m = at kind
    where
      at : (k : PairedKind) → same_object (record { kind = k; number = n }) (record { kind = k; number = m }) ≡ nat_eq n m
      at Channel = refl
      at Swap = refl

  -- where the one heads, the two meet exactly where the other stands with those whom it meets
  heads : (s t : S) → is_head s ≡ true → meet s t ≡ nat_eq (key_of s) (key_of t) && beq lane (is_head t)
  heads s t e = at (meet s t) refl (nat_eq (key_of s) (key_of t)) refl lane refl (is_head t) refl
    where
      apart : (g : Bool) → is_head t ≡ g → IsTrue lane ⊎ (is_head s ≢ is_head t) → lane ≡ false → g ≡ false
      apart true f (inl l) e_ = let no_ : true ≡ false = sym l ∙ e_ in cc
      apart true f (inr d) e_ = absurd (d (e ∙ sym f))
      apart false f d e_ = refl

      differ : is_head t ≡ false → is_head s ≢ is_head t
      differ f h = let no_ : true ≡ false = sym e ∙ h ∙ f in absurd (never no_)
        where
          never : true ≡ false → ⊥
          never p = cc

      at : (d : Bool) → meet s t ≡ d → (n : Bool) → nat_eq (key_of s) (key_of t) ≡ n → (l : Bool) → lane ≡ l → (g : Bool) → is_head t ≡ g → d ≡ n && beq l g
      at true m true k true l true g = refl
      at true m true k true l false g = let no_ : false ≡ true = sym g ∙ leading t l in cc
      at true m true k false l true g = let no_ : true ≡ false = apart true g ((meeting s t).0 m).1 l in cc
      at true m true k false l false g = refl
      at true m false k l e_ g f = let no_ : false ≡ true = sym k ∙ same (key_of s) (key_of t) ((meeting s t).0 m).0 in cc
      at false m true k true l true g = let no_ : false ≡ true = sym m ∙ (meeting s t).1 (one (key_of s) (key_of t) k, inl l) in cc
      at false m true k true l false g = refl
      at false m true k false l true g = refl
      at false m true k false l false g = let no_ : false ≡ true = sym m ∙ (meeting s t).1 (one (key_of s) (key_of t) k, inr (differ g)) in cc
      at false m false k l e_ g f = refl

  pub led_by_place : (x y : Option S) → led_in is_head meet x y ≡ leads_by (placed kind key_of is_head x) (placed kind key_of is_head y)
  led_by_place None y = refl
  led_by_place (Some s) None = refl
  led_by_place (Some s) (Some t) = at (is_head s) refl
    where
      at : (h : Bool) → is_head s ≡ h → h && meet s t ≡ h && (same_object (record { kind = kind; number = key_of s }) (record { kind = kind; number = key_of t }) && beq (one_lane kind) (is_head t))
      at true e = heads s t e ∙ ap (λ b. b && beq lane (is_head t)) (sym (alike (key_of s) (key_of t)))
          ∙ ap (λ l. same_object (record { kind = kind; number = key_of s }) (record { kind = kind; number = key_of t })
          && beq l (is_head t)) (sym is)
      at false e = refl

-- two base events are the sides of one communication where they are sides of one kind that meet, the first as the head
as_sides : (b c : PlainBase) → meets b c ≡ led_in channels.is_sender channels.meet (channels.side_in b)
    (channels.side_in c) || led_in swaps.can_stand_first swaps.meet (swaps.side_in b) (swaps.side_in c)
as_sides (send c v) (recv d) = sym (or_false (nat_eq c d))
as_sides (send c v) (send d w) = refl
as_sides (send c v) _ = refl
as_sides (recv c) (send d w) = refl
as_sides (recv c) (recv d) = refl
as_sides (recv c) _ = refl
as_sides (swap s v) (swap r w) = refl
as_sides (swap s v) _ = refl
as_sides _ c = refl

-- no base event is a side of two kinds
no_two : (b : PlainBase) (s : ChannelSide) → channels.side_in b ≡ Some s → swaps.side_in b ≡ None
no_two (send c v) s e = refl
no_two (recv c) s e = refl
no_two _ s e = cc

abbrev sent_place : Option ChannelSide → Option SidePlace
sent_place x = placed Channel channels.channel_of channels.is_sender x

abbrev swap_place : Option SwapSide → Option SidePlace
swap_place x = placed Swap swaps.channel_of swaps.can_stand_first x

-- The law of all kinds: two base events are the sides of one communication, the first as its head, exactly where their places say so.
pub meets_by_place : (b c : PlainBase) → meets b c ≡ leads_by (side_place b) (side_place c)
meets_by_place b c =
    as_sides b c
    ∙ rw (
      led_by_place Channel channels.channel_of channels.is_sender channels.meet false refl channel_laws.meeting-law channel_laws.leading-law (channels.side_in b) (channels.side_in c),
      led_by_place Swap swaps.channel_of swaps.can_stand_first swaps.meet true refl swap_laws.meeting-law swap_laws.leading-law (swaps.side_in b) (swaps.side_in c),
    )
    (at (channels.side_in b) (channels.side_in c) (swaps.side_in b) (swaps.side_in c) (no_two b) (no_two c))
  where
    at : (x y : Option ChannelSide) (z w : Option SwapSide) → ((s : ChannelSide) → x ≡ Some s → z ≡ None) → ((s : ChannelSide) → y ≡ Some s → w ≡ None)
        → leads_by (sent_place x) (sent_place y) || leads_by (swap_place z) (swap_place w) ≡ leads_by (option_or (sent_place x) (swap_place z)) (option_or (sent_place y) (swap_place w))
    at (Some s) y (Some z) w f g = let no_ : Some z ≡ None = f s refl in cc
    at x (Some t) z (Some w) f g = let no_ : Some w ≡ None = g t refl in cc
    at (Some s) (Some t) None None f g = or_false _
    at (Some s) None None (Some w) f g = sym (and_false (channels.is_sender s))
    at (Some s) None None None f g = refl
    at None (Some t) (Some z) None f g = refl
    at None (Some t) None None f g = refl
    at None None z w f g = refl

-- Whom a head meets: two leaves communicate where the second stands with those whom the first meets, and is of a thread that it meets.
abbrev pub led_to : Tid → Place → Option SidePlace → Option SidePlace → Bool
led_to tid q (Some s) t = leads_by (Some s) t && is_of (partner_threads s.object.kind tid) q
led_to tid q None t = false

pub do_meet_by_place : (tid : Tid) (b : PlainBase) (q : Place) (c : PlainBase) → do_meet tid.0 b q.tid.0 c ≡ led_to tid q (side_place b) (side_place c)
do_meet_by_place tid b q c = rw (meets_by_place b c, meets_by_place c b) (at (side_place b) (side_place c))
  where
    -- where the first leads the second, the second leads the first exactly in a kind with one lane
    back : (x y : SidePlace) → leads x y ≡ true → leads y x ≡ one_lane x.object.kind
    back x y e =
        let heads : x.heads ≡ true = (and_parts x.heads (same_object x.object y.object && beq (one_lane x.object.kind) y.heads) e).0 in
        let rest = (and_parts x.heads (same_object x.object y.object && beq (one_lane x.object.kind) y.heads) e).1 in
        let object : x.object ≡ y.object = same_object_is x.object y.object (and_parts (same_object x.object y.object) (beq (one_lane x.object.kind) y.heads) rest).0 in
        let lane = (and_parts (same_object x.object y.object) (beq (one_lane x.object.kind) y.heads) rest).1 in
        rw (heads, ← object, same_object_self x.object) (on_ (one_lane x.object.kind) y.heads lane)
      where
        on_ : (l h : Bool) → beq l h ≡ true → h && (true && beq l true) ≡ l
        on_ true true e = refl
        on_ true false e = cc
        on_ false true e = cc
        on_ false false e = refl

    chosen : (k : PairedKind) → not (nat_eq tid.0 q.tid.0) && (not (one_lane k) || nat_lt tid.0 q.tid.0) ≡ is_of (partner_threads k tid) q
    chosen Channel = both tid.0 q.tid.0
      where
        both : (t u : ℕ) → not (nat_eq t u) && (true || nat_lt t u) ≡ not (nat_eq t u)
        both t u = grind (arith, nat_tests)
    chosen Swap = both tid.0 q.tid.0
      where
        both : (t u : ℕ) → not (nat_eq t u) && nat_lt t u ≡ nat_lt t u
        both t u = grind (arith, nat_tests)

    at : (x y : Option SidePlace) → not (nat_eq tid.0 q.tid.0) && (leads_by x y && (not (leads_by y x) || nat_lt tid.0 q.tid.0)) ≡ led_to tid q x y
    at None y = and_false (not (nat_eq tid.0 q.tid.0))
    at (Some x) None = and_false (not (nat_eq tid.0 q.tid.0))
    at (Some x) (Some y) = led (leads x y) refl
      where
        led : (b : Bool) → leads x y ≡ b → not (nat_eq tid.0 q.tid.0) && (b && (not (leads y x) || nat_lt tid.0 q.tid.0)) ≡ b && is_of (partner_threads x.object.kind tid) q
        led true e = rw (back x y e) (chosen x.object.kind)
        led false e = and_false (not (nat_eq tid.0 q.tid.0))
