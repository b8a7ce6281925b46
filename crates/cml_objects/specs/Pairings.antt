-- The kinds of objects over which two threads meet: for each kind a line here. What is said of sides is said by the kind's own definitions.
use Rattle.std.specs.Prelude.{ℕ, ◌≡◌, Bool, true, false, ◌&&◌, if◌then◌else◌, Option, Some, None, option_map}
use Rattle.std.specs.Bool.{beq}
use Rattle.std.specs.Option.{option_or}
use Rattle.cml_value.specs.Value.{PlainValue, PlainBase}
use Rattle.cml_value.specs.declared.number.Tid.{Tid}
use Rattle.cml_objects.specs.declared.pairing.PairedKind.{PairedKind}
use Rattle.cml_objects.specs.declared.pairing.PairedKind.TheVariants.{Channel, Swap}
use Rattle.cml_objects.specs.declared.pairing.PairedId.{PairedId}
use Rattle.cml_objects.specs.declared.pairing.SidePlace.{SidePlace}
use Rattle.cml_objects.specs.contracts.pairing.PairedIdPartialEq.TheImpl as derived
use Rattle.cml_objects.specs.declared.lane.PartnerThreads.{PartnerThreads}
use Rattle.cml_objects.specs.declared.lane.PartnerThreads.TheVariants.{Others, Above}
use Rattle.cml_objects.specs.Sides as channels
use Rattle.cml_objects.specs.Swaps as swaps

-- all sides of an object of the kind are alike
abbrev pub one_lane : PairedKind → Bool
one_lane Channel = false
one_lane Swap = true

-- the two are the same object
abbrev pub same_object : PairedId → PairedId → Bool
same_object = derived.ghosts.eq

-- the place of a side of this kind
abbrev pub placed : {S : Type 0} → PairedKind → (S → ℕ) → (S → Bool) → Option S → Option SidePlace
placed kind key_of is_head side = option_map (λ s. record { object = record { kind = kind; number = key_of s }; heads = is_head s }) side

-- the place of the side that a base event is, if it is one
abbrev pub side_place : PlainBase → Option SidePlace
side_place b =
    option_or (placed Channel channels.channel_of channels.is_sender (channels.side_in b)) (placed Swap swaps.channel_of swaps.can_stand_first (swaps.side_in b))

-- The first is a head, and the second stands in the lane of those that the first can meet: on the other side of the object, or, where all
-- sides are alike, on the same side.
abbrev pub leads : SidePlace → SidePlace → Bool
leads s t = s.heads && (same_object s.object t.object && beq (one_lane s.object.kind) t.heads)

abbrev pub leads_by : Option SidePlace → Option SidePlace → Bool
leads_by (Some s) (Some t) = leads s t
leads_by (Some s) None = false
leads_by None t = false

-- Whom a head of the thread meets there: the offers of other threads, or, where all sides are alike, of the threads above it.
abbrev pub partner_threads : PairedKind → Tid → PartnerThreads
partner_threads kind tid = if one_lane kind then Above tid else Others tid

-- the two base events are sides of one kind, and meet
abbrev pub do_meet_in : {S : Type 0} → (S → S → Bool) → Option S → Option S → Bool
do_meet_in do_meet (Some s) (Some t) = do_meet s t
do_meet_in do_meet (Some s) None = false
do_meet_in do_meet None t = false

-- each of the two is given what the other hands over
abbrev pub HandedIn : {S : Type 0} → (S → PlainValue) → Option S → Option S → PlainValue × PlainValue → Type 0
HandedIn handed_by (Some s) (Some t) given = given ≡ (handed_by t, handed_by s)
HandedIn handed_by (Some s) None given = ⊥
HandedIn handed_by None t given = ⊥
