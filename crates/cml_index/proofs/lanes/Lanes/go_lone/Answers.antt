use Rattle.std.proofs.Common.{◌≡◌, ◌≤◌, ◌∷◌, [], length, Some, None, ap, sym, ◌∙◌, arith}
use Rattle.std.specs.Option.{option_copied}
use Rattle.cml_index.specs.Slots.{slot_in, slot_leaves, lane_at, late_at, going_at, room_at}
use Rattle.cml_index.specs.Stands.{places_in, late_in, going_in, room_in}
use Rattle.cml_index.proofs.Walks.{others_all}
use Rattle.cml_index.proofs.Alone.{lone_gone, lone_own, at_slot}
use Rattle.cml_index.proofs.lanes.Lanes.go_lone.Goals as goal

pub go_lone_at-requires : goal.go_lone_at-requires
go_lone_at-requires c =
    let is : slot_in c.args.wait.now ≡ Some c.in-Some.slot.now = sym c.slot_ref.ensures ∙ ap option_copied c.in-Some.is in
    sym (c.requires.all c.in-Some.slot.now) ∙ ap (λ s. length (slot_leaves c.in-Some.slot.now 0 (s ∷ []))) is ∙ lone_own c.in-Some.slot.now

pub returns-in-Some-clause-lanes : goal.returns-in-Some-clause-lanes
returns-in-Some-clause-lanes c k =
    let old = c.args.self.now in
    let is : slot_in c.args.wait.now ≡ Some c.in-Some.slot.now = sym c.slot_ref.ensures ∙ ap option_copied c.in-Some.is in
    lone_gone c.args.tid c.in-Some.slot.now k (lane_at old) (lane_at c.go_lone_at.new.self) c.go_lone_at.ensures.here.places
    (λ j off. ap places_in (c.go_lone_at.ensures.elsewhere j off))
    (ap (λ s. length (slot_leaves k 0 (s ∷ []))) (sym is) ∙ c.requires.all k)

pub returns-in-Some-clause-late : goal.returns-in-Some-clause-late
returns-in-Some-clause-late c = at_slot (λ k. late_at c.go_lone_at.new.self k ≡ late_at c.args.self.now k) c.in-Some.slot.now
    c.go_lone_at.ensures.here.late (λ j off. ap late_in (c.go_lone_at.ensures.elsewhere j off))

pub returns-in-Some-clause-room : goal.returns-in-Some-clause-room
returns-in-Some-clause-room c = at_slot (λ k. room_at c.args.self.now k ≤ room_at c.go_lone_at.new.self k) c.in-Some.slot.now
    c.go_lone_at.ensures.here.room (λ j off. let same = ap room_in (c.go_lone_at.ensures.elsewhere j off) in omega (arith, same))

pub returns-in-Some-clause-going : goal.returns-in-Some-clause-going
returns-in-Some-clause-going c k = at_slot (λ k. going_at c.go_lone_at.new.self k ≡ going_at c.args.self.now k) c.in-Some.slot.now
    c.go_lone_at.ensures.here.going (λ j off. ap going_in (c.go_lone_at.ensures.elsewhere j off)) k
    ∙ c.requires.idle k

pub returns-in-Some-clause-cost : goal.returns-in-Some-clause-cost
returns-in-Some-clause-cost c digits few = c.go_lone_at.ensures.cost digits (few c.in-Some.slot.now)

pub returns-in-None-clause-lanes : goal.returns-in-None-clause-lanes
returns-in-None-clause-lanes c k =
    let is : slot_in c.args.wait.now ≡ None = sym c.slot_ref.ensures ∙ ap option_copied c.in-None.is in
    sym (others_all c.args.tid (lane_at c.args.self.now k) (sym (c.requires.all k) ∙ ap (λ s. length (slot_leaves k 0 (s ∷ []))) is))
