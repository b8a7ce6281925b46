use Rattle.std.proofs.Common.{◌≡◌, ◌∷◌, [], Some, None, ap, sym, ◌∙◌}
use Rattle.std.specs.Option.{option_copied}
use Rattle.cml_index.specs.Slots.{slot_in, slot_leaves, lane_at, late_at, going_at}
use Rattle.cml_objects.specs.Lanes.{with_run}
use Rattle.cml_index.proofs.Walks.{with_none}
use Rattle.cml_index.proofs.Alone.{lone_came, at_slot, on_ok, on_err}
use Rattle.cml_index.proofs.lanes.Lanes.come_lone.Goals as goal

pub returns-in-Some-clause-lanes : goal.returns-in-Some-clause-lanes
returns-in-Some-clause-lanes c =
    let old = c.args.self.now in
    let is : slot_in c.args.wait.now ≡ Some c.in-Some.slot.now = sym c.slot_ref.ensures ∙ ap option_copied c.in-Some.is in
    on_ok c.come_lone_at.result c.come_lone_at.ensures.here.places (λ here k.
    lone_came c.args.tid c.in-Some.slot.now k (lane_at old) (lane_at c.come_lone_at.new.self) here
    (λ j off. (c.come_lone_at.ensures.elsewhere j off).places) (c.requires.sorted k) (c.requires.new k)
    ∙ ap (λ s. with_run c.args.tid (slot_leaves k 0 (s ∷ [])) (lane_at old k)) (sym is))

pub returns-in-Some-clause-none : goal.returns-in-Some-clause-none
returns-in-Some-clause-none c =
    on_err c.come_lone_at.result c.come_lone_at.ensures.here.none (λ here.
    at_slot (λ k. lane_at c.come_lone_at.new.self k ≡ lane_at c.args.self.now k) c.in-Some.slot.now here
    (λ j off. (c.come_lone_at.ensures.elsewhere j off).places))

pub returns-in-Some-clause-late : goal.returns-in-Some-clause-late
returns-in-Some-clause-late c = at_slot (λ k. late_at c.come_lone_at.new.self k ≡ late_at c.args.self.now k) c.in-Some.slot.now
    c.come_lone_at.ensures.here.late (λ j off. (c.come_lone_at.ensures.elsewhere j off).late)

pub returns-in-Some-clause-going : goal.returns-in-Some-clause-going
returns-in-Some-clause-going c = at_slot (λ k. going_at c.come_lone_at.new.self k ≡ going_at c.args.self.now k) c.in-Some.slot.now
    c.come_lone_at.ensures.here.going (λ j off. (c.come_lone_at.ensures.elsewhere j off).going)

pub returns-in-Some-clause-cost : goal.returns-in-Some-clause-cost
returns-in-Some-clause-cost c digits few = c.come_lone_at.ensures.cost digits (few c.in-Some.slot.now)

pub returns-in-None-clause-lanes : goal.returns-in-None-clause-lanes
returns-in-None-clause-lanes c k =
    let old = c.args.self.now in
    let is : slot_in c.args.wait.now ≡ None = sym c.slot_ref.ensures ∙ ap option_copied c.in-None.is in
    sym (with_none c.args.tid (lane_at old k) (c.requires.sorted k) (c.requires.new k))
    ∙ ap (λ s. with_run c.args.tid (slot_leaves k 0 (s ∷ [])) (lane_at old k)) (sym is)
