use Rattle.std.proofs.Common.{rules, true, ◌≡◌, [], ◌∷◌, ◌++◌, length, sym, ◌∙◌, ap, refl, arith, subst, All}
use Rattle.std.specs.Vec.{vec_capacity}
use Rattle.std.proofs.lemmas.List.Elements.{All-nil, All-cons}
use Rattle.cml_value.specs.Group.{bases, lost}
use Rattle.cml_scan.specs.World.{pending}
use Rattle.cml_scan.specs.Table.{IsThere, IsNackOf, nacks_among, has_light}
use Rattle.cml_book.specs.Clock.{bases_awaited}
use Rattle.cml_book.specs.Keeping.{nack_light}
use Rattle.cml_book.proofs.Dimmed.{left_lights, apart_from, single_apart, can_give_after}
use Rattle.cml_book.specs.Leaving.{turned_off, can_give}
use Rattle.cml_book.proofs.Commits.{Alone, alone, single_party, single_gives, flat_is, found, is_there, waits_on}
use Rattle.cml_book.proofs.Commits.{sure_lights, told_lights, told_out, room_for_out, gone_one, base_at, chosen_at}
use Rattle.cml_book.proofs.Commits.{copied_after, room_same, keeps_single, single_returns}
use Rattle.cml_book.proofs.book.Book.commit_single.Given.{Over}
use Rattle.cml_book.proofs.book.Book.commit_single.Goals.{After-leaf-base}
use Rattle.cml_book.proofs.book.Book.commit_single.Goals as goal

pub unreachable-requires : goal.unreachable-requires
unreachable-requires g c =
    let w = c.self.inside.state in
    let has = rw (← c.self.view_is) at c.requires in
    let e = single_party w _ _ _ c.args.tid c.args.leaf c.self.invariant.0 has in
    let p = e.1 in
    found c.waiting.result w c.args.tid.0 p.group c.waiting.ensures p.waits c.in_default.is

pub leaf-base-requires : goal.leaf-base-requires
leaf-base-requires g c =
    let w = c.self.inside.state in
    let has = rw (← c.self.view_is) at c.requires in
    let e = single_party w _ _ _ c.args.tid c.args.leaf c.self.invariant.0 has in
    let p = e.1 in
    let is = flat_is c.waiting.result c.in-Some.flat w c.args.tid.0 p.group c.waiting.ensures p.waits c.in-Some.is in
    rw is p.within

-- the party of the row, whose group was found
alone_here : (g : Over) (c : After-leaf-base g)
    → Alone c.self.inside.state (record {
      lit = vec_capacity c.self.inside.lit;
      unlit = vec_capacity c.self.inside.unlit;
    }) c.args.tid c.args.leaf c.in-Some.flat.now
alone_here g c =
    let has = rw (← c.self.view_is) at c.requires in
    alone c.self.inside.state _ _ _ c.args.tid c.args.leaf c.waiting.result c.in-Some.flat c.self.invariant.0 has c.waiting.ensures c.in-Some.is

-- its base event has what it gives
gives_here : (g : Over) (c : After-leaf-base g) → can_give c.self.inside.state c.leaf-base.result.now ≡ true
gives_here g c =
    let a = alone_here g c in
    single_gives c.self.inside.state _ c.args.tid.0 c.args.leaf a.base a.party c.in-Some.flat.now c.leaf-base.result.now a.is_lit a.same c.leaf-base.ensures

pub spare-requires : goal.spare-requires
spare-requires g c =
    gives_here g (goal.at.spare-requires g c).After-leaf-base

pub push_lights-requires-clause-leaf : goal.push_lights-requires-clause-leaf
push_lights-requires-clause-leaf g c =
    let a = alone_here g (goal.at.push_lights-requires-clause-leaf g c).After-leaf-base in
    rw a.same a.party.within

pub push_lights-requires-clause-room : goal.push_lights-requires-clause-room
push_lights-requires-clause-room g c =
    let a = alone_here g (goal.at.push_lights-requires-clause-room g c).After-leaf-base in
    let none_yet : length c.self.inside.lit.items ≡ 0 = ap length c.self.invariant.1 in
    let fits = a.party.fits.nacks in
    rw a.same (omega arith)

pub push_turned_off-requires-clause-stock : goal.push_turned_off-requires-clause-stock
push_turned_off-requires-clause-stock g c =
    gives_here g (goal.at.push_turned_off-requires-clause-stock g c).After-leaf-base

pub push_turned_off-requires-clause-room : goal.push_turned_off-requires-clause-room
push_turned_off-requires-clause-room g c =
    let a = alone_here g (goal.at.push_turned_off-requires-clause-room g c).After-leaf-base in
    let none_yet : length c.self.inside.unlit.items ≡ 0 = ap length c.self.invariant.2 in
    let fits = a.party.fits.ticks in
    omega arith

pub push_left_ticks-requires : goal.push_left_ticks-requires
push_left_ticks-requires g c =
    let w = c.self.inside.state in
    let a = alone_here g (goal.at.push_left_ticks-requires g c).After-leaf-base in
    rw c.push_turned_off.ensures.room (room_for_out w c.leaf-base.result.now c.self.inside.unlit.items
    c.push_turned_off.new.lights.items c.in-Some.flat.now a.party.group (vec_capacity c.self.inside.unlit)
    c.self.invariant.2 a.same c.push_turned_off.ensures.lights a.party.fits.ticks)

pub change-changed-requires : goal.change-changed-requires
change-changed-requires g c = record {
  ready = record {
    there =
        let w = c.self.inside.state in
        let a = alone_here g (goal.at.change-changed-requires g c).After-leaf-base in
        let there = IsThere (g.T.Table.entries c.self.inside.table) in
        All-cons there c.args.tid [] (is_there w (g.T.Table.entries c.self.inside.table) c.args.tid a.party.group a.party.waits c.self.invariant.0.told_groups) (All-nil there);
    once = search rules;
    new = search rules;
    apart =
        let w = c.self.inside.state in
        let a = alone_here g (goal.at.change-changed-requires g c).After-leaf-base in
        let lights = told_lights c.self.inside.lit.items c.push_lights.new.lights.items c.deref.result.now
        c.in-Some.flat.now a.party.group c.args.leaf c.self.invariant.1 a.same c.push_lights.ensures.lights
        c.deref.ensures.value in
        let dark = told_out w c.leaf-base.result.now c.self.inside.unlit.items c.push_turned_off.new.lights.items
        c.push_left_ticks.new.lights.items c.deref-2.result.now c.in-Some.flat.now a.party.group c.self.invariant.2 a.same
        c.push_turned_off.ensures.lights c.push_left_ticks.ensures.lights c.deref-2.ensures.value in
        apart_from (lost a.party.group c.args.leaf) _ _ lights
        (λ k. ap (λ x. has_light x (nack_light k)) dark
        ∙ single_apart w c.leaf-base.result.now (bases_awaited (pending w)) (bases a.party.group) [] k);
  };
}

pub returns-in_default-changed-clause-sure : goal.returns-in_default-changed-clause-sure
returns-in_default-changed-clause-sure g c = λ sure no_copy wants.
    let w = c.self.inside.state in
    let a = alone_here g (goal.at.returns-in_default-changed-clause-sure g c).After-leaf-base in
    let lights = told_lights c.self.inside.lit.items c.push_lights.new.lights.items c.deref.result.now
    c.in-Some.flat.now a.party.group c.args.leaf c.self.invariant.1 a.same c.push_lights.ensures.lights
    c.deref.ensures.value in
    let all = sure_lights (c.args.tid ∷ []) w.threads (g.T.Table.entries c.self.inside.table) c.args.tid.0 c.args.leaf
    a.party.group a.party.waits c.self.invariant.0.told_groups (gone_one c.args.tid) in
    let ok = c.in_default-changed.ensures.sure sure refl (subst (All (IsNackOf (nacks_among (c.args.tid ∷ []) (g.T.Table.entries c.self.inside.table)))) (sym lights) all) in
    cc

pub go_on-chosen-requires : goal.go_on-chosen-requires
go_on-chosen-requires g c =
    let w = c.self.inside.state in
    let a = alone_here g (goal.at.go_on-chosen-requires g c).After-leaf-base in
    waits_on w _ c.args.tid.0 c.args.leaf _ a.party

pub given-value-requires-clause-stock : goal.given-value-requires-clause-stock
given-value-requires-clause-stock g c =
    let w = c.self.inside.state in
    let a = alone_here g (goal.at.given-value-requires-clause-stock g c).After-leaf-base in
    let gives = gives_here g (goal.at.given-value-requires-clause-stock g c).After-leaf-base in
    let base = chosen_at w c.args.tid.0 c.args.leaf c.go_on-chosen.result.base _ c.go_on-chosen.ensures.leaf
    ∙ sym (base_at w c.args.tid.0 c.args.leaf a.party.group c.in-Some.flat.now c.leaf-base.result.now a.party.waits a.same
    c.leaf-base.ensures) in
    rw (c.go_on-chosen.ensures.world, base) (can_give_after w c.args.tid.0 c.args.leaf c.leaf-base.result.now ∙ gives)

pub given-value-requires-clause-copy : goal.given-value-requires-clause-copy
given-value-requires-clause-copy g c =
    let w = c.self.inside.state in
    let a = alone_here g (goal.at.given-value-requires-clause-copy g c).After-leaf-base in
    let base = chosen_at w c.args.tid.0 c.args.leaf c.go_on-chosen.result.base _ c.go_on-chosen.ensures.leaf
    ∙ sym (base_at w c.args.tid.0 c.args.leaf a.party.group c.in-Some.flat.now c.leaf-base.result.now a.party.waits a.same
    c.leaf-base.ensures) in
    rw (c.go_on-chosen.ensures.world, base) (c.in_ok-copy.ensures.copy ∙ sym (copied_after w c.args.tid.0 c.args.leaf c.leaf-base.result.now))

pub invariant_of-self-2 : goal.invariant_of-self-2
invariant_of-self-2 g c =
    let w = c.self.inside.state in
    let a = alone_here g (goal.at.invariant_of-self-2 g c).After-leaf-base in
    let gives = gives_here g (goal.at.invariant_of-self-2 g c).After-leaf-base in
    let lights = told_lights c.self.inside.lit.items c.push_lights.new.lights.items c.deref.result.now
    c.in-Some.flat.now a.party.group c.args.leaf c.self.invariant.1 a.same c.push_lights.ensures.lights
    c.deref.ensures.value in
    let dark = told_out w c.leaf-base.result.now c.self.inside.unlit.items c.push_turned_off.new.lights.items
    c.push_left_ticks.new.lights.items c.deref-2.result.now c.in-Some.flat.now a.party.group c.self.invariant.2 a.same
    c.push_turned_off.ensures.lights c.push_left_ticks.ensures.lights c.deref-2.ensures.value in
    let base = chosen_at w c.args.tid.0 c.args.leaf c.go_on-chosen.result.base _ c.go_on-chosen.ensures.leaf
    ∙ sym (base_at w c.args.tid.0 c.args.leaf a.party.group c.in-Some.flat.now c.leaf-base.result.now a.party.waits a.same
    c.leaf-base.ensures) in
    let size = room_same (vec_capacity c.self.inside.lit) (vec_capacity c.self.inside.unlit) _ _
    (c.clear.ensures.capacity ∙ c.push_lights.ensures.room)
    (c.clear-2.ensures.capacity ∙ c.push_left_ticks.ensures.room ∙ c.push_turned_off.ensures.room) in
    let out = dark ∙ ap (λ x. turned_off w x ++ left_lights (bases_awaited (pending w)) (bases a.party.group) []) (sym base) in
    let k = keeps_single w (g.T.Table.entries c.self.inside.table) (g.T.Table.is_lit c.self.inside.table) _ c.args.tid
    c.args.leaf a.party.group c.go_on-chosen.result.base (g.T.Table.entries c.change-changed.new.self)
    (g.T.Table.is_lit c.change-changed.new.self)
    c.go_on-chosen.new.self c.given-value.new.self c.deref.result.now c.deref-2.result.now _ c.self.invariant.0 a.party.waits
    (ap (can_give w) base ∙ gives) c.go_on-chosen.ensures.world c.given-value.ensures.world
    lights out c.in-Ok.ensures.ok c.in-Ok.ensures.ok_lit size in
    (k, c.clear.ensures.items, c.clear-2.ensures.items)

pub returns-clause-step : goal.returns-clause-step
returns-clause-step g c =
    let w = c.self.inside.state in
    let has = rw (← c.self.view_is) at c.requires in
    rw (← c.self.view_is)
    (single_returns w c.args.tid c.args.leaf _ _ _ _ c.go_on-chosen.new.self c.given-value.new.self _
    has c.go_on-chosen.ensures.leaf c.go_on-chosen.ensures.world c.given-value.ensures.value c.given-value.ensures.world c.go_on-chosen.ensures.lost refl)
