use Rattle.std.proofs.Common.{rules, ◌≡◌, [], ◌∷◌, ◌++◌, length, map, sym, ◌∙◌, ap, refl, arith, subst, All}
use Rattle.std.specs.Vec.{vec_capacity}
use Rattle.std.proofs.lemmas.List.{map-append}
use Rattle.std.proofs.lemmas.List.Elements.{All-nil, All-cons, All-append}
use Rattle.cml_value.specs.Value.{PlainValue}
use Rattle.cml_value.specs.Group.{bases, lost}
use Rattle.cml_scan.specs.World.{pending}
use Rattle.cml_scan.specs.Table.{IsThere, IsNackOf, nacks_among, has_light}
use Rattle.cml_book.specs.Clock.{bases_awaited}
use Rattle.cml_book.specs.Keeping.{nack_light}
use Rattle.cml_book.proofs.Dimmed.{apart_from, pair_apart}
use Rattle.cml_book.proofs.Commits.{Met, met, pair_parties, found, is_there, waits_on, second_waits, sure_lights}
use Rattle.cml_book.proofs.Commits.{told_two, told_both_out, room_for_both, room_same, gone_two, two_differ}
use Rattle.cml_book.proofs.Commits.{room_for_two, keeps_pair, chosen_meet, pair_returns}
use Rattle.cml_book.proofs.book.Book.commit_pair.Given.{Over}
use Rattle.cml_book.proofs.book.Book.commit_pair.Goals.{In-Some-waiting}
use Rattle.cml_book.proofs.book.Book.commit_pair.Goals as goal

pub unreachable-requires : goal.unreachable-requires
unreachable-requires g c =
    let w = c.self.inside.state in
    let has = rw (← c.self.view_is) at c.requires in
    let p = pair_parties w _ _ _ c.args.head c.args.head_leaf c.args.other c.args.other_leaf c.self.invariant.0 has in
    found c.waiting.result w c.args.head.0 p.head.group c.waiting.ensures p.head.waits c.in_default.is

pub unreachable-requires-in_default-waiting : goal.unreachable-requires-in_default-waiting
unreachable-requires-in_default-waiting g c =
    let w = c.self.inside.state in
    let has = rw (← c.self.view_is) at c.requires in
    let p = pair_parties w _ _ _ c.args.head c.args.head_leaf c.args.other c.args.other_leaf c.self.invariant.0 has in
    found c.waiting-2.result w c.args.other.0 p.other.group c.waiting-2.ensures p.other.waits c.in_default-waiting.is

-- the parties of the row, whose groups were found
met_here : (g : Over) (c : In-Some-waiting g)
    → Met c.self.inside.state (record {
      lit = vec_capacity c.self.inside.lit;
      unlit = vec_capacity c.self.inside.unlit;
    }) c.args.head c.args.head_leaf c.args.other c.args.other_leaf c.in-Some.first.now c.in-Some-waiting.second.now
met_here g c =
    let has = rw (← c.self.view_is) at c.requires in
    met c.self.inside.state _ _ _ c.args.head c.args.head_leaf c.args.other c.args.other_leaf c.waiting.result
    c.in-Some.first c.waiting-2.result c.in-Some-waiting.second c.self.invariant.0 has c.waiting.ensures
    c.in-Some.is c.waiting-2.ensures c.in-Some-waiting.is

pub push_lights-requires-clause-leaf : goal.push_lights-requires-clause-leaf
push_lights-requires-clause-leaf g c =
    let m = met_here g (goal.at.push_lights-requires-clause-leaf g c).In-Some-waiting in
    let p = m.parties in
    rw m.first_same p.head.within

pub push_lights-requires-clause-room : goal.push_lights-requires-clause-room
push_lights-requires-clause-room g c =
    let m = met_here g (goal.at.push_lights-requires-clause-room g c).In-Some-waiting in
    let p = m.parties in
    let none_yet : length c.self.inside.lit.items ≡ 0 = ap length c.self.invariant.1 in
    let fits = p.head.fits.nacks in
    rw m.first_same (omega arith)

pub push_lights-requires-2-clause-leaf : goal.push_lights-requires-2-clause-leaf
push_lights-requires-2-clause-leaf g c =
    let m = met_here g (goal.at.push_lights-requires-2-clause-leaf g c).In-Some-waiting in
    let p = m.parties in
    rw m.second_same p.other.within

pub push_lights-requires-2-clause-room : goal.push_lights-requires-2-clause-room
push_lights-requires-2-clause-room g c =
    let m = met_here g (goal.at.push_lights-requires-2-clause-room g c).In-Some-waiting in
    let p = m.parties in
    rw c.push_lights.ensures.room (room_for_two c.self.inside.lit.items c.push_lights.new.lights.items
    c.in-Some.first.now c.in-Some-waiting.second.now p.head.group p.other.group c.args.head_leaf
    (vec_capacity c.self.inside.lit)
    c.self.invariant.1 m.first_same m.second_same c.push_lights.ensures.lights p.head.fits.nacks p.other.fits.nacks)

pub push_left_ticks-requires : goal.push_left_ticks-requires
push_left_ticks-requires g c =
    let m = met_here g (goal.at.push_left_ticks-requires g c).In-Some-waiting in
    let p = m.parties in
    let none_yet : length c.self.inside.unlit.items ≡ 0 = ap length c.self.invariant.2 in
    let fits = p.head.fits.ticks in
    rw m.first_same (omega arith)

pub push_left_ticks-requires-2 : goal.push_left_ticks-requires-2
push_left_ticks-requires-2 g c =
    let w = c.self.inside.state in
    let m = met_here g (goal.at.push_left_ticks-requires-2 g c).In-Some-waiting in
    let p = m.parties in
    rw c.push_left_ticks.ensures.room (room_for_both (bases_awaited (pending w)) c.self.inside.unlit.items
    c.push_left_ticks.new.lights.items c.in-Some.first.now c.in-Some-waiting.second.now p.head.group p.other.group
    (vec_capacity c.self.inside.unlit)
    c.self.invariant.2 m.first_same m.second_same c.push_left_ticks.ensures.lights p.head.fits.ticks p.other.fits.ticks)

pub change-changed-requires : goal.change-changed-requires
change-changed-requires g c = record {
  ready = record {
    there =
        let w = c.self.inside.state in
        let m = met_here g (goal.at.change-changed-requires g c).In-Some-waiting in
        let p = m.parties in
        let there = IsThere (g.T.Table.entries c.self.inside.table) in
        All-cons there c.args.head (c.args.other ∷ []) (is_there w (g.T.Table.entries c.self.inside.table) c.args.head p.head.group p.head.waits c.self.invariant.0.told_groups)
        (All-cons there c.args.other [] (is_there w (g.T.Table.entries c.self.inside.table) c.args.other p.other.group p.other.waits c.self.invariant.0.told_groups) (All-nil there));
    once =
        let m = met_here g (goal.at.change-changed-requires g c).In-Some-waiting in
        let p = m.parties in
        two_differ c.args.head c.args.other p.differ;
    new = search rules;
    apart =
        let w = c.self.inside.state in
        let m = met_here g (goal.at.change-changed-requires g c).In-Some-waiting in
        let p = m.parties in
        let lights = told_two c.self.inside.lit.items c.push_lights.new.lights.items c.push_lights-2.new.lights.items
        c.deref.result.now c.in-Some.first.now c.in-Some-waiting.second.now p.head.group p.other.group
        c.args.head_leaf c.args.other_leaf c.self.invariant.1 m.first_same m.second_same c.push_lights.ensures.lights c.push_lights-2.ensures.lights c.deref.ensures.value in
        let dark = told_both_out w c.self.inside.unlit.items c.push_left_ticks.new.lights.items
        c.push_left_ticks-2.new.lights.items c.deref-2.result.now c.in-Some.first.now
        c.in-Some-waiting.second.now p.head.group p.other.group
        c.self.invariant.2 m.first_same m.second_same c.push_left_ticks.ensures.lights c.push_left_ticks-2.ensures.lights c.deref-2.ensures.value in
        apart_from (lost p.head.group c.args.head_leaf ++ lost p.other.group c.args.other_leaf) _ _
        (lights ∙ sym (map-append nack_light (lost p.head.group c.args.head_leaf)
        (lost p.other.group c.args.other_leaf)))
        (λ k. ap (λ x. has_light x (nack_light k)) dark ∙ pair_apart (bases_awaited (pending w)) (bases p.head.group) (bases p.other.group) (bases p.other.group) (bases p.head.group) k);
  };
}

pub returns-in_err-changed-clause-sure : goal.returns-in_err-changed-clause-sure
returns-in_err-changed-clause-sure g c = λ sure wants.
    let w = c.self.inside.state in
    let m = met_here g (goal.at.returns-in_err-changed-clause-sure g c).In-Some-waiting in
    let p = m.parties in
    let lights = told_two c.self.inside.lit.items c.push_lights.new.lights.items c.push_lights-2.new.lights.items
    c.deref.result.now c.in-Some.first.now c.in-Some-waiting.second.now p.head.group p.other.group
    c.args.head_leaf c.args.other_leaf c.self.invariant.1 m.first_same m.second_same c.push_lights.ensures.lights c.push_lights-2.ensures.lights c.deref.ensures.value in
    let gone = c.args.head ∷ c.args.other ∷ [] in
    let es = g.T.Table.entries c.self.inside.table in
    let firsts = sure_lights gone w.threads es c.args.head.0 c.args.head_leaf p.head.group p.head.waits c.self.invariant.0.told_groups (gone_two c.args.head c.args.other).0 in
    let seconds = sure_lights gone w.threads es c.args.other.0 c.args.other_leaf p.other.group p.other.waits c.self.invariant.0.told_groups (gone_two c.args.head c.args.other).1 in
    let all = All-append (IsNackOf (nacks_among gone es)) (map nack_light (lost p.head.group c.args.head_leaf)) (map nack_light (lost p.other.group c.args.other_leaf)) firsts seconds in
    let ok = c.in_err-changed.ensures.sure sure refl (subst (All (IsNackOf (nacks_among gone es))) (sym lights) all) in
    cc

pub go_on-first-requires : goal.go_on-first-requires
go_on-first-requires g c =
    let w = c.self.inside.state in
    let p = (met_here g (goal.at.go_on-first-requires g c).In-Some-waiting).parties in
    waits_on w _ c.args.head.0 c.args.head_leaf _ p.head

pub go_on-second-requires : goal.go_on-second-requires
go_on-second-requires g c =
    let w = c.self.inside.state in
    let p = (met_here g (goal.at.go_on-second-requires g c).In-Some-waiting).parties in
    second_waits w _ _ _ c.args.head c.args.head_leaf c.args.other c.args.other_leaf p.head.group p.other.group
    c.go_on-first.new.self c.self.invariant.0 p.head.waits p.other.waits p.differ p.other.within c.go_on-first.ensures.world

pub hands-to_head-requires : goal.hands-to_head-requires
hands-to_head-requires g c =
    let w = c.self.inside.state in
    let p = (met_here g (goal.at.hands-to_head-requires g c).In-Some-waiting).parties in
    chosen_meet w _ c.args.head c.args.head_leaf c.args.other c.args.other_leaf _ _ _ _ c.go_on-first.new.self p c.go_on-first.ensures.world c.go_on-first.ensures.leaf c.go_on-second.ensures.leaf

pub invariant_of-self-2 : goal.invariant_of-self-2
invariant_of-self-2 g c =
    let w = c.self.inside.state in
    let m = met_here g (goal.at.invariant_of-self-2 g c).In-Some-waiting in
    let p = m.parties in
    let lights = told_two c.self.inside.lit.items c.push_lights.new.lights.items c.push_lights-2.new.lights.items
    c.deref.result.now c.in-Some.first.now c.in-Some-waiting.second.now p.head.group p.other.group
    c.args.head_leaf c.args.other_leaf c.self.invariant.1 m.first_same m.second_same c.push_lights.ensures.lights c.push_lights-2.ensures.lights c.deref.ensures.value in
    let dark = told_both_out w c.self.inside.unlit.items c.push_left_ticks.new.lights.items
    c.push_left_ticks-2.new.lights.items c.deref-2.result.now c.in-Some.first.now c.in-Some-waiting.second.now
    p.head.group p.other.group
    c.self.invariant.2 m.first_same m.second_same c.push_left_ticks.ensures.lights c.push_left_ticks-2.ensures.lights c.deref-2.ensures.value in
    let size = room_same (vec_capacity c.self.inside.lit) (vec_capacity c.self.inside.unlit) _ _
    (c.clear.ensures.capacity ∙ c.push_lights-2.ensures.room ∙ c.push_lights.ensures.room)
    (c.clear-2.ensures.capacity ∙ c.push_left_ticks-2.ensures.room ∙ c.push_left_ticks.ensures.room) in
    let k = keeps_pair w (g.T.Table.entries c.self.inside.table) (g.T.Table.is_lit c.self.inside.table) _ c.args.head c.args.head_leaf c.args.other c.args.other_leaf p.head.group p.other.group
    (g.T.Table.entries c.change-changed.new.self) (g.T.Table.is_lit c.change-changed.new.self) c.go_on-first.new.self c.go_on-second.new.self
    c.deref.result.now c.deref-2.result.now _ c.self.invariant.0 p.head.waits p.other.waits p.differ c.go_on-first.ensures.world c.go_on-second.ensures.world
    lights dark c.in_ok-changed.ensures.ok c.in_ok-changed.ensures.ok_lit size in
    (k, c.clear.ensures.items, c.clear-2.ensures.items)

pub returns-clause-step : goal.returns-clause-step
returns-clause-step g c =
    let w = c.self.inside.state in
    let has = rw (← c.self.view_is) at c.requires in
    let p = pair_parties w _ _ _ c.args.head c.args.head_leaf c.args.other c.args.other_leaf c.self.invariant.0 has in
    rw (← c.self.view_is)
    (pair_returns w c.args.head c.args.head_leaf c.args.other c.args.other_leaf _ _ _ _ _ _ _ _ c.go_on-first.new.self c.go_on-second.new.self _ _
    has p.differ c.go_on-first.ensures.world c.go_on-second.ensures.world
    c.go_on-first.ensures.leaf c.go_on-first.ensures.lost c.go_on-second.ensures.leaf c.go_on-second.ensures.lost
    (ap (λ (x : PlainValue × PlainValue). x.0) c.hands-to_head.ensures)
    (ap (λ (x : PlainValue × PlainValue). x.1) c.hands-to_head.ensures) refl refl)
