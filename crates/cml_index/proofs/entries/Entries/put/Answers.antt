use Rattle.std.proofs.Common.{◌≡◌, ◌∙◌, ◌<◌, ◌-◌, vec_len, vec_capacity, ◌≤◌, length, true, nat_lt, ap, sym, subst, false, Bool, arith}
use Rattle.cml_index.specs.declared.entries.Seat.{Seat}
use Rattle.cml_index.specs.Seats as spec
use Rattle.cml_index.proofs.Parted.{filter_fewer}
use Rattle.cml_index.proofs.Seated.{seated_fewer}
use Rattle.cml_index.proofs.OwnSeat.{back_at, new_at, IsCome}
use Rattle.cml_index.proofs.entries.Entries.put.Goals as goal

pub overflow_add-self : goal.overflow_add-self
overflow_add-self c =
    let few : length (spec.seated c.self.inside.seats.items) ≤ length c.self.inside.seats.items = seated_fewer c.self.inside.seats.items in
    let room : 0 < vec_capacity c.self.inside.seats - vec_len c.self.inside.seats = subst (λ (x : spec.PlainEntries). 0 < x.room) (sym c.self.view_is) c.requires.room in
    omega (arith, few, room, c.self.invariant.all, c.deref.ensures.len, ap length c.deref.ensures.value, c.self.inside.seats.ok.0, c.self.inside.seats.ok.1)

is_back : (c : goal.After-fill) → IsCome c.args.entry c.self.inside.seats.items c.fill.new.seats.items c.self.inside.pending
is_back c =
    back_at c.self.inside.seats.items c.fill.new.seats.items c.self.inside.pending c.seats_below-at.result c.args.self.now.items c.args.entry c.tid-tid.result
    c.self.invariant (c.seats_below-at.ensures ∙ ap (spec.count_seats c.tid-tid.result.0) c.deref.ensures.value)
    (ap (λ (x : spec.PlainEntries). x.items) c.self.view_is) (sym c.tid-tid.ensures) c.requires.new
    (rw c.deref-2.ensures.value at (c.has_seat.ensures.0 c.if-has_seat.true)) c.fill.ensures.seats

pub invariant_of-self : goal.invariant_of-self
invariant_of-self c = (is_back c).seats

pub insert_in_room-requires-clause-within : goal.insert_in_room-requires-clause-within
insert_in_room-requires-clause-within c =
    let ss = c.self.inside.seats.items in
    let t = c.tid-tid.result.0 in
    let at : c.seats_below-at.result ≡ spec.count_seats t ss = c.seats_below-at.ensures ∙ ap (spec.count_seats t) c.deref.ensures.value in
    let few : spec.count_seats t ss ≤ length ss = filter_fewer (λ (s : Seat). nat_lt s.tid.0 t) ss in
    omega (arith, at, few)

not_both : (b : Bool) → b ≡ false → b ≡ true → ⊥
not_both b off on_ = cc

is_new : (c : goal.After-insert_in_room) → IsCome c.args.entry c.self.inside.seats.items c.insert_in_room.new.seats.items c.self.inside.pending
is_new c =
    new_at c.self.inside.seats.items c.insert_in_room.new.seats.items c.self.inside.pending c.seats_below-at.result c.args.entry c.tid-tid.result
    c.self.invariant (c.seats_below-at.ensures ∙ ap (spec.count_seats c.tid-tid.result.0) c.deref.ensures.value)
    (sym c.tid-tid.ensures) (λ f. not_both c.has_seat.result c.if-has_seat.false
    (c.has_seat.ensures.1 (rw c.deref-2.ensures.value f))) c.insert_in_room.ensures

pub invariant_of-self-else-has_seat : goal.invariant_of-self-else-has_seat
invariant_of-self-else-has_seat c = (is_new c).seats

pub returns-then-has_seat : goal.returns-then-has_seat
returns-then-has_seat c = rw (← c.self.view_is) ((is_back c).all)

pub returns-else-has_seat : goal.returns-else-has_seat
returns-else-has_seat c = rw (← c.self.view_is) ((is_new c).all)
