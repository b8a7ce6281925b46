use Rattle.std.proofs.Common.{◌≡◌, ◌∙◌, ap, arith}
use Rattle.cml_index.specs.Seats as spec
use Rattle.cml_index.proofs.OwnSeat.{seat_found, seat_taken, taken, IsGone}
use Rattle.cml_index.proofs.entries.Entries.take.Goals as goal

pub vacate-requires : goal.vacate-requires
vacate-requires c =
    let at : c.seats_below-at.result ≡ spec.count_seats c.args.tid.0 c.self.inside.seats.items = c.seats_below-at.ensures ∙ ap (spec.count_seats c.args.tid.0) c.deref.ensures.value in
    let has = seat_found c.args.tid c.self.inside.seats.items c.self.inside.pending c.args.self.now.items c.self.invariant (ap (λ (x : spec.PlainEntries). x.items) c.self.view_is) c.requires in
    omega (arith, at, has.within)

pub unreachable-requires : goal.unreachable-requires
unreachable-requires c =
    seat_taken c.args.tid c.self.inside.seats.items c.self.inside.pending c.seats_below-at.result c.args.self.now.items c.vacate.result c.self.invariant
    (c.seats_below-at.ensures ∙ ap (spec.count_seats c.args.tid.0) c.deref.ensures.value) (ap (λ (x : spec.PlainEntries). x.items) c.self.view_is) c.requires c.vacate.ensures.entry c.in_default.is

is_gone : (c : goal.After-self-1) → IsGone c.args.tid c.self.inside.seats.items c.vacate.new.seats.items c.self.inside.pending c.in-Some.entry
is_gone c =
    taken c.args.tid c.self.inside.seats.items c.vacate.new.seats.items c.self.inside.pending c.seats_below-at.result c.args.self.now.items c.vacate.result c.in-Some.entry
    c.self.invariant (c.seats_below-at.ensures ∙ ap (spec.count_seats c.args.tid.0) c.deref.ensures.value) (ap (λ (x : spec.PlainEntries).
    x.items) c.self.view_is) c.requires c.vacate.ensures.seats c.vacate.ensures.entry c.in-Some.is

after_tidy : (c : goal.After-tidy) → IsGone c.args.tid c.self.inside.seats.items c.vacate.new.seats.items c.self.inside.pending c.in-Some.entry
after_tidy c =
    taken c.args.tid c.self.inside.seats.items c.vacate.new.seats.items c.self.inside.pending c.seats_below-at.result c.args.self.now.items c.vacate.result c.in-Some.entry
    c.self.invariant (c.seats_below-at.ensures ∙ ap (spec.count_seats c.args.tid.0) c.deref.ensures.value) (ap (λ (x : spec.PlainEntries).
    x.items) c.self.view_is) c.requires c.vacate.ensures.seats c.vacate.ensures.entry c.in-Some.is

pub invariant_of-self : goal.invariant_of-self
invariant_of-self c = (is_gone c).seats

pub returns-clause-items : goal.returns-clause-items
returns-clause-items c = c.tidy.ensures.items ∙ (rw (← c.self.view_is) ((after_tidy c).rest))

pub returns-clause-own : goal.returns-clause-own
returns-clause-own c = rw (← c.self.view_is) ((after_tidy c).own)

pub returns-clause-thread : goal.returns-clause-thread
returns-clause-thread c = (after_tidy c).thread
