use Rattle.std.proofs.Common.{◌≡◌, ◌≢◌, ◌<◌, ◌∙◌, length, get_or, ap, sym, arith}
use Rattle.cml_index.specs.declared.entries.Seat.{Seat}
use Rattle.cml_index.specs.Seats as spec
use Rattle.cml_index.proofs.OwnSeat.{own_none, own_of, its_entry, is_entry_of, read_any}
use Rattle.cml_index.proofs.entries.Entries.get.Goals as goal

pub returns-then-at-len : goal.returns-then-at-len
returns-then-at-len c =
    let ss = c.self.inside.seats.items in
    let t = c.args.tid.0 in
    let at : c.seats_below-at.result ≡ spec.count_seats t ss = c.seats_below-at.ensures ∙ ap (spec.count_seats t) c.deref.ensures.value in
    let past : (d : Seat) → spec.count_seats t ss < length ss
    → (get_or ss (spec.count_seats t ss) d).tid.0 ≢ t = λ d within is. absurd
    (omega (
      arith,
      at,
      within,
      c.if-at-len.true,
      c.len.ensures,
      c.deref.ensures.len,
      ap length
          c.deref.ensures.value,
    )) in
    rw (← c.self.view_is) (own_none t ss c.self.invariant.ascend c.self.invariant.own past)

pub returns-then-seat-tid : goal.returns-then-seat-tid
returns-then-seat-tid c =
    let ss = c.self.inside.seats.items in
    let t = c.args.tid.0 in
    let n = spec.count_seats t ss in
    let seen = c.index-seat.result.now in
    let at : c.seats_below-at.result ≡ n = c.seats_below-at.ensures ∙ ap (spec.count_seats t) c.deref.ensures.value in
    let read : seen ≡ get_or ss n seen = c.index-seat.ensures ∙ ap (λ m. get_or ss m seen) at in
    let other : (d : Seat) → n < length ss → (get_or ss n d).tid.0 ≢ t = λ d within is. c.if-seat-tid.true (ap (λ (s : Seat). s.tid.0) (read ∙ read_any n ss seen d within) ∙ is) in
    rw (← c.self.view_is) (own_none t ss c.self.invariant.ascend c.self.invariant.own other)

pub returns : goal.returns
returns c =
    let ss = c.self.inside.seats.items in
    let t = c.args.tid.0 in
    let n = spec.count_seats t ss in
    let seen = c.index-seat.result.now in
    let at : c.seats_below-at.result ≡ n = c.seats_below-at.ensures ∙ ap (spec.count_seats t) c.deref.ensures.value in
    let read : seen ≡ get_or ss n seen = c.index-seat.ensures ∙ ap (λ m. get_or ss m seen) at in
    let within : n < length ss = omega (arith, at, c.if-at-len.false, c.len.ensures, c.deref.ensures.len, ap length c.deref.ensures.value) in
    let its : (get_or ss n seen).tid.0 ≡ t = ap (λ (s : Seat). s.tid.0) (sym read) ∙ c.if-seat-tid.false in
    rw (← c.self.view_is) (is_entry_of c.args.tid (spec.seated ss) c.entry.result (get_or ss n seen).entry (c.entry.ensures ∙ ap (λ (s : Seat). s.entry) read)
    (own_of t ss seen c.self.invariant.ascend c.self.invariant.own within its) (its_entry t ss seen c.self.invariant.own within its))
