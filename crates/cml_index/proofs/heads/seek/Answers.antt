use Rattle.std.proofs.Common.{◌≡◌, ◌∙◌, ◌++◌, ◌∷◌, ◌+◌, take, drop, length, map, ap, sym, subst, arith}
use Rattle.std.specs.Prelude.{slice_get}
use Rattle.std.specs.List.{filter}
use Rattle.std.proofs.lemmas.List.{length-map}
use Rattle.cml_value.specs.Group.{bases}
use Rattle.cml_scan.specs.Order.{place, before, IsSorted}
use Rattle.cml_scan.specs.Scan.{offers_of, leaves_from}
use Rattle.cml_index.specs.Heads.{is_sought, IsSought, EndsThere}
use Rattle.cml_index.specs.Seats.{seated}
use Rattle.cml_index.proofs.Seated.{seat_step, seated_parts}
use Rattle.cml_index.proofs.Seeking.{found_first, found_behind, offers_more, sought_more, sought_places, few_behind}
use Rattle.cml_index.proofs.heads.seek.Goals as goal

pub returns-in-Found-clause-value : goal.returns-in-Found-clause-value
returns-in-Found-clause-value c =
    let ss = c.seats-seats.result.now in
    let e = c.in-Some.entry.now in
    let later = seated (drop (c.loop-seat.seat-index + 1) ss) in
    let step : seated (drop c.loop-seat.seat-index ss) ≡ e ∷ later = seat_step ss c.loop-seat.seat-index c.seat-item.result e c.loop-seat-test.true c.seat-item.is c.in-Some.ensures in
    let f = is_sought c.args.kind c.args.core.now.flags.entries (offers_of c.args.core.now.entries.items) in
    let own = filter f (leaves_from e.thread 0 (bases e.group)) in
    let here = subst (λ r. IsSought r c.loop-seat.left own) c.in-Found.is c.seek_in.ensures.value in
    sym c.loop-seat.invariant.same ∙ ap (λ es. slice_get (map place (filter f (offers_of es))) c.loop-seat.left) step ∙ ap (λ ps. slice_get ps c.loop-seat.left) (sought_places f e later)
    ∙ found_first (map place own) _ c.loop-seat.left _ here

pub returns-in-Found-clause-cost : goal.returns-in-Found-clause-cost
returns-in-Found-clause-cost c =
    let ss = c.seats-seats.result.now in
    let e = c.in-Some.entry.now in
    let later = seated (drop (c.loop-seat.seat-index + 1) ss) in
    let step : seated (drop c.loop-seat.seat-index ss) ≡ e ∷ later = seat_step ss c.loop-seat.seat-index c.seat-item.result e c.loop-seat-test.true c.seat-item.is c.in-Some.ensures in
    let t = ap (λ es. length (offers_of es)) step ∙ offers_more e later in
    omega (arith, t, c.loop-seat.invariant.cost, c.seek_in.ensures.cost)

pub returns-in-Found-clause-early : goal.returns-in-Found-clause-early
returns-in-Found-clause-early c =
    let es = c.args.core.now.entries.items in
    let ss = c.seats-seats.result.now in
    let i = c.loop-seat.seat-index in
    let e = c.in-Some.entry.now in
    let low = seated (take i ss) in
    let later = seated (drop (i + 1) ss) in
    let step : seated (drop i ss) ≡ e ∷ later = seat_step ss i c.seat-item.result e c.loop-seat-test.true c.seat-item.is c.in-Some.ensures in
    let whole : es ≡ low ++ e ∷ later = sym c.seats-seats.ensures ∙ seated_parts i ss ∙ ap (λ xs. low ++ xs) step in
    let here = subst (λ r. EndsThere r e c.loop-seat.tally c.seek_in.new.tally) c.in-Found.is c.seek_in.ensures.early in
    let few = few_behind c.in-Found.place low e later (subst IsSorted whole c.requires.indexed.sorted) here.0 here.1 in
    let behind = ap (λ xs. length (filter (λ o. before c.in-Found.place (place o)) (offers_of xs))) whole in
    let rest = ap (λ xs. length (offers_of xs)) step in
    let looks = here.2 in
    omega (arith, few, behind, rest, looks, c.loop-seat.invariant.cost)

pub loop-seat-preserved : goal.loop-seat-preserved
loop-seat-preserved c =
    let ss = c.seats-seats.result.now in
    let e = c.in-Some.entry.now in
    let later = seated (drop (c.loop-seat.seat-index + 1) ss) in
    let step : seated (drop c.loop-seat.seat-index ss) ≡ e ∷ later = seat_step ss c.loop-seat.seat-index c.seat-item.result e c.loop-seat-test.true c.seat-item.is c.in-Some.ensures in
    let f = is_sought c.args.kind c.args.core.now.flags.entries (offers_of c.args.core.now.entries.items) in
    let own = filter f (leaves_from e.thread 0 (bases e.group)) in
    let here = subst (λ r. IsSought r c.loop-seat.left own) c.in-Left.is c.seek_in.ensures.value in
    let s = ap (λ es. length (filter f (offers_of es))) step ∙ sought_more f e later in
    let t = ap (λ es. length (offers_of es)) step ∙ offers_more e later in
    let same = ap (λ es. map place (filter f (offers_of es))) step ∙ sought_places f e later in
    let long : length (map place own) ≡ length own = length-map own place in
    record {
      more = omega (arith, s, here, c.loop-seat.invariant.more);
      same = sym (ap (λ ps. slice_get ps c.loop-seat.left) same ∙ found_behind (map place own) _ c.loop-seat.left c.in-Left.more (omega (arith, long, here))) ∙ c.loop-seat.invariant.same;
      cost = omega (arith, t, c.loop-seat.invariant.cost, c.seek_in.ensures.cost);
    }
