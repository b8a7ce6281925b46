use Rattle.std.proofs.Common.{◌≡◌, ◌<◌, ◌≤◌, ◌+◌, ◌*◌, ◌∙◌, [], ◌∷◌, length, get_or, take, ap, sym, subst, arith}
use Rattle.cml_scan.specs.Table.{IsThere, without}
use Rattle.cml_index.proofs.Going.{there_still, without_more, without_none}
use Rattle.cml_index.proofs.state.IndexState.leave_all.Goals as goal

pub loop-tid-init : goal.loop-tid-init
loop-tid-init c = record {
  entries = without_none c.args.self.now.entries.items;
  indexed = c.requires.indexed;
  flags =
      Rattle.std.proofs.Common.refl;
  freed = record {
    room = λ k. omega arith;
    shorter = λ k. omega arith;
    lighter = omega arith;
    seat = omega arith;
    places = λ n h. h;
    late = λ k. Rattle.std.proofs.Common.refl;
    named = λ k named. named;
  };
  cost = λ digits few. omega arith;
}

pub leave-requires-clause-there : goal.leave-requires-clause-there
leave-requires-clause-there c =
    let gone = c.args.gone.now in
    let i = c.loop-tid.tid-index in
    subst (λ es. IsThere es (get_or gone i (record { 0 = 0 }))) (sym c.loop-tid.invariant.entries)
    (there_still c.args.self.now.entries.items gone i (record { 0 = 0 }) c.requires.there.there
    c.requires.there.once c.loop-tid-test.true)

pub loop-tid-preserved : goal.loop-tid-preserved
loop-tid-preserved c =
    let gone = c.args.gone.now in
    let i = c.loop-tid.tid-index in
    record {
      entries = c.leave.ensures.entries ∙ ap (without (get_or gone i (record { 0 = 0 }) ∷ []))
          c.loop-tid.invariant.entries ∙ without_more gone i (record { 0 = 0 }) c.args.self.now.entries.items
          c.loop-tid-test.true;
      indexed = c.leave.ensures.indexed;
      flags = c.leave.ensures.flags ∙ c.loop-tid.invariant.flags;
      freed = record {
        room = λ k. let r = c.loop-tid.invariant.freed.room k in let q = c.leave.ensures.freed.room k in omega (arith, r, q);
        shorter = λ k. let r = c.loop-tid.invariant.freed.shorter k in let q = c.leave.ensures.freed.shorter k in omega (arith, r, q);
        lighter = omega (arith, c.loop-tid.invariant.freed.lighter, c.leave.ensures.freed.lighter);
        seat = omega (arith, c.loop-tid.invariant.freed.seat, c.leave.ensures.freed.seat);
        places = λ n h. c.leave.ensures.freed.places n (c.loop-tid.invariant.freed.places n h);
        late = λ k. c.leave.ensures.freed.late k ∙ c.loop-tid.invariant.freed.late k;
        named = λ k named. c.leave.ensures.freed.named k (c.loop-tid.invariant.freed.named k named);
      };
      cost = λ digits
          few. let r = c.loop-tid.invariant.cost digits few in let q = c.leave.ensures.cost digits (λ k. let s = c.loop-tid.invariant.freed.shorter k in let f = few k in omega (arith, s, f)) in
          omega (arith, r, q);
    }
