use Rattle.std.proofs.Common.{rules, ◌≡◌, ◌∙◌, not, nat_eq, length, ap, sym, subst, arith}
use Rattle.std.specs.List.{All}
use Rattle.cml_value.specs.Group.{bases, scopes, nacks_of}
use Rattle.cml_scan.specs.World.{PlainEntry}
use Rattle.cml_scan.specs.Scan.{is_among}
use Rattle.cml_scan.specs.Table.{IsThere, without}
use Rattle.cml_scan.proofs.Ordered.{Every-weaker, Every-filter}
use Rattle.cml_index.specs.Slots.{HaveDigits, late_at}
use Rattle.cml_index.specs.Posts as spec
use Rattle.cml_index.proofs.Parted.{all_apart}
use Rattle.cml_index.proofs.Going.{apart_all, cost_sum}
use Rattle.cml_index.proofs.Forgotten.{all_out}
use Rattle.cml_index.proofs.state.IndexState.leave_and_enter.Goals as goal

pub tell_and_leave-requires-clause-there : goal.tell_and_leave-requires-clause-there
tell_and_leave-requires-clause-there c = record {
  there = subst (λ es. All (IsThere es) c.args.gone.now) (sym (c.in-Ok.ensures.same.entries ∙ c.in_ok-entry.ensures.same.entries)) c.requires.ready.there;
  once = c.requires.ready.once;
}

pub enter-requires-clause-new : goal.enter-requires-clause-new
enter-requires-clause-new c =
    let es = c.args.self.now.entries.items in
    let thread : c.in_ok-entry.entry.thread ≡ c.args.comer.0.0 = ap (λ (e : PlainEntry). e.thread) c.in_ok-entry.ensures.entry in
    let left : c.tell_and_leave.new.self.entries.items
    ≡ without c.args.gone.now es = c.tell_and_leave.ensures.left.entries
    ∙ ap (without c.args.gone.now) (c.in-Ok.ensures.same.entries ∙ c.in_ok-entry.ensures.same.entries) in
    let apart = apart_all c.args.comer.0.0 (without c.args.gone.now es)
    (Every-filter (λ e. not (nat_eq c.args.comer.0.0 e.thread)) (λ e. not (is_among c.args.gone.now e.thread))
    es (all_apart c.args.comer.0.0 es c.requires.ready.new)) in
    rw (thread, left) apart

pub enter-requires-clause-room : goal.enter-requires-clause-room
enter-requires-clause-room c = record {
  seat = search rules;
  places = λ n e. c.tell_and_leave.ensures.freed.places n (c.in-Ok.ensures.room.places n e);
  small = search rules;
  late = λ k. c.tell_and_leave.ensures.freed.late k ∙ c.in-Ok.ensures.room.late k;
  room = λ
      k. let a = c.in-Ok.ensures.room.room k in let b = c.tell_and_leave.ensures.freed.room k in
      let e : length (late_at c.tell_and_leave.new.self.lanes k) ≡ length (late_at c.make_ready.new.self.lanes k) = ap length (c.tell_and_leave.ensures.freed.late k) in
      omega (arith, a, b, e);
  named = Every-weaker (λ k. spec.is_named c.make_ready.new.self.flags.entries (spec.slot_of_nack k))
      (λ k. spec.is_named c.tell_and_leave.new.self.flags.entries (spec.slot_of_nack k))
      (nacks_of (scopes c.in_ok-entry.entry.group))
      (λ k h. c.tell_and_leave.ensures.freed.named (spec.slot_of_nack k) h) c.in-Ok.ensures.room.named;
}

pub forget_all-requires-clause-out : goal.forget_all-requires-clause-out
forget_all-requires-clause-out c = all_out c.args.lit.now c.args.unlit.now (spec.told c.make_ready.new.self.flags.entries) (spec.told c.enter.new.self.flags.entries) c.requires.ready.apart
    (λ l. ap (λ f. spec.told f.entries l) c.enter.ensures.came.flags ∙ c.tell_and_leave.ensures.left.lights l)

pub returns-clause-cost : goal.returns-clause-cost
returns-clause-cost c digits few =
    let same : length (bases c.in_ok-entry.entry.group) ≡ length (bases c.args.comer.1.now) = ap (λ (e : PlainEntry). length (bases e.group)) c.in_ok-entry.ensures.entry in
    let ready : HaveDigits c.make_ready.new.self.lanes digits = λ k. let q = ap length (c.in-Ok.ensures.same.lanes k ∙ c.in_ok-entry.ensures.same.lanes k) in let f = few k in omega (arith, q, f) in
    let turned = c.tell_and_leave.ensures.cost digits ready in
    let entered = c.enter.ensures.cost digits (λ k. let q = c.tell_and_leave.ensures.freed.shorter k in let f = ready k in omega (arith, q, f)) in
    let sum = cost_sum c.args.tally.now c.tell_and_leave.new.tally c.enter.new.tally c.make_ready.new.self.leaves
    c.tell_and_leave.new.self.leaves (length (bases c.in_ok-entry.entry.group)) _ digits turned entered in
    let leaves = c.in-Ok.ensures.same.leaves ∙ c.in_ok-entry.ensures.same.leaves in
    rw (c.forget_all.ensures.leaves, c.enter.ensures.came.leaves, ← same, ← leaves) sum
