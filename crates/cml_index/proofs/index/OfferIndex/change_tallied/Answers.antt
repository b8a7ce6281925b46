use Rattle.std.proofs.Common.{◌≡◌, ◌≢◌, ℕ, List, Option, Some, None, ◌∙◌, ◌+◌, not, nat_eq, length, ap, sym, subst, arith}
use Rattle.std.specs.Prelude.{Result}
use Rattle.std.specs.Borrow.{Bor}
use Rattle.std.specs.List.{All}
use Rattle.cml_value.specs.declared.number.Tid.{Tid}
use Rattle.cml_scan.specs.declared.object.Light.{Light}
use Rattle.cml_scan.specs.Table.{IsNew, CanChange, changed, without, with_entry, IsNackOf, nacks_among}
use Rattle.cml_scan.specs.Scan.{is_among, offers_of}
use Rattle.cml_scan.specs.World.{PlainEntry}
use Rattle.cml_value.specs.Group.{PlainGroup, bases}
use Rattle.cml_scan.proofs.Ordered.{Every-filter, sorted_without}
use Rattle.cml_index.specs.Cores.{seen}
use Rattle.cml_index.specs.Slots.{HaveDigits}
use Rattle.cml_index.specs.declared.slot.Slot.TheVariants.{Waiters}
use Rattle.cml_index.specs.Posts as spec
use Rattle.cml_index.proofs.Parted.{nacks_left, all_apart, came_all}
use Rattle.cml_index.proofs.Lit.{on_ok_both}
use Rattle.cml_index.proofs.Going.{nacks_named, gone_many, cost_gone, cost_came}
use Rattle.cml_index.proofs.index.OfferIndex.change_tallied.Goals as goal

-- what was asked of the index, asked of its core
asked : (x y : spec.PlainIndex) (gone : List Tid) (came here : Option (Tid × Bor PlainGroup)) (lit unlit : List Light)
    → x ≡ y → came ≡ here → CanChange y.entries gone came lit unlit → CanChange x.entries gone here lit unlit
asked x y gone came here lit unlit same is ready = subst (λ (z : spec.PlainIndex). CanChange z.entries gone here lit unlit) (sym same) (subst (λ o. CanChange y.entries gone o lit unlit) is ready)

-- what was told to the core was told to the index
answered : {A E : Type 0} (r : Result A E) (x y new : spec.PlainIndex) (gone : List Tid) (came here : Option (Tid × Bor PlainGroup)) (lit unlit : List Light) (before after : ℕ) → x ≡ y → came ≡ here
    → spec.HasTold r (changed x.entries gone here) lit unlit x new before after → spec.HasTold r (changed y.entries gone came) lit unlit y new before after
answered r x y new gone came here lit unlit before after same is told =
    subst (λ (z : spec.PlainIndex). spec.HasTold r (changed z.entries gone came) lit unlit z new before after) same
    (subst (λ o. spec.HasTold r (changed x.entries gone o) lit unlit x new before after) (sym is) told)

pub leave_only-requires-clause-ready : goal.leave_only-requires-clause-ready
leave_only-requires-clause-ready c = asked (seen c.self.inside.core) c.args.self.now c.args.gone.now c.args.came None c.args.lit.now c.args.unlit.now c.self.view_is c.in-None.is c.requires.ready

pub leave_and_come-requires-clause-ready : goal.leave_and_come-requires-clause-ready
leave_and_come-requires-clause-ready c = asked (seen c.self.inside.core) c.args.self.now c.args.gone.now c.args.came
    (Some c.in-Some.comer) c.args.lit.now c.args.unlit.now c.self.view_is c.in-Some.is c.requires.ready

pub returns-in-None-clause-told : goal.returns-in-None-clause-told
returns-in-None-clause-told c =
    answered c.leave_only.result (seen c.self.inside.core) c.args.self.now (seen c.leave_only.new.self) c.args.gone.now
    c.args.came None c.args.lit.now c.args.unlit.now c.args.tally.now c.leave_only.new.tally c.self.view_is
    c.in-None.is c.leave_only.ensures.told

pub returns-in-Some-clause-told : goal.returns-in-Some-clause-told
returns-in-Some-clause-told c =
    answered c.leave_and_come.result (seen c.self.inside.core) c.args.self.now (seen c.leave_and_come.new.self)
    c.args.gone.now c.args.came (Some c.in-Some.comer) c.args.lit.now c.args.unlit.now c.args.tally.now
    c.leave_and_come.new.tally c.self.view_is c.in-Some.is c.leave_and_come.ensures.told

pub returns-in-None-clause-sure : goal.returns-in-None-clause-sure
returns-in-None-clause-sure c = λ none nacks.
    let es = c.self.inside.core.entries.items in
    let all = subst (λ (x : spec.PlainIndex). All (IsNackOf (nacks_among c.args.gone.now x.entries)) c.args.lit.now) (sym c.self.view_is) nacks in
    c.leave_only.ensures.sure (nacks_named (λ k. spec.is_named c.self.inside.core.flags.entries (spec.slot_of_nack k))
    (λ l. spec.is_named c.self.inside.core.flags.entries (Waiters l)) (λ k. Rattle.std.proofs.Common.refl)
    (nacks_among c.args.gone.now es) c.args.lit.now
    (nacks_left (λ k. spec.is_named c.self.inside.core.flags.entries (spec.slot_of_nack k)) (λ e. is_among c.args.gone.now e.thread) es c.self.invariant.0.named) all)

pub returns-in-None-clause-cost : goal.returns-in-None-clause-cost
returns-in-None-clause-cost c = on_ok_both c.leave_only.result c.leave_only.ensures.told.ok c.leave_only.ensures.cost (λ ok cost digits few.
    let es = c.self.inside.core.entries.items in
    let same : c.args.self.now.entries ≡ es = sym (ap (λ (x : spec.PlainIndex). x.entries) c.self.view_is) in
    let lanes : HaveDigits c.self.inside.core.lanes digits = λ k. rw (c.self.invariant.0.placed k, ← same) (few k) in
    let many = gone_many c.args.gone.now es in
    let now : length (offers_of c.leave_only.new.self.entries.items) ≡ length (offers_of (without c.args.gone.now es)) = ap (λ xs. length (offers_of xs)) ok in
    let whole : c.self.inside.core.leaves ≡ spec.gone_leaves c.args.gone.now es + c.leave_only.new.self.leaves = omega (arith, many, now, c.self.invariant.0.all, c.leave_only.ensures.indexed.all) in
    let sum = cost_gone c.args.tally.now c.leave_only.new.tally (spec.gone_leaves c.args.gone.now es) c.leave_only.new.self.leaves _ digits (rw (← whole) (cost digits lanes)) in
    let none : spec.came_leaves c.args.came ≡ 0 = ap spec.came_leaves c.in-None.is in
    rw (same, none) sum)

pub returns-in-Some-clause-cost : goal.returns-in-Some-clause-cost
returns-in-Some-clause-cost c = on_ok_both c.leave_and_come.result c.leave_and_come.ensures.told.ok c.leave_and_come.ensures.cost (λ ok cost digits few.
    let es = c.self.inside.core.entries.items in
    let same : c.args.self.now.entries ≡ es = sym (ap (λ (x : spec.PlainIndex). x.entries) c.self.view_is) in
    let lanes : HaveDigits c.self.inside.core.lanes digits = λ k. rw (c.self.invariant.0.placed k, ← same) (few k) in
    let many = gone_many c.args.gone.now es in
    let e : PlainEntry = record { thread = c.in-Some.comer.0.0; group = c.in-Some.comer.1.now } in
    let n = length (bases c.in-Some.comer.1.now) in
    let left = length (offers_of (without c.args.gone.now es)) in
    let now : length (offers_of c.leave_and_come.new.self.entries.items) ≡ length (offers_of (with_entry e (without c.args.gone.now es))) = ap (λ xs. length (offers_of xs)) ok in
    let fresh : IsNew c.args.self.now.entries (Some c.in-Some.comer) = subst (IsNew c.args.self.now.entries) c.in-Some.is c.requires.ready.new in
    let fresh_here : All (λ (x : PlainEntry). x.thread ≢ e.thread) es = subst (All (λ (x : PlainEntry). x.thread ≢ e.thread)) same fresh in
    let apart = Every-filter (λ x. not (nat_eq e.thread x.thread)) (λ x. not (is_among c.args.gone.now x.thread)) es (all_apart e.thread es fresh_here) in
    let came = came_all e (without c.args.gone.now es) (sorted_without c.args.gone.now es c.self.invariant.0.sorted) apart in
    let after : c.leave_and_come.new.self.leaves ≡ left + n = omega (arith, came, now, c.leave_and_come.ensures.indexed.all) in
    let whole : c.self.inside.core.leaves ≡ spec.gone_leaves c.args.gone.now es + left = omega (arith, many, c.self.invariant.0.all) in
    let sum = cost_came c.args.tally.now c.leave_and_come.new.tally (spec.gone_leaves c.args.gone.now es) left n _ digits (rw (← whole, ← after) (cost digits lanes)) in
    let some : spec.came_leaves c.args.came ≡ n = ap spec.came_leaves c.in-Some.is in
    rw (same, some) sum)
