use Rattle.std.proofs.Common.{◌≡◌, ℕ, List, Some, rules, ap, length, length-set, ◌∙◌, arith}
use Rattle.std.specs.Prelude.{slice_get, slice_set}
use Rattle.cml_value.specs.Group.{PlainGroup}
use Rattle.cml_scan.specs.World.{PlainThread, running, pending_on}
use Rattle.cml_book.specs.Commit.{awaited}
use Rattle.cml_book.proofs.Given.{set_back}
use Rattle.cml_book.proofs.NackLemmas.{get-set_same}
use Rattle.cml_book.proofs.Awaited.{counts_few, counts-wait, counts_same}
use Rattle.cml_book.proofs.state.State.wait.Goals as goal

-- a thread that ran is put into a wait: it waits on this group
awaited_put : (ts new : List PlainThread) (i : ℕ) (so : PlainThread) (g : PlainGroup) → slice_get ts i ≡ Some running
    → new ≡ slice_set ts i so → so ≡ pending_on g → awaited (slice_get new i) ≡ g
awaited_put ts new i so g runs e f = ap awaited (ap (λ xs. slice_get xs i) e ∙ get-set_same ts i so running runs ∙ ap Some f)

-- it is put back, and runs again: nothing has changed
put_back : (ts new again : List PlainThread) (i : ℕ) (so back : PlainThread) → slice_get ts i ≡ Some running
    → new ≡ slice_set ts i so → again ≡ slice_set new i back → back ≡ running → again ≡ ts
put_back ts new again i so back runs e f r =
    f ∙ ap (λ x. slice_set new i x) r ∙ ap (λ xs. slice_set xs i running) e ∙ set_back ts i so running runs

pub count_all-requires : goal.count_all-requires
count_all-requires c = λ t. (let few = counts_few t _ _ c.self.invariant.3 c.self.invariant.0.few_threads in omega arith)

pub invariant_of-self-in_default : goal.invariant_of-self-in_default
invariant_of-self-in_default c =
    let runs = rw (← c.self.view_is) at c.requires in
    let threads = put_back c.self.inside.threads.items c.put.new.threads.items
    c.put-in_default.new.threads.items c.args.thread.0 c.pending.result c.running.result runs c.put.ensures c.put-in_default.ensures
    c.running.ensures in (
      rw threads c.self.invariant.0,
      c.self.invariant.1,
      c.self.invariant.2,
      rw threads (counts_same c.self.inside.threads.items c.self.inside.clock.waited c.count_all.new.clock.waited c.in_default.ensures.err c.self.invariant.3),
      c.self.invariant.4,
      search rules,
    )

pub returns-in_default-clause-err : goal.returns-in_default-clause-err
returns-in_default-clause-err c =
    let runs = rw (← c.self.view_is) at c.requires in
    let threads = put_back c.self.inside.threads.items c.put.new.threads.items
    c.put-in_default.new.threads.items c.args.thread.0 c.pending.result c.running.result runs c.put.ensures c.put-in_default.ensures
    c.running.ensures in
    rw (threads, c.count_all.ensures.now) c.self.view_is

pub invariant_of-self : goal.invariant_of-self
invariant_of-self c =
    let runs = rw (← c.self.view_is) at c.requires in
    let is = awaited_put c.self.inside.threads.items c.put.new.threads.items c.args.thread.0 c.pending.result c.args.flat runs c.put.ensures c.pending.ensures in
    let threads = ap length c.put.ensures ∙ length-set c.self.inside.threads.items c.args.thread.0 c.pending.result in (
      rw threads c.self.invariant.0,
      c.self.invariant.1,
      c.self.invariant.2,
      rw (c.put.ensures, c.pending.ensures)
          (counts-wait c.self.inside.threads.items c.args.thread.0 c.args.flat c.self.inside.clock.waited
          c.count_all.new.clock.waited runs (rw is at c.count_all.ensures.few) (rw is at c.in-Ok.ensures.ok)
          c.self.invariant.3),
      c.self.invariant.4,
      search rules,
    )
