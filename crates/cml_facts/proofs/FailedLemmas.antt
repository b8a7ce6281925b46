-- Whether a thread ends at a fault by an item.
use Rattle.std.proofs.Common.{◌≡◌, ◌≢◌, ℕ, false, true, [], ◌∷◌, ◌++◌, map, Option, Some, None, refl, sym, ap, subst, ◌∙◌}
use Rattle.std.specs.Prelude.{Result, Ok, Err, IfOk, slice_get, option_map}
use Rattle.std.specs.Option.{option_map_or}
use Rattle.std.proofs.lemmas.Option.{slice_get-map}
use Rattle.cml_value.specs.declared.number.Tid.{Tid}
use Rattle.cml_scan.specs.World.{PlainThread, running, pending_on, ended}
use Rattle.cml_book.specs.Walks.{runs}
use Rattle.cml_step.specs.Calls.{text_of}
use Rattle.cml_step.specs.Machines.{PlainMachine, machine_term}
use Rattle.cml_schedule.specs.declared.item.Item.{Item}
use Rattle.cml_schedule.specs.declared.item.Item.TheVariants.{Turn}
use Rattle.cml_hub.specs.Deeds.{fault_count}
use Rattle.cml_hub.specs.Dones.{GoesOn}
use Rattle.cml_hub.specs.Runs.{stands}
use Rattle.cml_hub.specs.Courses.{PlainCourse, run_of, Adds}
use Rattle.cml_facts.specs.Failures.{failure_of, failures}
use Rattle.cml_facts.specs.Failed.{FailsBy, FailsSo}
use Rattle.cml_facts.proofs.FailureLemmas.{fails_not, fails_by_turn}

-- a thread that may have its turn runs
pub runs_there : (o : Option PlainThread) → option_map_or runs o false ≡ true → o ≡ Some running
runs_there None e = cc
runs_there (Some running) e = refl
runs_there (Some (pending_on g)) e = cc
runs_there (Some ended) e = cc

-- the machine of a thread, once more
pub copied_goes : {E : Type 0} (r : Result PlainMachine E) (m : PlainMachine) (P : PlainMachine → Type 0) → P m → IfOk r (λ x. x ≡ m) → IfOk r P
copied_goes (Ok x) m P holds same = subst P (sym same) holds
copied_goes (Err y) m P holds same = tt

-- how many faults there are once the item has come
now_counted : (c new : PlainCourse) (item : Item) (after : ℕ) → Adds c item new → after ≡ fault_count (text_of new.program) new.items → after ≡ fault_count (text_of c.program) (c.items ++ item ∷ [])
now_counted c new item after adds now = now ∙ (ap (λ p. fault_count (text_of p) new.items) adds.program ∙ ap (fault_count (text_of c.program)) adds.items)

-- the count is the same: nobody has failed
pub nobody_fails : (c new : PlainCourse) (item : Item) (before after : ℕ) → stands (text_of c.program) c.items ≡ Some (run_of c) → Adds c item new →
    before ≡ fault_count (text_of c.program) c.items → after ≡ fault_count (text_of new.program) new.items → after ≡ before → FailsSo c item None
nobody_fails c new item before after leads adds was now equal =
    fails_not (text_of c.program) c.items item (run_of c) leads (sym (now_counted c new item after adds now) ∙ (equal ∙ was))

-- the count after the turn is another one: the thread has failed
pub thread_fails : (c new : PlainCourse) (t : Tid) (m : PlainMachine) (before after : ℕ) → stands (text_of c.program) c.items ≡ Some (run_of c) → Adds c (Turn t) new →
    slice_get c.machines t.0 ≡ Some m → m.thread ≡ t.0 → GoesOn c.program m →
    before ≡ fault_count (text_of c.program) c.items → after ≡ fault_count (text_of new.program) new.items → after ≢ before → FailsBy c (Turn t) m
thread_fails c new t m before after leads adds at own goes was now differs =
    let text = text_of c.program in
    let term = machine_term c.program m in
    let there : slice_get (map (machine_term c.program) c.machines) t.0 ≡ Some term = slice_get-map (machine_term c.program) c.machines t.0 ∙ ap (option_map (machine_term c.program)) at in
    let grew : fault_count text (c.items ++ Turn t ∷ []) ≢ fault_count text c.items = (λ e. differs (now_counted c new (Turn t) after adds now ∙ (e ∙ sym was))) in
    record {
      goes = goes;
      one_more = fails_by_turn text c.items t (run_of c) term leads there grew ∙ ap (λ u. failures text c.items ++ failure_of text u term ∷ []) (sym own);
    }
