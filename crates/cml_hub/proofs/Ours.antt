-- Whose slice it is, and where the machine of a running thread stands.
use Rattle.std.proofs.Common.{◌≡◌, ℕ, ◌<◌, Bool, true, false, length, refl, ap, sym, subst, ◌∙◌, arith, Option, Some, None, slice_index_or}
use Rattle.std.specs.Borrow.{Bor}
use Rattle.std.specs.Prelude.{slice_get, IsTrue, IfSome, MatchOption, ◌↔◌}
use Rattle.std.specs.Option.{option_copied, option_map_or}
use Rattle.std.proofs.lemmas.Option.{slice_get_within}
use Rattle.cml_scan.specs.World.{PlainThread, running, pending_on, ended, PlainWorld}
use Rattle.cml_book.specs.Walks.{runs, is_running}
use Rattle.cml_step.specs.Machines.{PlainMachine}
use Rattle.cml_step.specs.Rans.{PlainRan}
use Rattle.cml_hub.specs.Dones.{GoesOn}
use Rattle.cml_hub.specs.Courses.{PlainCourse, MachineStands, Leads, HasMachine, IsOurs}
use Rattle.cml_hub.proofs.Standing.{found, found_is, number_there, stand_length}
use Rattle.cml_hub.proofs.MarkLemmas.{got_is}

thread_runs : (o : Option PlainThread) → option_map_or runs o false ≡ true → o ≡ Some running
thread_runs None h = cc
thread_runs (Some running) h = refl
thread_runs (Some (pending_on g)) h = cc
thread_runs (Some ended) h = cc

pub running_is : (w : PlainWorld) (t : ℕ) → is_running w t ≡ true → slice_get w.threads t ≡ Some running
running_is w t h = thread_runs (slice_get w.threads t) h

-- a running thread has a machine
pub machine_within : (c : PlainCourse) (t : ℕ) → Leads c → slice_get c.world.threads t ≡ Some running → t < length c.machines
machine_within c t h run = omega (arith, slice_get_within c.world.threads t running run, stand_length c.program 0 c.world.threads c.machines h.machines)

pub machine_at : (c : PlainCourse) (t : ℕ) (m : PlainMachine) → Leads c → slice_get c.world.threads t ≡ Some running → m ≡ slice_index_or c.machines t m → slice_get c.machines t ≡ Some m
machine_at c t m h run is = got_is c.machines t m m (machine_within c t h run) is

pub machine_keeps : (c : PlainCourse) (t : ℕ) (m : PlainMachine) → Leads c → slice_get c.world.threads t ≡ Some running → m ≡ slice_index_or c.machines t m → HasMachine c t m
machine_keeps c t m h run is = record { running = run; machine = machine_at c t m h run is }

pub machine_goes : (c : PlainCourse) (t : ℕ) (m : PlainMachine) → Leads c → HasMachine c t m → GoesOn c.program m
machine_goes c t m h k = (found_is c.program 0 t c.world.threads c.machines running m h.machines k.running k.machine).1

pub machine_number : (c : PlainCourse) (t : ℕ) (m : PlainMachine) → Leads c → HasMachine c t m → m.thread ≡ t
machine_number c t m h k = (found_is c.program 0 t c.world.threads c.machines running m h.machines k.running k.machine).0 ∙ omega arith

-- a slice that is ours is of the thread whose number its machine has
pub ours_own : (c : PlainCourse) (ran : PlainRan) → Leads c → IsOurs c ran → HasMachine c ran.start.thread ran.start
ours_own c ran h o = let P : ℕ → Type 0 = λ t. HasMachine c t ran.start in subst P (sym (machine_number c o.1.0 ran.start h o.1.1)) o.1.1

pub not_running_ours : (c : PlainCourse) (ran : PlainRan) (t : ℕ) (b : Bool) → Leads c → t ≡ ran.start.thread → b ≡ is_running c.world t → b ≡ false → IsTrue false ↔ IsOurs c ran
not_running_ours c ran t b h e r n = (
  λ yes. cc,
  λ o. (let k = (ours_own c ran h o).running in let f : is_running c.world ran.start.thread ≡ true = rw k refl in let g = rw e at r in cc),
)

pub current_ours : (c : PlainCourse) (ran : PlainRan) (t : ℕ) (m : PlainMachine) (s : Bool) → Leads c → t
    ≡ ran.start.thread → slice_get c.world.threads t ≡ Some running → m ≡ slice_index_or c.machines t m
    → (IsTrue s ↔ (m ≡ ran.start)) → ran.program ≡ c.program → IsTrue s ↔ IsOurs c ran
current_ours c ran t m s h e run is both prog = (
  λ yes. (prog, (t, record { running = run; machine = machine_at c t m h run is ∙ ap (λ x. Some x) (both.0 yes) })),
  λ o. (let k = (ours_own c ran h o).machine in let a = rw e at (machine_at c t m h run is) in let same : m ≡ ran.start = cc in both.1 same),
)

-- each thread has its machine, which stands as the thread does
pub stands_there : (c : PlainCourse) (n : ℕ) (t : PlainThread) (r : Option (Bor PlainMachine)) → Leads c
    → option_copied r ≡ slice_get c.machines n → slice_get c.world.threads n ≡ Some t
    → MatchOption r ⊥ (λ m. MachineStands c.program t m.now)
stands_there c n t None h e run =
    let at = (found c.program 0 n c.world.threads c.machines t h.machines run).at in
    cc
stands_there c n t (Some m) h e run = (found_is c.program 0 n c.world.threads c.machines t m.now h.machines run (sym e)).1

-- a machine is that of the thread of its number
pub numbered_there : (c : PlainCourse) (n : ℕ) (r : Option (Bor PlainMachine)) → Leads c → option_copied r ≡ slice_get c.machines n → IfSome r (λ m. m.now.thread ≡ n)
numbered_there c n None h e = tt
numbered_there c n (Some m) h e = omega (arith, number_there c.program 0 n c.world.threads c.machines m.now h.machines (sym e))
