-- What is kept of a state.
use Rattle.std.specs.Prelude.{◌≡◌, ℕ, Bool, true, List, map, Option, Some, refl}
use Rattle.std.specs.Coded.{Coded, code_by, coded×, coded_list, coded_option, coded_ℕ}
use Rattle.cml_value.specs.Value.{PlainFunction}
use Rattle.cml_value.specs.Codes.{function_code}
use Rattle.cml_check.specs.Syntax.{PlainItem}
use Rattle.cml_scan.specs.World.{PlainWorld}
use Rattle.cml_scan.specs.Codes.{world_code}
use Rattle.cml_schedule.specs.declared.item.Item.{Item}
use Rattle.cml_step.specs.Calls.{text_of}
use Rattle.cml_step.specs.Machines.{PlainMachine, machine_term}
use Rattle.cml_step.specs.MachineCodes.{machine_code}
use Rattle.cml_hub.specs.Courses.{PlainCourse, run_of}
use Rattle.cml_hub.specs.Kept.{Kept as Hub, NoneOut}
use Rattle.cml_hub.specs.Runs.{stands}
use Rattle.cml_hub.specs.Deeds.{origins, fault_count}
use Rattle.cml_verify.specs.Cores.{Core}
use Rattle.cml_verify.specs.Sameness.{is_same, is_same_says}
use Rattle.cml_verify.specs.Verdicts.{output_if}

-- the world; the machine of each thread by its number; with which function each thread began; how many ended at a fault; and what is seen of
-- the output
pub record PlainKept : Type 0 where
  pub world : PlainWorld
  pub machines : List PlainMachine
  pub began : List PlainFunction
  pub faults : ℕ
  pub printed : Option (List ℕ)

abbrev pub state_code : Coded PlainKept
state_code =
    code_by (PlainWorld × (List PlainMachine × (List PlainFunction × (ℕ × Option (List ℕ)))))
    (coded× world_code (coded× (coded_list machine_code) (coded× (coded_list function_code) (coded× coded_ℕ (coded_option (coded_list coded_ℕ))))))
    (λ k. (k.world, (k.machines, (k.began, (k.faults, k.printed)))))
    (λ p. record { world = p.0; machines = p.1.0; began = p.1.1.0; faults = p.1.1.1.0; printed = p.1.1.1.1 }) (λ _. refl)

-- the core of which it is kept
abbrev pub core_kept : List (PlainItem ℕ) → PlainKept → Core
core_kept p k = record { world = k.world; terms = map (machine_term p) k.machines; past = record { began = k.began; faults = k.faults }; printed = k.printed }

-- the world and the machines of a course are kept, what is known of its turns, and what is seen of its output
pub record KeepsCourse (with_output : Bool) (c : PlainCourse) (k : PlainKept) : Type 0 where
  pub world : k.world ≡ c.world
  pub machines : k.machines ≡ c.machines
  pub began : k.began ≡ origins (text_of c.program) c.items
  pub faults : k.faults ≡ fault_count (text_of c.program) c.items
  pub printed : k.printed ≡ output_if with_output c.output

-- the hub has gone through the schedule
pub record IsAfter (p : List (PlainItem ℕ)) (schedule : List Item) (h : Hub) : Type 0 where
  pub program : h.course.program ≡ p
  pub items : h.course.items ≡ schedule
  pub none_out : NoneOut h
  pub leads : stands (text_of p) schedule ≡ Some (run_of h.course)

pub kept_same : (a b : PlainKept) → is_same state_code a b ≡ true → a ≡ b
kept_same a b e = is_same_says state_code a b e
