-- A code of courses: a tree of numbers from which they can be read back. The toolchain asks for it; no rule uses it.
use Rattle.std.specs.Prelude.{ℕ, List, refl}
use Rattle.std.specs.Coded.{Coded, code_by, coded×, coded_list, coded_ℕ}
use Rattle.cml_check.specs.Syntax.{PlainItem}
use Rattle.cml_check.specs.SyntaxCodes.{plain_item_code}
use Rattle.cml_scan.specs.World.{PlainWorld}
use Rattle.cml_scan.specs.Codes.{world_code}
use Rattle.cml_schedule.specs.declared.item.Item.{Item}
use Rattle.cml_schedule.specs.Codes.{item_code}
use Rattle.cml_step.specs.Machines.{PlainMachine}
use Rattle.cml_step.specs.MachineCodes.{machine_code}
use Rattle.cml_hub.specs.Courses.{PlainCourse}

abbrev pub course_code : Coded PlainCourse
course_code =
    code_by (List (PlainItem ℕ) × (List Item × (PlainWorld × (List PlainMachine × (List ℕ × ℕ)))))
    (coded× (coded_list plain_item_code) (coded× (coded_list item_code) (coded× world_code (coded× (coded_list machine_code) (coded× (coded_list coded_ℕ) coded_ℕ)))))
    (λ c. (c.program, (c.items, (c.world, (c.machines, (c.output, c.used))))))
    (λ t. record { program = t.0; items = t.1.0; world = t.1.1.0; machines = t.1.1.1.0; output = t.1.1.1.1.0; used = t.1.1.1.1.1 })
    (λ _. refl)
