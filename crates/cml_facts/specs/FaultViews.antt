-- What the structs of `src/` say.
use Rattle.std.specs.Prelude.{ℕ, List, map, Vec}
use Rattle.std.specs.declared.alloc.Global.{Global}
use Rattle.cml_value.specs.Value.{PlainValue}
use Rattle.cml_check.specs.Layout.{PlainInstr, let_then, set_then, do_then, if_then, while_then, return_then}
use Rattle.cml_step.specs.Calls.{text_of}
use Rattle.cml_step.specs.declared.call.Call.{Call}
use Rattle.cml_step.specs.Machines.{PlainHeld, call}
use Rattle.cml_hub.specs.Deeds.{origins}
use Rattle.cml_phrase.specs.declared.place.Place.{Place}
use Rattle.cml_facts.specs.declared.fault.fact.Sources.{Sources}
use Rattle.cml_facts.specs.declared.fault.part.Part.{Part}
use Rattle.cml_facts.specs.Parts.{part_of, part_of_effect, part_of_source, part_of_if, part_of_while, part_of_return}
use Rattle.cml_facts.specs.ThreadFaults.{Known}

abbrev pub plain_places : List (Vec Place Global) → List (List Place)
plain_places places = map (λ own. own.items) places

abbrev pub plain_sources : Sources → Known
plain_sources s = record {
  forms = s.forms.now;
  places = plain_places s.places.now;
  began = origins (text_of s.hub.now.course.program) s.hub.now.course.items;
}

abbrev pub held_call : Call → PlainHeld
held_call c = call c.func c.at c.slots.items c.wait

-- the part of an instruction that is at fault, as of the statement that it is
abbrev pub part_of_instr : (ℕ → PlainValue) → PlainInstr → Part
part_of_instr of (let_then x r next) = part_of_source of r
part_of_instr of (set_then x e next) = part_of of e
part_of_instr of (do_then e next) = part_of_effect of e
part_of_instr of (if_then e holds fails) = part_of_if of e
part_of_instr of (while_then e body next) = part_of_while of e
part_of_instr of (return_then e) = part_of_return of e
