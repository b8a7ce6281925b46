-- Which items can come where a hub stands.
use Rattle.std.proofs.Common.{◌≡◌, ℕ, Bool, true, false, ◌&&◌, if◌then◌else◌, map, Option, None, Some, refl, ap, sym, ◌∙◌}
use Rattle.std.specs.Prelude.{option_map, is_some, slice_get}
use Rattle.std.proofs.lemmas.Option.{slice_get-map}
use Rattle.cml_value.specs.declared.number.Tid.{Tid}
use Rattle.cml_book.specs.Walks.{is_running}
use Rattle.cml_schedule.specs.declared.item.Item.TheVariants.{Turn, Clock}
use Rattle.cml_step.specs.Calls.{text_of}
use Rattle.cml_step.specs.Machines.{machine_term}
use Rattle.cml_step.specs.Slices.{sliced}
use Rattle.cml_hub.specs.declared.fault.End.TheVariants.{Quiet, Budget, Partial}
use Rattle.cml_hub.specs.Courses.{PlainCourse, run_of}
use Rattle.cml_hub.specs.Runs.{Run, is_allowed, after_item, turned_by, ticked}
use Rattle.cml_verify.specs.Cores.{can}

some_mapped : {X Y : Type 0} (f : X → Y) (o : Option X) → is_some (option_map f o) ≡ is_some o
some_mapped f None = refl
some_mapped f (Some x) = refl

can_where : (b : Bool) (o : Option Run) → is_some (if b then o else None) ≡ (b && is_some o)
can_where true o = refl
can_where false o = refl

can_if : (b : Bool) (r : Run) → is_some (if b then Some r else None) ≡ b
can_if true r = refl
can_if false r = refl

module _ (c : PlainCourse) where
  pub can_turn : (t : Tid) → (is_running c.world t.0 && is_some (slice_get c.machines t.0)) ≡ can (text_of c.program) (run_of c) (Turn t)
  can_turn t =
      let p = text_of c.program in
      let r = run_of c in
      let f = machine_term c.program in
      let there : is_some (after_item p r (Turn t)) ≡ is_some (slice_get c.machines t.0) =
      some_mapped (λ term. turned_by p r t.0 (sliced p t.0 term)) (slice_get (map f c.machines) t.0) ∙ (ap is_some (slice_get-map f c.machines t.0) ∙ some_mapped f (slice_get c.machines t.0)) in
      sym (can_where (is_running c.world t.0) (after_item p r (Turn t)) ∙ ap (λ b. is_running c.world t.0 && b) there)

  pub can_tick : (tick : ℕ) → is_allowed c.world (Clock tick) ≡ can (text_of c.program) (run_of c) (Clock tick)
  can_tick tick = sym (can_if (is_allowed c.world (Clock tick)) (ticked (run_of c) tick))

-- a run is quiet exactly where nothing is left to do
pub ends_quiet : (t b : Bool) → Quiet ≡ (if t then Quiet else if b then Budget else Partial) → true ≡ t
ends_quiet true b e = refl
ends_quiet false true e = absurd (cc)
ends_quiet false false e = absurd (cc)

pub ends_by_budget : (t b : Bool) → Budget ≡ (if t then Quiet else if b then Budget else Partial) → false ≡ t
ends_by_budget true b e = absurd (cc)
ends_by_budget false b e = refl

pub ends_partly : (t b : Bool) → Partial ≡ (if t then Quiet else if b then Budget else Partial) → false ≡ t
ends_partly true b e = absurd (cc)
ends_partly false b e = refl
