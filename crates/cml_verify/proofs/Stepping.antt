-- From where a hub stands to the states of the system.
use Rattle.std.proofs.Common.{◌≡◌, ℕ, Bool, true, false, if◌then◌else◌, List, [], ◌∷◌, ◌++◌, Option, None, Some, refl, ap, sym, subst, ◌∙◌, true≢false}
use Rattle.std.specs.Prelude.{option_map, option_and_then, IsSome}
use Rattle.std.proofs.lemmas.Option.{same_Some}
use Rattle.cml_check.specs.Syntax.{PlainItem}
use Rattle.cml_schedule.specs.declared.item.Item.{Item}
use Rattle.cml_step.specs.Calls.{text_of}
use Rattle.cml_hub.specs.Courses.{PlainCourse, run_of, Adds}
use Rattle.cml_hub.specs.Kept.{Kept as Hub}
use Rattle.cml_hub.specs.Runs.{Run, stands, opening, is_allowed, after_item}
use Rattle.cml_hub.proofs.Standing.{leads_on}
use Rattle.cml_verify.specs.Systems.{System, run, LeadsTo, IsSchedule}
use Rattle.cml_verify.proofs.Runs.{begins, run-cons}
use Rattle.cml_verify.specs.Cores.{Past, past, more, Core, core_of, run_at, done_by, allowed, program_system}
use Rattle.cml_verify.specs.Kept.{PlainKept, core_kept, KeepsCourse, IsAfter}
use Rattle.cml_verify.proofs.Viewed.{runs_core, same_allowed}

and_some : {X : Type 0} (o : Option X) → option_and_then (λ x. Some x) o ≡ o
and_some None = refl
and_some (Some x) = refl

-- one item more
run_one : {S I : Type 0} (y : System S I) (s : S) (items : List I) (i : I) (t : S) → run y s items ≡ Some t → run y s (items ++ i ∷ []) ≡ y.step t i
run_one y s [] i t h = and_some (y.step s i) ∙ ap (λ u. y.step u i) (same_Some s t h)
run_one y s (j ∷ items) i t h = let b = begins y s j items t h in run-cons y s j (items ++ i ∷ []) b.next b.first ∙ run_one y b.next items i t b.rest

-- a schedule leads to the same, whatever it is called
pub leads_as : (q p : List (PlainItem ℕ)) (others schedule : List Item) (r : Run) → q ≡ p → others ≡ schedule → stands (text_of q) others ≡ Some r → stands (text_of p) schedule ≡ Some r
leads_as q p others schedule r e f h = rw (← e, ← f) h

-- a schedule leads somewhere
pub leads_nowhere : (q p : List (PlainItem ℕ)) (with_output : Bool) (items : List Item) → q ≡ p → stands (text_of q) items ≡ None → IsSchedule (program_system (text_of p) with_output) items → ⊥
leads_nowhere q p with_output items e h s =
    let none : stands (text_of p) items ≡ None = subst (λ x. stands (text_of x) items ≡ None) e h in
    let f : None ≡ Some s.0 = sym (ap (option_map (core_of with_output (past (text_of p) items))) none) ∙ sym (runs_core (text_of p) with_output items) ∙ s.1 in
    cc

-- an item that is not allowed leads nowhere
none_if : (with_output : Bool) (a : Past) (b : Bool) (o : Option Run) → b ≡ false → IsSome (option_map (core_of with_output a) (if b then o else None)) → ⊥
none_if with_output a true o e h = true≢false e
none_if with_output a false o e h = true≢false (sym h)

-- what is kept of a course is its core
kept_is : (with_output : Bool) (c : PlainCourse) (k : PlainKept) (p : List (PlainItem ℕ)) (items : List Item) → KeepsCourse with_output c k → c.program ≡ p → c.items ≡ items
    → core_kept p k ≡ core_of with_output (past (text_of p) items) (run_of c)
kept_is with_output c k p items h e f = rw (h.world, h.machines, h.began, h.faults, h.printed, ← e, ← f) refl

module _ (p : List (PlainItem ℕ)) (with_output : Bool) (schedule : List Item) (h : Hub) (after : IsAfter p schedule h) where
  -- where the hub stands
  abbrev pub here : Core
  here = core_of with_output (past (text_of p) schedule) (run_of h.course)

  pub leads_here : run (program_system (text_of p) with_output) (core_of with_output (past (text_of p) []) (opening (text_of p))) schedule ≡ Some here
  leads_here = runs_core (text_of p) with_output schedule ∙ ap (option_map (core_of with_output (past (text_of p) schedule))) after.leads

  pub keeps_here : (k : PlainKept) → KeepsCourse with_output h.course k
      → run (program_system (text_of p) with_output) (core_of with_output (past (text_of p) []) (opening (text_of p))) schedule ≡ Some (core_kept p k)
  keeps_here k kept = leads_here ∙ ap (λ c. Some c) (sym (kept_is with_output h.course k p schedule kept after.program after.items))

  pub allowed_here : (items : List Item) → items ≡ allowed (text_of h.course.program) (run_of h.course)
      → LeadsTo (program_system (text_of p) with_output) schedule (λ s. items ≡ (program_system (text_of p) with_output).allowed s)
  allowed_here items e =
      (here, leads_here, e ∙ ap (λ q. allowed (text_of q) (run_of h.course)) after.program ∙ sym (same_allowed (text_of p) with_output (past (text_of p) schedule) (run_of h.course)))

  -- an item that can come is allowed
  pub comes_here : (item : Item) → LeadsTo (program_system (text_of p) with_output) schedule (λ s. IsSome ((program_system (text_of p) with_output).step s item))
      → is_allowed h.course.world item ≡ false → ⊥
  comes_here item can refused =
      let is : can.0 ≡ here = same_Some can.0 here (sym can.1 ∙ leads_here) in
      none_if with_output (more here.past (done_by (text_of p) (run_at here) item)) (is_allowed h.course.world item) (after_item (text_of p) (run_at here) item) refused
      (subst (λ c. IsSome ((program_system (text_of p) with_output).step c item)) is can.2)

  pub steps_here : (item : Item) (new : Hub) (k : PlainKept) → Adds h.course item new.course → KeepsCourse with_output new.course k
      → LeadsTo (program_system (text_of p) with_output) schedule (λ s. (program_system (text_of p) with_output).step s item ≡ Some (core_kept p k))
  steps_here item new k adds kept =
      let y = program_system (text_of p) with_output in
      let q = text_of p in
      let on : stands q (schedule ++ item ∷ []) ≡ Some (run_of new.course) =
      leads_on q schedule item (run_of h.course) (Some (run_of new.course)) after.leads (rw (← after.program) adds.run) in
      let is : core_kept p k ≡ core_of with_output (past q (schedule ++ item ∷ [])) (run_of new.course) =
      kept_is with_output new.course k p (schedule ++ item ∷ []) kept (adds.program ∙ after.program) (adds.items ∙ ap (λ l. l ++ item ∷ []) after.items) in (
        here,
        leads_here,
        sym (run_one y y.start schedule item here leads_here) ∙ runs_core q with_output (schedule ++ item ∷ [])
            ∙ ap (option_map (core_of with_output (past q (schedule ++ item ∷ [])))) on ∙ ap (λ c. Some c) (sym is),
      )
