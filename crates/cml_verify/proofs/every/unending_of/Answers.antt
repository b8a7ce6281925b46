use Rattle.std.proofs.Common.{length, map, slice_get, ◌∙◌, arith}
use Rattle.std.proofs.lemmas.List.{length-map}
use Rattle.cml_step.specs.Calls.{text_of}
use Rattle.cml_hub.specs.Runs.{terminal}
use Rattle.cml_verify.specs.Systems.{CanReach}
use Rattle.cml_verify.proofs.Runs.{at_some}
use Rattle.cml_verify.specs.Places.{there}
use Rattle.cml_verify.specs.{Cores.{Core, program_system}, Kept.{core_kept}}
use Rattle.cml_verify.proofs.Unending.{never_ends, fewest_unending, always_can}
use Rattle.cml_verify.proofs.every.unending_of.Goals as goal

pub returns-in_ok-schedule-in-Some-clause-some : goal.returns-in_ok-schedule-in-Some-clause-some
returns-in_ok-schedule-in-Some-clause-some c =
    let p = c.args.system.now.program in
    let s = c.args.system.now.with_output in
    let keys = c.args.found.now.kept.keys in
    let states = map (core_kept p) keys in
    let k = c.in-Some.place in
    let cut = rw c.in-Some.is at c.in_ok-place.ensures.some in
    let t = there states k (omega (arith, length-map keys (core_kept p), cut.0)) in
    let first = rw c.in-Some.is at c.in_ok-place.ensures.first in
    let schedule = c.in_ok-schedule-in-Some.schedule.items in (
      never_ends (text_of p) s schedule t.0 (c.in_ok-schedule-in-Some.ensures.leads ∙ t.1)
          (at_some (λ (x : Core). CanReach (program_system (text_of p) s) (λ (z : Core). terminal z.world) x → ⊥) (slice_get states k) t.0 t.1
          (cut.1 (λ (z : Core). terminal z.world) c.requires.are)),
      fewest_unending (text_of p) s schedule states k (rw c.requires.any at c.in_ok-schedule-in-Some.ensures.fewest)
          (λ j x lt at. first (λ (z : Core). terminal z.world) c.requires.are j x lt at),
    )

pub returns-in-None-clause-none : goal.returns-in-None-clause-none
returns-in-None-clause-none c = λ whole.
    let p = c.args.system.now.program in
    let none = rw c.in-None.is at c.in_ok-place.ensures.none in
    always_can (text_of p) c.args.system.now.with_output (none (λ (z : Core). terminal z.world) c.requires.are)
