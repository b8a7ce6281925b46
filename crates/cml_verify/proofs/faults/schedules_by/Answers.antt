use Rattle.std.proofs.Common.{◌≡◌, ℕ, Some, slice_get, get_or, [], ◌∷◌, map, ap, ◌∙◌, arith}
use Rattle.std.proofs.lemmas.List.{map-append}
use Rattle.std.proofs.lemmas.Option.{slice_get-get_or, slice_get_within}
use Rattle.cml_value.specs.declared.number.Tid.{Tid}
use Rattle.cml_step.specs.Calls.{text_of}
use Rattle.cml_verify.specs.Places.{all_at}
use Rattle.cml_verify.specs.{Cores.{program_system}, Kept.{core_kept}, Falling.{FallsFrom}}
use Rattle.cml_verify.proofs.Faulting.{by_none, by_more}
use Rattle.cml_verify.proofs.faults.schedules_by.Goals as goal

pub schedule_by-requires-clause-within : goal.schedule_by-requires-clause-within
schedule_by-requires-clause-within c =
    let keys = c.args.found.now.kept.keys in
    let told = c.args.told.now in
    let i = c.loop-one.one-index in
    let none : ℕ × Tid = (0, record { 0 = 0 }) in
    let f : ℕ × Tid = get_or told i none in
    let at : slice_get told i ≡ Some f = slice_get-get_or told i none (omega arith) in
    let a = all_at (FallsFrom c.args.system.now.program c.args.system.now.with_output keys) told i f c.requires.each at in
    slice_get_within keys f.0 a.one a.at

pub loop-one-init : goal.loop-one-init
loop-one-init c =
    let p = c.args.system.now.program in
    by_none (program_system (text_of p) c.args.system.now.with_output) (map (core_kept p) c.args.found.now.kept.keys) c.args.told.now (map (λ schedule. schedule.items) c.new-schedules.result.items)
    (ap (map (λ schedule. schedule.items)) c.new-schedules.ensures.items)

pub loop-one-preserved : goal.loop-one-preserved
loop-one-preserved c =
    let p = c.args.system.now.program in
    let told = c.args.told.now in
    let i = c.loop-one.one-index in
    let none : ℕ × Tid = (0, record { 0 = 0 }) in
    let f : ℕ × Tid = get_or told i none in
    by_more (program_system (text_of p) c.args.system.now.with_output) (map (core_kept p) c.args.found.now.kept.keys) told i f (map (λ schedule. schedule.items) c.loop-one.schedules.items)
    (map (λ schedule. schedule.items) c.push.new.self.items) c.in_ok-schedule.schedule.items c.loop-one.invariant
    (ap (map (λ schedule. schedule.items)) c.in_ok-push.ensures.items ∙ map-append (λ schedule. schedule.items) c.loop-one.schedules.items (c.in_ok-schedule.schedule ∷ []))
    (slice_get-get_or told i none (omega arith)) c.in_ok-schedule.ensures
