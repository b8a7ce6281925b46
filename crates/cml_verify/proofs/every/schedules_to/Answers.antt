use Rattle.std.proofs.Common.{[], ◌∷◌, map, get_or, ap, ◌∙◌, arith}
use Rattle.std.proofs.lemmas.List.{map-append}
use Rattle.std.proofs.lemmas.Option.{slice_get-get_or}
use Rattle.cml_step.specs.Calls.{text_of}
use Rattle.cml_verify.specs.{Cores.{program_system}, Kept.{core_kept}}
use Rattle.cml_verify.proofs.Verdicts.{told_none, told_more}
use Rattle.cml_verify.proofs.every.schedules_to.Goals as goal

pub schedule_to-requires-clause-search : goal.schedule_to-requires-clause-search
schedule_to-requires-clause-search c = rw (c.requires.any) c.requires.search

pub loop-place-init : goal.loop-place-init
loop-place-init c =
    let p = c.args.system.now.program in
    told_none (program_system (text_of p) c.args.system.now.with_output) (map (core_kept p) c.args.found.now.kept.keys) c.args.places.now
    (map (λ schedule. schedule.items) c.new-schedules.result.items)
    (ap (map (λ schedule. schedule.items)) c.new-schedules.ensures.items)

pub loop-place-preserved : goal.loop-place-preserved
loop-place-preserved c =
    let p = c.args.system.now.program in
    let keys = c.args.found.now.kept.keys in
    let places = c.args.places.now in
    let i = c.loop-place.place-index in
    told_more (program_system (text_of p) c.args.system.now.with_output) (map (core_kept p) keys) places i (get_or places i 0) (map (λ schedule. schedule.items) c.loop-place.schedules.items)
    (map (λ schedule. schedule.items) c.push.new.self.items) c.in_ok-schedule.schedule.items c.loop-place.invariant
    (ap (map (λ schedule. schedule.items)) c.in_ok-push.ensures.items ∙ map-append (λ schedule. schedule.items) c.loop-place.schedules.items (c.in_ok-schedule.schedule ∷ []))
    (slice_get-get_or places i 0 (omega arith))
    c.in_ok-schedule.ensures.leads (rw c.requires.any at c.in_ok-schedule.ensures.fewest)
