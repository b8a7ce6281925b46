use Rattle.std.proofs.Common.{[], refl, sym}
use Rattle.std.proofs.lemmas.Option.{same_Some}
use Rattle.cml_hub.specs.Runs.{opening}
use Rattle.cml_step.specs.Calls.{text_of}
use Rattle.cml_verify.specs.{Cores.{past, core_of}, Kept.{core_kept}}
use Rattle.cml_verify.proofs.Stepping.{keeps_here}
use Rattle.cml_verify.proofs.schedules.SchedulesSystem.start.Goals as goal

pub returns : goal.returns
returns c =
    let p = c.args.self.now.program in
    let o = c.args.self.now.with_output in
    sym (same_Some (core_of o (past (text_of p) []) (opening (text_of p))) (core_kept p c.in_ok-kept.kept)
    (keeps_here p o [] c.in_ok-hub.hub c.in_ok-hub.ensures c.in_ok-kept.kept c.in_ok-kept.ensures))

pub hub_after-requires : goal.hub_after-requires
hub_after-requires c = (c.args.self.now.with_output, (core_of c.args.self.now.with_output (past (text_of c.args.self.now.program) []) (opening (text_of c.args.self.now.program)), refl, tt))
