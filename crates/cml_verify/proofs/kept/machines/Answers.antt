use Rattle.std.proofs.Common.{◌≡◌, ◌≤◌, length, ap, ◌∙◌, arith, take_all}
use Rattle.cml_scan.specs.World.{PlainWorld}
use Rattle.cml_verify.proofs.Reading.{read_next}
use Rattle.cml_verify.proofs.Counting.{as_many_machines}
use Rattle.cml_verify.proofs.kept.machines.Goals as goal

pub loop-t-preserved : goal.loop-t-preserved
loop-t-preserved c =
    read_next c.loop-t.machines.items c.push.new.self.items c.in_ok-machine.machine c.args.hub.now.course.machines c.loop-t.t c.in_ok-push.ensures.items c.loop-t.invariant c.in_ok-machine.ensures

pub returns : goal.returns
returns c =
    let k = c.args.hub.now.course in
    let seen : length c.book.result.now.threads ≡ length k.world.threads = ap (λ (w : PlainWorld). length w.threads) c.book.ensures in
    let few : length k.machines ≤ c.loop-t.t = omega (arith, as_many_machines k c.schedule-items.ensures.leads, seen) in
    c.loop-t.invariant ∙ take_all c.loop-t.t k.machines few
