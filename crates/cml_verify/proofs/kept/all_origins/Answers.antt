use Rattle.std.proofs.Common.{◌≡◌, ◌<◌, ◌≤◌, length, ap, ◌∙◌, arith, take_all}
use Rattle.cml_scan.specs.World.{PlainWorld}
use Rattle.cml_hub.specs.Deeds.{origins}
use Rattle.cml_step.specs.Calls.{text_of}
use Rattle.cml_verify.proofs.Reading.{read_next}
use Rattle.cml_verify.proofs.Counting.{as_many_origins}
use Rattle.cml_verify.proofs.kept.all_origins.Goals as goal

pub origin_of-requires : goal.origin_of-requires
origin_of-requires c =
    let k = c.args.hub.now.course in
    let seen : length c.book.result.now.threads ≡ length k.world.threads = ap (λ (w : PlainWorld). length w.threads) c.book.ensures in
    let there : c.loop-t.t < length (origins (text_of k.program) k.items) = omega (arith, as_many_origins k c.schedule-items.ensures.leads, seen) in
    there

pub loop-t-preserved : goal.loop-t-preserved
loop-t-preserved c =
    let k = c.args.hub.now.course in
    read_next c.loop-t.began.items c.push.new.self.items c.in_ok-function.function (origins (text_of k.program) k.items) c.loop-t.t
    c.in_ok-push.ensures.items c.loop-t.invariant c.in_ok-function.ensures

pub returns : goal.returns
returns c =
    let k = c.args.hub.now.course in
    let seen : length c.book.result.now.threads ≡ length k.world.threads = ap (λ (w : PlainWorld). length w.threads) c.book.ensures in
    let few : length (origins (text_of k.program) k.items) ≤ c.loop-t.t = omega (arith, as_many_origins k c.schedule-items.ensures.leads, seen) in
    c.loop-t.invariant ∙ take_all c.loop-t.t (origins (text_of k.program) k.items) few
