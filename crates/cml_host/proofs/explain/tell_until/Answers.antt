use Rattle.std.proofs.Common.{rules, ◌≡◌, ◌∙◌, ◌<◌, Err, ap, length, get_or, refl, true, false, arith}
use Rattle.cml_stream.specs.Counts.{counted}
use Rattle.cml_schedule.specs.declared.item.Item.TheVariants.{Turn}
use Rattle.cml_host.specs.Replies.{passage}
use Rattle.cml_host.specs.declared.explain.Halt.TheVariants.{Memory, Write}
use Rattle.cml_host.proofs.StoryLemmas.{item_at, goes_none, goes_on, told_all, told_until}
use Rattle.cml_host.proofs.WriteLemmas.{if_err, writes_on}
use Rattle.cml_host.proofs.explain.tell_until.Goals as goal

pub loop-count-init : goal.loop-count-init
loop-count-init g c =
    record {
      none_out = c.requires.none_out;
      knows = c.requires.knows;
      goes = goes_none c.args.hub.now c.args.items.now (g.O.Write.contents c.args.out.now.stream.now);
      fine = refl;
      same = refl;
    }

pub returns-in_err-came-clause-err : goal.returns-in_err-came-clause-err
returns-in_err-came-clause-err g c =
    let is : c.from_residual.result ≡ Err Memory = search rules in
    if_err c.from_residual.result Memory _ is (c.loop-count.invariant.goes.wrote, c.loop-count.invariant.fine)

pub returns-then-not-came-clause-ok : goal.returns-then-not-came-clause-ok
returns-then-not-came-clause-ok g c =
    let items = c.args.items.now in
    let count = c.loop-count.count in
    let item = get_or items count (Turn (record { 0 = 0 })) in
    let within : count < length items = omega arith in
    let so : c.in_ok-came.came ≡ false = search rules in
    told_until c.args.hub.now items count item c.loop-count.hub c.tell_item.new.hub c.in_ok-came.came (passage g.O.Write.contents c.args.out.now c.loop-count.out) within
    (item_at items count (Turn (record { 0 = 0 })) within) so c.loop-count.invariant.goes
    c.in_ok-came.ensures.follows c.loop-count.invariant.fine

pub returns-in_err-spill_full-clause-err : goal.returns-in_err-spill_full-clause-err
returns-in_err-spill_full-clause-err g c =
    let is : c.from_residual-in_err-spill_full.result ≡ Err Write = search rules in
    if_err c.from_residual-in_err-spill_full.result Write _ is (
      writes_on (g.O.Write.contents c.args.out.now.stream.now) (g.O.Write.contents c.loop-count.out.stream.now) (g.O.Write.contents c.spill_full.new.out.stream.now)
          c.loop-count.invariant.goes.wrote c.spill_full.ensures.wrote,
      c.in_err-spill_full.ensures.failed ∙ ap counted c.loop-count.invariant.fine,
    )

pub loop-count-preserved : goal.loop-count-preserved
loop-count-preserved g c =
    let items = c.args.items.now in
    let count = c.loop-count.count in
    let item = get_or items count (Turn (record { 0 = 0 })) in
    let within : count < length items = omega arith in
    let inv = c.loop-count.invariant in
    let so : c.in_ok-came.came ≡ true = search rules in
    record {
      none_out = c.in_ok-came.ensures.none_out;
      knows = c.in_ok-came.ensures.knows so;
      goes = goes_on c.args.hub.now items count item c.loop-count.hub c.tell_item.new.hub c.in_ok-came.came (g.O.Write.contents c.args.out.now.stream.now)
          (g.O.Write.contents c.loop-count.out.stream.now) (g.O.Write.contents c.spill_full.new.out.stream.now) within
          (item_at items count (Turn (record { 0 = 0 })) within) so inv.goes c.in_ok-came.ensures.follows c.spill_full.ensures.wrote;
      fine = c.in_ok-spill_full.ensures.fine ∙ inv.fine;
      same = c.in_ok-spill_full.ensures.same_out ∙ inv.same;
    }

pub returns-clause-ok : goal.returns-clause-ok
returns-clause-ok g c =
    told_all c.args.hub.now c.args.items.now c.loop-count.count c.loop-count.hub (passage g.O.Write.contents c.args.out.now c.loop-count.out)
    (omega arith) c.loop-count.invariant.goes c.loop-count.invariant.fine
