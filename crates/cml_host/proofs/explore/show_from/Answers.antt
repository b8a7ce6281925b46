use Rattle.std.proofs.Common.{rules, ◌≡◌, ◌∙◌, Err, refl}
use Rattle.cml_host.specs.Replies.{moment}
use Rattle.cml_host.proofs.ExploringLemmas.{cut_on}
use Rattle.cml_host.proofs.WriteLemmas.{if_err, writes_none, writes_on}
use Rattle.cml_host.proofs.explore.show_from.Goals as goal

pub loop-made-init : goal.loop-made-init
loop-made-init g c = record { wrote = writes_none (g.E.Write.contents c.args.err.now.stream.now); fine = refl; same = refl }

pub returns-in_err-show_next-clause-err : goal.returns-in_err-show_next-clause-err
returns-in_err-show_next-clause-err g c =
    let why = c.in_err-show_next.field-0.0 in
    let is : c.from_residual.result ≡ Err why = search rules in
    let contents = g.E.Write.contents in
    if_err c.from_residual.result why _ is (cut_on why (moment contents c.args.err.now) (moment contents c.loop-made.err) (moment contents c.show_next.new.err)
    c.loop-made.invariant.wrote c.loop-made.invariant.fine c.in_err-show_next.ensures.err)

pub loop-made-preserved : goal.loop-made-preserved
loop-made-preserved g c =
    record {
      wrote = writes_on (g.E.Write.contents c.args.err.now.stream.now) (g.E.Write.contents c.loop-made.err.stream.now) (g.E.Write.contents c.show_next.new.err.stream.now)
          c.loop-made.invariant.wrote c.in_ok-show_next.ensures.ok.0;
      fine = c.in_ok-show_next.ensures.ok.1 ∙ c.loop-made.invariant.fine;
      same = c.in_ok-show_next.ensures.same_err ∙ c.loop-made.invariant.same;
    }

pub returns-clause-ok : goal.returns-clause-ok
returns-clause-ok g c = (c.loop-made.invariant.wrote, c.loop-made.invariant.fine)
