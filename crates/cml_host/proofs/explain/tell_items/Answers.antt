use Rattle.std.proofs.Common.{rules, ◌≡◌, Err, ap, ◌∙◌, refl}
use Rattle.cml_stream.specs.Counts.{counted}
use Rattle.cml_host.specs.Replies.{moment}
use Rattle.cml_host.specs.declared.explain.Halt.TheVariants.{Memory, Write}
use Rattle.cml_host.proofs.StoryLemmas.{told_written}
use Rattle.cml_host.proofs.WriteLemmas.{if_err, writes_none, writes_on}
use Rattle.cml_host.proofs.explain.tell_items.Goals as goal

pub returns-in_err-narrator-clause-err : goal.returns-in_err-narrator-clause-err
returns-in_err-narrator-clause-err g c =
    let is : c.from_residual.result ≡ Err Memory = search rules in
    if_err c.from_residual.result Memory _ is (writes_none (g.O.Write.contents c.args.out.now.stream.now), refl)

pub tell_until-requires-clause-knows : goal.tell_until-requires-clause-knows
tell_until-requires-clause-knows g c = c.in_ok-narrator.ensures.knows c.args.hub.now.course c.requires.start.items

pub returns-in_err-spill-clause-err : goal.returns-in_err-spill-clause-err
returns-in_err-spill-clause-err g c =
    let is : c.from_residual-in_err-spill.result ≡ Err Write = search rules in
    if_err c.from_residual-in_err-spill.result Write _ is (
      writes_on (g.O.Write.contents c.args.out.now.stream.now) (g.O.Write.contents c.tell_until.new.out.stream.now) (g.O.Write.contents c.spill.new.out.stream.now)
          c.in_ok-count.ensures.ok.wrote c.spill.ensures.wrote,
      c.in_err-spill.ensures.failed ∙ ap counted c.in_ok-count.ensures.ok.fine,
    )

pub returns-clause-ok : goal.returns-clause-ok
returns-clause-ok g c =
    let contents = g.O.Write.contents in
    told_written c.args.hub.now c.args.items.now c.in_ok-count.count c.tell_until.new.hub (moment contents c.args.out.now) (moment contents c.tell_until.new.out)
    (moment contents c.spill.new.out) c.in_ok-count.ensures.ok c.spill.ensures.wrote c.in_ok-spill.ensures.fine
