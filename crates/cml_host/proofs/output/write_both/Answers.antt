use Rattle.cml_host.specs.Replies.{moment}
use Rattle.cml_host.proofs.ReplyLemmas.{sent_behind}
use Rattle.cml_host.proofs.output.write_both.Goals as goal

pub returns-in-Ok-clause-sent : goal.returns-in-Ok-clause-sent
returns-in-Ok-clause-sent g c =
    let at = moment g.W.Write.contents in
    sent_behind c.write_text-in-Ok.result c.args.first.now c.args.second.now (at c.args.out.now) (at c.write_text.new.out) (at c.write_text-in-Ok.new.out)
    c.in-Ok.ensures.sent c.write_text-in-Ok.ensures.sent
