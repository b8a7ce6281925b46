use Rattle.std.proofs.Common.{rules, ◌≡◌, false}
use Rattle.cml_host.specs.Replies.{passage}
use Rattle.cml_host.proofs.ReplyLemmas.{sent_by, there_is}
use Rattle.cml_host.proofs.output.write_text.Goals as goal

pub returns-clause-sent : goal.returns-clause-sent
returns-clause-sent g c =
    let some : c.is_empty.result ≡ false = search rules in
    sent_by c.write_out.result c.args.text.now (passage g.W.Write.contents c.args.out.now c.write_out.new.out)
    (there_is c.args.text.now c.is_empty.result c.is_empty.ensures some) c.write_out.ensures.ok c.write_out.ensures.err c.write_out.ensures.fine c.write_out.ensures.failed
