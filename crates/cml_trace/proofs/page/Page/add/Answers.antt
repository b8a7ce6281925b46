use Rattle.std.proofs.Common.{rules, ◌≡◌, ◌++◌}
use Rattle.std.specs.String.{string_bytes}
use Rattle.cml_trace.proofs.EngineLemmas.{on_err}
use Rattle.cml_trace.proofs.PageLemmas.{TellsStart-sent}
use Rattle.cml_trace.proofs.page.Page.add.Goals as goal

pub returns-in_err-send-clause-err : goal.returns-in_err-send-clause-err
returns-in_err-send-clause-err g c =
    let all : string_bytes c.push_str.new.self ≡ c.args.self.now ++ c.args.line.now = search rules in
    on_err c.from_residual-in_err-send.result
    (TellsStart-sent c.args.self.now c.send.new.self (string_bytes c.push_str.new.self) c.args.line.now (g.W.Write.contents c.args.writer.now.stream.now)
    (g.W.Write.contents c.send.new.writer.stream.now) c.in_err-send.ensures.err.0 all c.send.ensures.empty c.in_err-send.ensures.err.1)
