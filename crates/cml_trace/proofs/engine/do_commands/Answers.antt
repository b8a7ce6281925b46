use Rattle.std.proofs.Common.{rules, ◌≡◌, List, subst}
use Rattle.std.specs.List.{flat_map}
use Rattle.cml_book.specs.declared.command.Reply.{Reply}
use Rattle.cml_trace.specs.Replies.{reply_text}
use Rattle.cml_trace.specs.Pages.{TellsStart}
use Rattle.cml_stream.specs.Streams.{stream}
use Rattle.cml_trace.proofs.EngineLemmas.{on_err, begun_stopped}
use Rattle.cml_trace.proofs.PageLemmas.{TellsStart-all}
use Rattle.cml_trace.proofs.engine.do_commands.Goals as goal

pub returns-in_err-told-in-Err-clause-err : goal.returns-in_err-told-in-Err-clause-err
returns-in_err-told-in-Err-clause-err g c =
    let same : c.as_slice-in-Err.result.now ≡ c.in-Err.stopped.replies.items = search rules in
    let output = stream (g.W.Write.contents c.args.writer.now.stream.now) (g.W.Write.contents c.tell_replies-told.new.writer.stream.now) in
    let told = subst (λ (rs : List Reply). TellsStart c.args.page.now c.tell_replies-told.new.page output (flat_map reply_text rs)) same
    (rw c.in_err-told-in-Err.was at c.tell_replies-told.ensures.err) in
    on_err c.from_residual.result
    (begun_stopped c.args.commands.items c.in-Err.stopped.left.items c.in-Err.stopped.replies.items c.args.book.now c.run.new.self _ _ _ _ c.in-Err.ensures.stopped told)

pub returns-in_ok-told-in-Err-clause-err : goal.returns-in_ok-told-in-Err-clause-err
returns-in_ok-told-in-Err-clause-err g c =
    let same : c.as_slice-in-Err.result.now ≡ c.in-Err.stopped.replies.items = search rules in
    let output = stream (g.W.Write.contents c.args.writer.now.stream.now) (g.W.Write.contents c.tell_replies-told.new.writer.stream.now) in
    let told = subst (λ (rs : List Reply). TellsStart c.args.page.now c.tell_replies-told.new.page output (flat_map reply_text rs)) same
    (TellsStart-all _ _ _ _ _ (rw c.in_ok-told-in-Err.was at c.tell_replies-told.ensures.ok)) in
    begun_stopped c.args.commands.items c.in-Err.stopped.left.items c.in-Err.stopped.replies.items c.args.book.now c.run.new.self _ _ _ _ c.in-Err.ensures.stopped told
