use Rattle.std.proofs.Common.{◌≡◌, drop}
use Rattle.std.specs.List.{flat_map}
use Rattle.cml_trace.specs.Replies.{reply_text}
use Rattle.cml_trace.proofs.PageLemmas.{Told}
use Rattle.cml_trace.proofs.reply.tell_replies.Given as goal

abbrev pub invariant-loop-reply : goal.invariant-loop-reply
invariant-loop-reply g l =
    Told (flat_map reply_text l.replies) (flat_map reply_text (drop l.reply-index l.replies)) l.fn.page l.page
    (g.W.Write.contents l.fn.writer.stream.now) (g.W.Write.contents l.writer.stream.now)
    × (l.writer.stream.ghost_name ≡ l.fn.writer.stream.ghost_name)
    × (l.writer.failed ≡ 0)
