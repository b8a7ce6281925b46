use Rattle.std.proofs.Common.{rules, ◌≡◌, ◌++◌, ◌+◌, ◌∙◌, drop, ap, sym}
use Rattle.std.specs.List.{flat_map}
use Rattle.cml_trace.specs.Replies.{reply_text}
use Rattle.cml_trace.proofs.EngineLemmas.{on_err}
use Rattle.cml_trace.proofs.PageLemmas.{Told-line, Told-begun, Told-stopped, next_text}
use Rattle.cml_trace.proofs.reply.tell_replies.Goals as goal

pub returns-in_err-push_reply-clause-err : goal.returns-in_err-push_reply-clause-err
returns-in_err-push_reply-clause-err g c = on_err c.from_residual.result (Told-stopped _ _ _ _ _ _ c.loop-reply.invariant.0)

pub returns-in_err-add-clause-err : goal.returns-in_err-add-clause-err
returns-in_err-add-clause-err g c =
    let rest = flat_map reply_text (drop (c.loop-reply.reply-index + 1) c.args.replies.now) in
    let text : c.as_str.result.now ≡ reply_text c.reply-item.result = search rules in
    let next : flat_map reply_text (drop c.loop-reply.reply-index c.args.replies.now) ≡ c.as_str.result.now ++ rest =
    next_text reply_text c.args.replies.now c.loop-reply.reply-index c.reply-item.result c.loop-reply-test.true
    ∙ ap (λ r. reply_text r ++ rest) (sym c.reply-item.is) ∙ ap (λ t. t ++ rest) (sym text) in
    on_err c.from_residual-in_err-add.result (Told-begun _ _ rest c.as_str.result.now _ _ _ _ _ _ c.loop-reply.invariant.0 next c.in_err-add.ensures.err)

pub loop-reply-preserved : goal.loop-reply-preserved
loop-reply-preserved g c =
    let rest = flat_map reply_text (drop (c.loop-reply.reply-index + 1) c.args.replies.now) in
    let text : c.as_str.result.now ≡ reply_text c.reply-item.result = search rules in
    let next : flat_map reply_text (drop c.loop-reply.reply-index c.args.replies.now) ≡ c.as_str.result.now ++ rest =
    next_text reply_text c.args.replies.now c.loop-reply.reply-index c.reply-item.result c.loop-reply-test.true
    ∙ ap (λ r. reply_text r ++ rest) (sym c.reply-item.is) ∙ ap (λ t. t ++ rest) (sym text) in (
      Told-line _ _ rest c.as_str.result.now _ _ _ _ _ _ c.loop-reply.invariant.0 next c.in_ok-add.ensures.ok,
      c.add.ensures.same_reference ∙ c.loop-reply.invariant.1,
      c.in_ok-add.ensures.failed,
    )
