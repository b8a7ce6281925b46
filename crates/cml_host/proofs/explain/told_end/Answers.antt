use Rattle.std.proofs.Common.{rules, ◌≡◌, Err, ap, inl, inr, []}
use Rattle.cml_host.specs.Replies.{plain_reply}
use Rattle.cml_host.specs.declared.refusal.Refusal.TheVariants.{Memory}
use Rattle.cml_host.proofs.explain.told_end.Goals as goal

pub returns-in_err-words : goal.returns-in_err-words
returns-in_err-words c =
    let is : c.from_residual.result ≡ Err Memory = search rules in
    inr (ap (plain_reply []) is)

pub returns : goal.returns
returns c = inl (c.in_ok-words.words.items, c.text_reply.ensures)
