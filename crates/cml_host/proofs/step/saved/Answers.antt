use Rattle.std.proofs.Common.{rules, ◌≡◌, ◌∙◌, Err, List, ap, inl, inr, []}
use Rattle.cml_host.specs.Replies.{File, plain_reply}
use Rattle.cml_host.specs.Stepped.{saves}
use Rattle.cml_host.specs.declared.refusal.Refusal.TheVariants.{Memory}
use Rattle.cml_host.proofs.step.saved.Goals as goal

pub returns-in_err-files : goal.returns-in_err-files
returns-in_err-files c =
    let is : c.from_residual.result ≡ Err Memory = search rules in
    inr (ap (plain_reply []) is)

pub returns : goal.returns
returns c = inl (c.saving.ensures ∙ ap (λ (files : List File). saves files) c.in_ok-files.ensures)
