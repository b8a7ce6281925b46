use Rattle.std.proofs.Common.{rules, ◌≡◌, ◌∙◌, [], List, ℕ, ap, inl, inr}
use Rattle.cml_host.specs.Replies.{refusal}
use Rattle.cml_host.specs.Traced.{status_of}
use Rattle.cml_host.proofs.trace.trace_live.Goals as goal

pub returns-in-Ok-clause-told : goal.returns-in-Ok-clause-told
returns-in-Ok-clause-told g c =
    let none : c.new.result.items ≡ [] = search rules in
    inl (c.in-Ok.end, c.in-Ok.ensures.ok, c.in-Ok.ensures.cause, c.ended.ensures ∙ ap (λ (ts : List ℕ). refusal ts (status_of c.in-Ok.end)) none)

pub returns-in-Err-clause-told : goal.returns-in-Err-clause-told
returns-in-Err-clause-told g c = inr (c.in-Err.fault, c.in-Err.ensures.err, c.in-Err.ensures.cause, c.faulted.ensures)
