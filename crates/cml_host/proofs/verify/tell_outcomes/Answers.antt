use Rattle.std.proofs.Common.{◌∙◌, ap, map}
use Rattle.cml_host.specs.Outcomes.{plain_outcome_told}
use Rattle.cml_host.specs.Verified.{ends_start, is_clean, outcomes_reply, verdict_status}
use Rattle.cml_host.proofs.verify.tell_outcomes.Goals as goal

pub returns-clause-told : goal.returns-clause-told
returns-clause-told c =
    let v = c.in_ok-verdict.verdict in
    let reply = outcomes_reply (ends_start c.args.options.now) c.args.script.now.program v.states v.reach in
    let told = map plain_outcome_told c.in_ok-told.told.items in
    record {
      verdict = v;
      found = c.in_ok-verdict.ensures.found;
      made = c.in_ok-made.made;
      gathered = rw c.as_slice-schedules.ensures.value at c.in_ok-made.ensures;
      told = told;
      outcomes = rw c.as_slice-schedules.ensures.value at c.in_ok-told.ensures;
      reply_is = c.in_ok-reply_outcomes.ensures
          ∙ (ap (λ ts. reply (map plain_outcome_told ts) c.verdict_status-status.result) c.as_slice.ensures.value
          ∙ ap (λ n. reply told n) (c.verdict_status-status.ensures
          ∙ ap (verdict_status v.reach) (c.is_clean-clean.ensures ∙ ap (λ well. is_clean c.args.options.now.endless well v) c.is_well.ensures)));
    }
