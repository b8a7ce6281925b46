use Rattle.std.proofs.Common.{refl, ◌∙◌, ap}
use Rattle.cml_json.specs.Verdicts.{verify_json}
use Rattle.cml_host.specs.Verified.{is_clean}
use Rattle.cml_host.proofs.verify.examine.Goals as goal

pub returns-clause-found : goal.returns-clause-found
returns-clause-found c =
    let v = c.in_ok-verdict.verdict in
    let options = c.args.options.now in
    let written = verify_json options.script.now c.args.script.now.forms.items c.args.servers.now v.states v.reach c.in_ok-told.told in
    record {
      verdict = v;
      found = c.in_ok-verdict.ensures.found;
      reach_is = refl;
      gathered = rw c.as_slice.ensures.value at c.in_ok-made.ensures;
      told_are = c.in_ok-told.ensures.told;
      faults = c.in_ok-faults.faults.items;
      faults_are = c.in_ok-faults.ensures;
      clean_is = c.is_clean-clean.ensures ∙ ap (λ well. is_clean options.endless well v) c.is_well.ensures;
      said_is = λ asked. c.in_ok-said.ensures asked
          ∙ (ap (λ fs. verify_json options.script.now fs c.args.servers.now v.states v.reach c.in_ok-told.told c.as_slice-3.result.now c.unending_items.result c.is_clean-clean.result)
          c.as_slice-2.ensures.value
          ∙ (ap (λ fs. written fs c.unending_items.result c.is_clean-clean.result) c.as_slice-3.ensures.value
          ∙ ap (λ u. written c.in_ok-faults.faults.items u c.is_clean-clean.result) c.unending_items.ensures));
    }
