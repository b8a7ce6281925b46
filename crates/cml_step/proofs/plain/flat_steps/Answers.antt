use Rattle.std.proofs.Common.{◌≡◌, length, true, refl, ap, sym, subst, ◌∙◌}
use Rattle.std.proofs.lemmas.List.{with_items_is}
use Rattle.cml_check.specs.InOrder.{arities}
use Rattle.cml_step.specs.Agrees.{all_agree}
use Rattle.cml_step.specs.Undone.{unset}
use Rattle.cml_step.proofs.PlainLemmas.{runs_to}
use Rattle.cml_step.proofs.plain.flat_steps.Goals as goal

pub returns-clause-goes : goal.returns-clause-goes
returns-clause-goes c = λ p self below.
    let old = c.args.call.now in
    let r = c.flat_run-at.result in
    let ws = c.flat_run-at.new.slots in
    let back = with_items_is old.slots ws (c.flat_run-at.ensures.count ∙ c.as_mut_slice.ensures.len) in
    runs_to r.1 c.args.f.now old.wait old.at old.slots.items c.as_mut_slice.result.now r.0 ws _ c.requires.runs c.as_mut_slice.ensures.value back c.flat_run-at.ensures.goes p self below

pub returns-clause-kept : goal.returns-clause-kept
returns-clause-kept c =
    let fs = arities c.args.program.now in
    let back = with_items_is c.args.call.now.slots c.flat_run-at.new.slots (c.flat_run-at.ensures.count ∙ c.as_mut_slice.ensures.len) in
    record {
      agree = ap (all_agree fs) back
          ∙ c.flat_run-at.ensures.agree fs (subst (λ vs. all_agree fs vs ≡ true) (sym c.as_mut_slice.ensures.value) c.requires.agree);
      runs = c.requires.runs;
      same = refl;
    }

pub returns-clause-noted : goal.returns-clause-noted
returns-clause-noted c = λ on.
    let back = with_items_is c.args.call.now.slots c.flat_run-at.new.slots (c.flat_run-at.ensures.count ∙ c.as_mut_slice.ensures.len) in
    record {
      slots = ap (unset c.flat_run-at.new.sets.items) back ∙ c.flat_run-at.ensures.noted on ∙ ap (unset c.args.sets.now.items) c.as_mut_slice.ensures.value;
      count = ap length back ∙ c.flat_run-at.ensures.count ∙ ap length c.as_mut_slice.ensures.value;
      func = refl;
    }
