use Rattle.std.proofs.Common.{rules, ◌≡◌, ◌∙◌, ◌++◌, ◌∷◌, [], Err, List, sym, ap, append-nil, append_assoc}
use Rattle.cml_properties.specs.declared.property.Property.{Property}
use Rattle.cml_host.proofs.WantedLemmas.{bad_text, given_next}
use Rattle.cml_host.proofs.wanted.push_given.Goals as goal

pub loop-text-init : goal.loop-text-init
loop-text-init c = ([], tt, sym (append-nil c.args.found.now.items))

pub loop-text-preserved : goal.loop-text-preserved
loop-text-preserved c =
    let so = c.loop-text.invariant in (
      so.0 ++ c.in_ok-property.property ∷ [],
      given_next (λ text. text.now) c.args.kind c.args.texts.now c.loop-text.text-index _ so.0 c.in_ok-property.property c.loop-text-test.true so.1 c.in_ok-property.ensures.ok,
      c.in_ok-push_one.ensures ∙ (ap (λ (l : List Property). l ++ c.in_ok-property.property ∷ []) so.2 ∙ append_assoc c.args.found.now.items so.0 (c.in_ok-property.property ∷ [])),
    )

pub returns-in_err-property-clause-err : goal.returns-in_err-property-clause-err
returns-in_err-property-clause-err c =
    let so = c.loop-text.invariant in
    let why = c.in_err-property.field-0.0 in
    let is : c.from_residual.result ≡ Err why = search rules in
    bad_text (λ text. text.now) c.args.explains c.args.kind c.args.texts.now c.loop-text.text-index _ so.0 c.from_residual.result why c.loop-text-test.true so.1 is c.in_err-property.ensures.err
