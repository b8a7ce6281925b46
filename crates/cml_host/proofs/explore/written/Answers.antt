use Rattle.std.proofs.Common.{◌≡◌, ◌∙◌, ap, false}
use Rattle.std.proofs.lemmas.Result.{IfOk-weaker}
use Rattle.cml_json.specs.Explored.{explore_json}
use Rattle.cml_host.proofs.VerifyLemmas.{ok_any}
use Rattle.cml_host.proofs.explore.written.Goals as goal

pub returns-then-options : goal.returns-then-options
returns-then-options c =
    IfOk-weaker c.explore_json.result _ _
    (λ text is asked. is ∙ ap (λ fs. explore_json c.args.options.now.script.now fs c.args.properties.now c.args.told.now) c.as_slice-forms.ensures.value) c.explore_json.ensures

pub returns-else-options : goal.returns-else-options
returns-else-options c =
    let off = c.if-options.false in
    ok_any c.words_of.result _ (λ text asked. absurd (cc))
