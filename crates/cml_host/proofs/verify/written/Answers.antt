use Rattle.std.proofs.Common.{◌≡◌, false}
use Rattle.std.proofs.lemmas.Result.{IfOk-weaker}
use Rattle.cml_host.proofs.VerifyLemmas.{ok_any}
use Rattle.cml_host.proofs.verify.written.Goals as goal

pub returns-then-options : goal.returns-then-options
returns-then-options c = IfOk-weaker c.verify_json.result _ _ (λ said is asked. is) c.verify_json.ensures

pub returns-else-options : goal.returns-else-options
returns-else-options c =
    let off = c.if-options.false in
    ok_any c.say_found.result _ (λ said asked. absurd (cc))
