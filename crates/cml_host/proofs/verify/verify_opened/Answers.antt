use Rattle.std.proofs.Common.{◌≡◌, ◌∙◌, Bor, List, ℕ, IfOk, ap, inl, inr, map, subst, sym}
use Rattle.cml_host.specs.Refused.{RefusesAs}
use Rattle.cml_host.specs.Replies.{plain_of}
use Rattle.cml_host.specs.Scripts.{plain_script}
use Rattle.cml_host.specs.Servers.{IsNoFunction, first_unknown, server_numbers}
use Rattle.cml_host.specs.Verified.{IsAstray, ProgramVerified, verified_servers}
use Rattle.cml_host.proofs.BehindLemmas.{refusal_of, reply_or}
use Rattle.cml_host.proofs.verify.verify_opened.Goals as goal

pub returns-in-Ok : goal.returns-in-Ok
returns-in-Ok c =
    let s = plain_script c.args.script.now in
    let options = c.args.options.now in
    let same : map (λ name. name.now) c.as_slice.result.now ≡ verified_servers options = ap (map (λ name. name.now)) c.as_slice.ensures.value in
    let numbers : c.as_slice-numbers.result.now ≡ server_numbers s (verified_servers options) =
    c.as_slice-numbers.ensures.value ∙ (c.in-Ok.ensures.found ∙ ap (server_numbers s) same) in
    let told = subst (λ (ns : List ℕ). IfOk c.verify_program.result (λ reply. ProgramVerified options s ns (plain_of reply))) numbers c.verify_program.ensures.told in
    inl (
      sym (ap (first_unknown s) same) ∙ c.in-Ok.ensures.known,
      reply_or (ProgramVerified options s (server_numbers s (verified_servers options))) IsAstray c.verify_program.result told c.verify_program.ensures.err,
    )

pub returns-in-Err : goal.returns-in-Err
returns-in-Err c =
    let s = plain_script c.args.script.now in
    let wrong = subst (λ (ns : List (Bor (List ℕ))). RefusesAs (IsNoFunction s (map (λ name. name.now) ns)) c.in-Err.why) c.as_slice.ensures.value c.in-Err.ensures.err in
    inr (refusal_of _ c.in-Err.why wrong)
