use Rattle.std.proofs.Common.{Bor, List, ℕ, inr, map, refl, subst}
use Rattle.cml_host.specs.Refused.{RefusesAs}
use Rattle.cml_host.specs.Scripts.{plain_script}
use Rattle.cml_host.specs.Servers.{IsNoFunction}
use Rattle.cml_host.proofs.BehindLemmas.{refusal_of}
use Rattle.cml_host.proofs.explore.explore_opened.Goals as goal

pub returns-in-Err-clause-told : goal.returns-in-Err-clause-told
returns-in-Err-clause-told g c =
    let s = plain_script c.args.script.now in
    inr (
      refusal_of _ c.in-Err.why (subst (λ (ns : List (Bor (List ℕ))). RefusesAs (IsNoFunction s (map (λ name. name.now) ns)) c.in-Err.why) c.as_slice.ensures.value c.in-Err.ensures.err),
      refl,
    )
