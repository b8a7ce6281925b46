use Rattle.std.proofs.Common.{List, [], inl, inr, refl, subst}
use Rattle.cml_properties.specs.declared.property.Property.{Property}
use Rattle.cml_host.specs.Exploring.{ScriptExplored}
use Rattle.cml_host.specs.Replies.{passage, plain_reply}
use Rattle.cml_host.specs.Scripts.{plain_script}
use Rattle.cml_host.proofs.BehindLemmas.{refusal_of}
use Rattle.cml_host.proofs.explore.explore_wanted.Goals as goal

pub returns-in-Ok-clause-told : goal.returns-in-Ok-clause-told
returns-in-Ok-clause-told g c =
    let errors = passage g.E.Write.contents c.args.err.now c.explore_opened.new.err in
    inl (
      c.in-Ok.properties.items,
      c.in-Ok.ensures.ok,
      subst (λ (ps : List Property). ScriptExplored c.args.options.now c.args.shows (plain_script c.args.script.now) ps errors (plain_reply [] c.explore_opened.result))
          c.as_slice.ensures.value c.explore_opened.ensures.told,
    )

pub returns-in-Err-clause-told : goal.returns-in-Err-clause-told
returns-in-Err-clause-told g c = inr (refusal_of _ c.in-Err.why c.in-Err.ensures.err, refl)
