use Rattle.std.proofs.Common.{inl, inr, refl}
use Rattle.cml_host.proofs.ClosedLemmas.{starts_again}
use Rattle.cml_host.proofs.BehindLemmas.{refusal_of}
use Rattle.cml_host.proofs.explain.explain_there.Goals as goal

pub tell_story-requires : goal.tell_story-requires
tell_story-requires g c =
    let begun = c.in-Ok.ensures.ok in
    starts_again begun.0.program c.in-Ok.story.plan.budget c.in-Ok.story.hub begun.2.start

pub returns-in-Ok-clause-told : goal.returns-in-Ok-clause-told
returns-in-Ok-clause-told g c = inl (c.in-Ok.story.plan, c.in-Ok.story.hub, c.in-Ok.ensures.ok, c.tell_story.ensures.told)

pub returns-in-Err-clause-told : goal.returns-in-Err-clause-told
returns-in-Err-clause-told g c = inr (refusal_of _ c.in-Err.why c.in-Err.ensures.err, refl)
