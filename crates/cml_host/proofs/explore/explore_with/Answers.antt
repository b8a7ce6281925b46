use Rattle.std.proofs.Common.{◌≡◌, ◌∙◌, Bor, List, [], ℕ, ap, inl, inr, map, refl, subst, sym}
use Rattle.cml_judge.specs.declared.judged.Wanted.{Wanted}
use Rattle.cml_properties.specs.declared.property.Property.{Property}
use Rattle.cml_host.specs.Exploring.{AsksForRuns, ProgramExplored, stops_of}
use Rattle.cml_host.specs.Replies.{passage, plain_reply}
use Rattle.cml_host.specs.Scripts.{plain_script}
use Rattle.cml_host.proofs.ExploringLemmas.{shows_none}
use Rattle.cml_host.proofs.explore.explore_with.Goals as goal

pub asked_for-asked-requires-clause-until : goal.asked_for-asked-requires-clause-until
asked_for-asked-requires-clause-until g c =
    c.as_slice-in-Ok.ensures.value ∙ (c.in-Ok.ensures ∙ ap (λ (ns : List (Bor (List ℕ))). stops_of (map (λ name. name.now) ns)) c.as_slice.ensures.value)

pub returns-in-Ok-clause-told : goal.returns-in-Ok-clause-told
returns-in-Ok-clause-told g c =
    let errors = passage g.E.Write.contents c.args.err.now c.explore_beside.new.err in
    let made = plain_reply [] c.explore_beside.result in
    let s = plain_script c.args.script.now in
    subst (λ (ps : List Property). ProgramExplored c.args.options.now c.args.shows s ps c.args.servers.now errors made) c.asked_for-asked.ensures.asks.wanted_are
    (subst (λ (ns : List ℕ). ProgramExplored c.args.options.now c.args.shows s c.asked_for-asked.result.wanted.properties.now ns errors made)
    c.asked_for-asked.ensures.asks.servers_are c.explore_beside.ensures.told)

pub returns-in-Err-clause-told : goal.returns-in-Err-clause-told
returns-in-Err-clause-told g c = (shows_none c.args.shows (g.E.Write.contents c.args.err.now.stream.now), inl (refl, inr refl))
