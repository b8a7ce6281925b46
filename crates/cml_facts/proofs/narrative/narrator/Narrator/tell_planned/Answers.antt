use Rattle.std.proofs.Common.{List, ap, ◌∙◌}
use Rattle.std.specs.Prelude.{◌==◌, if◌then◌else◌, option_and_then}
use Rattle.cml_phrase.specs.declared.place.Place.{Place}
use Rattle.cml_facts.specs.Standings.{spot_place}
use Rattle.cml_facts.specs.Deeds.{could_count}
use Rattle.cml_facts.specs.Narrators.{places_of}
use Rattle.cml_facts.proofs.ToldTurnLemmas.{turn_told}
use Rattle.cml_facts.proofs.narrative.narrator.Narrator.tell_planned.Goals as goal

pub returns-in_ok-turned-in-Some-clause-told : goal.returns-in_ok-turned-in-Some-clause-told
returns-in_ok-turned-in-Some-clause-told c = λ knows.
    let new = c.turn.new.hub.course in
    let told = c.in_ok-turned-in-Some.ensures in
    let comes = rw c.in-Some.is at c.in_ok-came.ensures.came in
    turn_told (places_of c.args.self.now) c.args.hub.now.course new c.args.thread c.args.plan c.in_ok-turned-in-Some.turned c.in-Some.came c.happened.result
    c.requires.plan told.thread (told.place ∙ ap (λ (p : List (List Place)). option_and_then (spot_place p) c.args.plan.spot) c.turn.ensures.places) told.asked
    (comes knows) c.happened.ensures.number
    (c.happened.ensures.could ∙ (c.new_count.ensures ∙ ap (λ n. if n == 0 then could_count new.world else 0) c.could_count-before.ensures)) c.happened.ensures.did
