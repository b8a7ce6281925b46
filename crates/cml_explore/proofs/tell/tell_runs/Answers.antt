use Rattle.std.proofs.Common.{◌∙◌, map, ap, refl}
use Rattle.cml_phrase.specs.Spots.{all_places}
use Rattle.cml_explore.proofs.ToldLemmas.{runs_so}
use Rattle.cml_explore.proofs.tell.tell_runs.Goals as goal

pub returns : goal.returns
returns c =
    runs_so c.args.program.now c.args.asked c.args.made.now (map (λ own. own.items) c.as_slice.result.now) (all_places c.args.text.now c.args.forms.now) c.classes.result.now _
    (ap (map (λ own. own.items)) c.as_slice.ensures.value ∙ c.in_ok-places.ensures) c.classes.ensures c.runs-runs.ensures refl c.last_seed.ensures refl
    refl c.in_ok-servers.ensures.items c.in_ok-until.ensures.items c.in_ok-stop.ensures c.in_ok-classes.ensures
