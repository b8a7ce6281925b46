use Rattle.std.proofs.Common.{◌∙◌, List, ℕ, map, ap, subst}
use Rattle.cml_phrase.specs.Spots.{all_places}
use Rattle.cml_phrase.specs.declared.place.Place.{Place}
use Rattle.cml_explore.specs.declared.ends.EndTold.{EndTold}
use Rattle.cml_explore.specs.Ends.{AreEachTold, AreInOrder}
use Rattle.cml_explore.proofs.EndLemmas.{below_classes}
use Rattle.cml_explore.proofs.ends.tell_ends.Goals as goal

pub returns-clause-told : goal.returns-clause-told
returns-clause-told c =
    let ends = c.in_ok-told.told.items in
    record {
      each = subst (λ (ps : List (List Place)). AreEachTold ps c.args.program.now c.args.servers.now c.args.classes.now ends)
          (ap (map (λ own. own.items)) c.as_slice.ensures.value ∙ c.in_ok-places.ensures) c.in_ok-told.ensures;
      ranked = subst (λ (l : List EndTold). AreInOrder l c.in_ok-order.order.items) c.as_slice-2.ensures.value c.in_ok-order.ensures.ranked;
    }

pub returns-clause-below : goal.returns-clause-below
returns-clause-below c =
    below_classes _ c.args.program.now c.args.servers.now c.args.classes.now c.in_ok-told.told.items c.as_slice-2.result.now c.in_ok-order.order.items c.in_ok-told.ensures c.as_slice-2.ensures.value
    c.in_ok-order.ensures.below
