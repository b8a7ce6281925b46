use Rattle.std.proofs.Common.{◌≡◌, ◌++◌, ◌∷◌, [], Bool, ap, sym, ◌∙◌, refl}
use Rattle.cml_check.specs.InOrder.{arities}
use Rattle.cml_step.specs.declared.entry.Entry.{Entry}
use Rattle.cml_step.specs.declared.entry.Entry.TheVariants as entry
use Rattle.std.proofs.Common.{Option, Some}
use Rattle.cml_step.specs.AskViews.{plain_ask}
use Rattle.cml_step.specs.Machines.{PlainHeld, plain_held}
use Rattle.cml_step.specs.Machines as held
use Rattle.cml_step.specs.Shared.{topped}
use Rattle.cml_step.proofs.SyncLemmas.{group_put, group_fits}
use Rattle.cml_step.proofs.still.asks_over.Goals as goal

pub returns-in-Force-clause-asks : goal.returns-in-Force-clause-asks
returns-in-Force-clause-asks c = λ on p self hs.
    let x = c.in-Force.forcing in
    let v = c.in-Force.waits in
    let w = c.asks_group.new.waits in
    let st : topped hs c.args.over.now ≡ hs ++ held.force x v ∷ [] = ap (λ (o : Option Entry). topped hs o) c.in-Some.is ∙ ap (λ (e : Entry). hs ++ plain_held e ∷ []) c.in-Force.is in
    group_put p self hs (topped hs c.args.over.now) (hs ++ held.force x w ∷ []) x v w (plain_ask c.asks_group.new.asked) st refl (c.asks_group.ensures.meant on)

pub returns-in-Force-clause-fits : goal.returns-in-Force-clause-fits
returns-in-Force-clause-fits c = λ on p hs fits.
    let x = c.in-Force.forcing in
    let v = c.in-Force.waits in
    let w = c.asks_group.new.waits in
    let st : topped hs c.args.over.now ≡ hs ++ held.force x v ∷ [] = ap (λ (o : Option Entry). topped hs o) c.in-Some.is ∙ ap (λ (e : Entry). hs ++ plain_held e ∷ []) c.in-Force.is in
    let r = group_fits p hs (topped hs c.args.over.now) (hs ++ held.force x w ∷ []) x v w st refl fits in
    (r.0, c.asks_group.ensures.agrees on (arities p) r.1)

pub returns-in-Force-clause-stays : goal.returns-in-Force-clause-stays
returns-in-Force-clause-stays c = λ off.
    let same = c.asks_group.ensures.stays off in
    (ap (λ (b : Bool). Some (entry.Force c.in-Force.forcing b)) same.0 ∙ sym (c.in-Some.is ∙ ap Some c.in-Force.is), same.1)
