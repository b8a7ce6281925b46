use Rattle.std.proofs.Common.{◌≡◌, ◌++◌, ◌∷◌, [], List, Option, Some, None, refl, ap, sym, subst, arith}
use Rattle.cml_value.specs.Value.{PlainValue}
use Rattle.cml_step.specs.declared.entry.Entry.{Entry}
use Rattle.cml_step.specs.declared.entry.Entry.TheVariants as entry
use Rattle.cml_step.specs.declared.entry.Wraps.{Wraps}
use Rattle.cml_step.specs.declared.journal.Noted.{Noted}
use Rattle.cml_step.specs.Machines.{plain_held, wraps}
use Rattle.cml_step.specs.Stacks.{StackFits, term_of}
use Rattle.cml_step.specs.Undone.{stood, HasNotes}
use Rattle.cml_step.proofs.QuickLemmas.{value_through, under_wraps}
use Rattle.cml_step.specs.Shared.{topped}
use Rattle.cml_step.proofs.StackLemmas.{fits_pushed, nothing_on_top, top_and_rest}
use Rattle.cml_step.proofs.still.deliver_over.Goals as goal

-- wraps stand there
wraps_there : (over : Option Entry) (v : PlainValue) → topped [] over ≡ wraps [] v ∷ [] → (w : Wraps) × (over ≡ Some (entry.Wraps w))
wraps_there None v h = absurd (nothing_on_top [] (wraps [] v) (sym h))
wraps_there (Some (entry.Call c)) v h = let n : plain_held (entry.Call c) ≡ wraps [] v = (top_and_rest [] [] (plain_held (entry.Call c)) (wraps [] v) h).1 in absurd (cc)
wraps_there (Some (entry.Force g asked)) v h = let n : plain_held (entry.Force g asked) ≡ wraps [] v = (top_and_rest [] [] (plain_held (entry.Force g asked)) (wraps [] v) h).1 in absurd (cc)
wraps_there (Some (entry.Wraps w)) v h = (w, refl)

pub deliver_noted-requires-clause-fits : goal.deliver_noted-requires-clause-fits
deliver_noted-requires-clause-fits c =
    let p = c.args.program.now in
    let hs = c.args.below.now in
    let k = c.args.call.now in
    let v = c.in_ok-value.value.now in
    (under_wraps p hs k v (subst (StackFits p) (c.in_ok-value.ensures (hs ++ plain_held (entry.Call k) ∷ [])) c.requires.fits)).1

pub deliver_noted-requires-clause-agrees : goal.deliver_noted-requires-clause-agrees
deliver_noted-requires-clause-agrees c =
    let p = c.args.program.now in
    let hs = c.args.below.now in
    let k = c.args.call.now in
    let v = c.in_ok-value.value.now in
    (under_wraps p hs k v (subst (StackFits p) (c.in_ok-value.ensures (hs ++ plain_held (entry.Call k) ∷ [])) c.requires.fits)).2.value

pub returns-clause-fits : goal.returns-clause-fits
returns-clause-fits c =
    let p = c.args.program.now in
    let hs = c.args.below.now in
    let k = c.args.call.now in
    let d = c.deliver_noted.new.call in
    let v = c.in_ok-value.value.now in
    let u = under_wraps p hs k v (subst (StackFits p) (c.in_ok-value.ensures (hs ++ plain_held (entry.Call k) ∷ [])) c.requires.fits) in
    subst (λ (o : Option Entry). StackFits p (stood hs d o)) (sym c.taken.ensures.none) (fits_pushed p hs (plain_held (entry.Call d)) u.0 c.deliver_noted.ensures.fits)

pub returns-clause-goes : goal.returns-clause-goes
returns-clause-goes c =
    let p = c.args.program.now in
    let hs = c.args.below.now in
    let k = c.args.call.now in
    let d = c.deliver_noted.new.call in
    let v = c.in_ok-value.value.now in
    let st : stood hs k c.args.over.now ≡ (hs ++ plain_held (entry.Call k) ∷ []) ++ wraps [] v ∷ [] = c.in_ok-value.ensures (hs ++ plain_held (entry.Call k) ∷ []) in (
      omega arith,
      λ self. (
        term_of p (hs ++ plain_held (entry.Call d) ∷ []),
        value_through p self hs (stood hs k c.args.over.now) k d v st (c.deliver_noted.ensures.meant c.if-not-deliver_noted.false),
        ap (λ (o : Option Entry). term_of p (stood hs d o)) (sym c.taken.ensures.none),
      ),
    )

pub returns-clause-head : goal.returns-clause-head
returns-clause-head c = (record { at = c.requires.head.at; wait = c.requires.head.wait; count = c.requires.head.count }, c.taken.ensures.wraps)

pub returns-clause-noted : goal.returns-clause-noted
returns-clause-noted c = subst (λ (ns : List Noted). HasNotes ns c.args.call.now c.deliver_noted.new.sets.items c.deliver_noted.new.call) c.requires.empty c.deliver_noted.ensures.noted

pub taken-requires : goal.taken-requires
taken-requires c = wraps_there c.args.over.now c.in_ok-value.value.now (c.in_ok-value.ensures [])
