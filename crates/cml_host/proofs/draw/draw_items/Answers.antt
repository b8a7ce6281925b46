use Rattle.std.proofs.Common.{ℕ, inl, inr, refl, subst}
use Rattle.cml_picture.specs.Draws.{Draws, IsNotDrawn}
use Rattle.cml_picture.specs.declared.fault.DrawFault.{DrawFault}
use Rattle.cml_picture.specs.declared.fault.DrawFault.TheVariants as fault
use Rattle.cml_host.proofs.DrawnLemmas.{unfit_within}
use Rattle.cml_host.proofs.draw.draw_items.Goals as goal

pub returns-in-Ok-clause-ok : goal.returns-in-Ok-clause-ok
returns-in-Ok-clause-ok c = (
  c.draw.new.hub.course,
  subst (λ (to : ℕ). Draws c.args.hub.now.course c.args.items.now c.args.options.now.from to c.draw.new.hub.course c.in-Ok.picture.items) c.last_drawn-to.ensures c.in-Ok.ensures.draws,
)

pub tell_unfit-requires : goal.tell_unfit-requires
tell_unfit-requires c =
    let from = c.args.options.now.from in
    unfit_within c.args.hub.now.course c.args.items.now c.last_drawn-to.result c.in-Err-BadItem.number c.draw.new.hub.course c.requires.start.items
    (subst (λ (why : DrawFault). IsNotDrawn c.args.hub.now.course c.args.items.now from c.last_drawn-to.result c.draw.new.hub.course why) c.in-Err-BadItem.field-0-is c.in-Err-BadItem.ensures.refused)

pub returns-in_ok-told-in-Err-BadItem-clause-err : goal.returns-in_ok-told-in-Err-BadItem-clause-err
returns-in_ok-told-in-Err-BadItem-clause-err c =
    let from = c.args.options.now.from in
    let number = c.in-Err-BadItem.number in
    inl (
      c.draw.new.hub.course,
      number,
      subst (λ (to : ℕ). IsNotDrawn c.args.hub.now.course c.args.items.now from to c.draw.new.hub.course (fault.BadItem number)) c.last_drawn-to.ensures
          (subst (λ (why : DrawFault). IsNotDrawn c.args.hub.now.course c.args.items.now from c.last_drawn-to.result c.draw.new.hub.course why)
          c.in-Err-BadItem.field-0-is c.in-Err-BadItem.ensures.refused),
      c.in_ok-told-in-Err-BadItem.ensures,
      refl,
    )

pub returns-in_ok-from_slice-in-Err-TooMany-clause-err : goal.returns-in_ok-from_slice-in-Err-TooMany-clause-err
returns-in_ok-from_slice-in-Err-TooMany-clause-err c =
    let from = c.args.options.now.from in
    inr (
      (
        c.draw.new.hub.course,
        subst (λ (to : ℕ). IsNotDrawn c.args.hub.now.course c.args.items.now from to c.draw.new.hub.course fault.TooMany) c.last_drawn-to.ensures
            (subst (λ (why : DrawFault). IsNotDrawn c.args.hub.now.course c.args.items.now from c.last_drawn-to.result c.draw.new.hub.course why)
            c.in-Err-TooMany.field-0-is c.in-Err-TooMany.ensures.refused),
      ),
      refl,
    )
