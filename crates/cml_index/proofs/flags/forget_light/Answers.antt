use Rattle.std.proofs.Common.{◌≡◌, false, ap, sym, subst, ◌∙◌}
use Rattle.cml_scan.specs.declared.object.Light.TheVariants.{Alarm}
use Rattle.cml_index.specs.declared.slot.Slot.TheVariants.{Waiters}
use Rattle.cml_index.specs.Slot.{same_slot}
use Rattle.cml_index.specs.Told.{PlainFlags, all_told}
use Rattle.cml_index.specs.Posts as spec
use Rattle.cml_index.proofs.Flagged.{told_is, forgets}
use Rattle.cml_index.proofs.flags.forget_light.Goals as goal

pub forget-requires : goal.forget-requires
forget-requires c =
    sym (told_is c.flags.inside.told (Alarm c.in-Alarm.tick)) ∙ ap (spec.told (all_told c.flags.inside.told)) (sym c.in-Alarm.is)
    ∙ ap (λ (v : PlainFlags). spec.told v.entries c.args.light) c.flags.view_is ∙ c.requires

pub returns-in-Alarm-clause-told : goal.returns-in-Alarm-clause-told
returns-in-Alarm-clause-told c m =
    told_is c.forget.new.self m ∙ c.forget.ensures.told m ∙ sym (told_is c.flags.inside.told m) ∙ ap (λ (v : PlainFlags). spec.told v.entries m) c.flags.view_is

pub returns-in-Alarm-clause-kept : goal.returns-in-Alarm-clause-kept
returns-in-Alarm-clause-kept c k off =
    forgets c.flags.inside.told c.forget.new.self (Alarm c.in-Alarm.tick) c.forget.ensures.kept k (subst (λ l. same_slot (Waiters l) k ≡ false) c.in-Alarm.is off)
    ∙ ap (λ (v : PlainFlags). spec.is_named v.entries k) c.flags.view_is
