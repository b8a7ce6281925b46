use Rattle.std.proofs.Common.{ap, sym, subst, ◌∙◌}
use Rattle.cml_index.specs.declared.slot.Slot.TheVariants.{Waiters}
use Rattle.cml_index.specs.Told.{PlainFlags, all_told}
use Rattle.cml_index.specs.Posts as spec
use Rattle.cml_index.proofs.Flagged.{named_is, only_reserves}
use Rattle.cml_index.proofs.Lit.{on_ok_both}
use Rattle.cml_index.proofs.flags.reserve.Goals as goal

pub returns-clause-kept : goal.returns-clause-kept
returns-clause-kept c = subst (λ (v : PlainFlags). spec.OnlyReserves v.entries (all_told c.reserve.new.self))
    c.flags.view_is (only_reserves c.flags.inside.told c.reserve.new.self c.reserve.ensures.kept)

pub returns-clause-there : goal.returns-clause-there
returns-clause-there c = on_ok_both c.reserve.result c.reserve.ensures.there c.reserve.ensures.there (λ on again. named_is c.reserve.new.self c.args.light ∙ on)

pub returns-clause-sure : goal.returns-clause-sure
returns-clause-sure c named = c.reserve.ensures.sure (sym (named_is c.flags.inside.told c.args.light) ∙ ap (λ (v : PlainFlags). spec.is_named v.entries (Waiters c.args.light)) c.flags.view_is ∙ named)
