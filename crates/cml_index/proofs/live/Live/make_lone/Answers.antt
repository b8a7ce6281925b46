use Rattle.std.proofs.Common.{◌∙◌, ap, sym}
use Rattle.cml_index.specs.Live as spec
use Rattle.cml_index.specs.Slots.{slot_in}
use Rattle.cml_index.proofs.Alone.{on_ok, or_none}
use Rattle.cml_index.proofs.live.Live.make_lone.Goals as goal

pub returns-clause-there : goal.returns-clause-there
returns-clause-there c = on_ok c.make_at.result c.make_at.ensures.there (λ there n on.
    there n (ap (spec.has_side n) c.slot.ensures ∙ sym (or_none (spec.has_side n (slot_in c.args.wait.now))) ∙ on))
