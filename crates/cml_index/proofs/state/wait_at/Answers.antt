use Rattle.std.proofs.Common.{◌∙◌, ap, sym}
use Rattle.std.specs.Prelude.{slice_get, option_map}
use Rattle.std.proofs.lemmas.Option.{slice_get-map}
use Rattle.cml_value.specs.Group.{bases}
use Rattle.cml_index.specs.Waits.{leaf_wait}
use Rattle.cml_index.proofs.Parted.{base_own, base_none}
use Rattle.cml_index.proofs.state.wait_at.Goals as goal

pub returns-in_err-entry-clause-value : goal.returns-in_err-entry-clause-value
returns-in_err-entry-clause-value c = c.from_residual.ensures ∙ sym (ap (option_map leaf_wait) (base_none c.args.place c.args.entries.now.items c.in_err-entry.ensures))

pub returns-clause-value : goal.returns-clause-value
returns-clause-value c =
    c.nth.ensures ∙ ap (λ ws. slice_get ws c.args.place.leaf) c.waits.ensures.same ∙ slice_get-map leaf_wait (bases c.in_ok-entry.entry.now.group) c.args.place.leaf
    ∙ sym (ap (option_map leaf_wait) (base_own c.args.place c.args.entries.now.items c.in_ok-entry.entry.now c.in_ok-entry.ensures.1 c.in_ok-entry.ensures.0))
