use Rattle.std.proofs.Common.{◌∙◌}
use Rattle.std.proofs.lemmas.Slice.Eq.{slice_eq-Decides, bytes_eq-Decides}
use Rattle.cml_properties.specs.Agreements.{texts}
use Rattle.cml_properties.proofs.SortLemmas.{texts_tested}
use Rattle.cml_properties.proofs.agreement.are_same.Goals as goal

pub returns : goal.returns
returns c =
    slice_eq-Decides bytes_eq-Decides (texts c.args.these.now) (texts c.args.those.now) c.eq.result (c.eq.ensures ∙ texts_tested c.args.these.now c.args.those.now)
