use Rattle.std.proofs.Common.{rules}
use Rattle.std.proofs.lemmas.Fn.{filter_same}
use Rattle.cml_index.proofs.entries.remove_empty.Goals as goal

pub returns-clause-seats : goal.returns-clause-seats
returns-clause-seats c = filter_same _ _ _ (λ x b f' k. search rules) _ _ c.retain.ensures.filtered
