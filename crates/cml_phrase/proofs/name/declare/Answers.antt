use Rattle.std.proofs.Common.{◌∙◌, ap}
use Rattle.cml_check.proofs.NameLemmas.{kept, kept-insert_key}
use Rattle.cml_phrase.proofs.name.declare.Goals as goal

pub returns : goal.returns
returns c = ap kept c.in_ok-_slot.ensures.keys ∙ kept-insert_key c.args.seen.now.keys c.args.name
