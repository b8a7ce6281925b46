use Rattle.std.proofs.Common.{rules}
use Rattle.cml_book.proofs.ObjectLemmas.{same_entries}
use Rattle.cml_book.proofs.ports.tell_first.Goals as goal

pub returns : goal.returns
returns g c = record { ok = search rules; err = search rules; entries = same_entries c.change.result _ _ c.change.ensures.ok c.change.ensures.err }
