use Rattle.std.proofs.Common.{refl}
use Rattle.cml_host.proofs.picture.too_long.Goals as goal

pub returns : goal.returns
returns c = (c.in_ok-words.words.items, refl)
