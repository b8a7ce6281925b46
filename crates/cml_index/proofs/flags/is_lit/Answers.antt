use Rattle.std.proofs.Common.{ap, sym, ◌∙◌}
use Rattle.cml_index.specs.Told.{PlainFlags}
use Rattle.cml_index.specs.Posts.{told}
use Rattle.cml_index.proofs.Flagged.{told_is}
use Rattle.cml_index.proofs.flags.is_lit.Goals as goal

pub returns : goal.returns
returns c = c.is_lit.ensures ∙ sym (told_is c.flags.inside.told c.args.light) ∙ ap (λ (v : PlainFlags). told v.entries c.args.light) c.flags.view_is
