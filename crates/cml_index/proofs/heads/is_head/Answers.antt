use Rattle.std.proofs.Common.{◌∙◌, ap, sym}
use Rattle.cml_index.specs.Posts as spec
use Rattle.cml_index.specs.Waits.{lit_wait}
use Rattle.cml_index.proofs.Waits.{lit_is}
use Rattle.cml_index.proofs.heads.is_head.Goals as goal

pub returns-in-Alone-clause-value : goal.returns-in-Alone-clause-value
returns-in-Alone-clause-value c b is leaf =
    let told = spec.told c.args.core.now.flags.entries in
    rw c.in-Alone.is (c.is_lit_by.ensures.value ∙ sym (lit_is told b ∙ ap (lit_wait told) is))

pub returns-in-Met-clause-value : goal.returns-in-Met-clause-value
returns-in-Met-clause-value c b is leaf = rw c.in-Met.is (c.is_met.ensures.value b is leaf)
