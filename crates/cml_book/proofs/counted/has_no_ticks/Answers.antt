use Rattle.std.proofs.Common.{ap, sym, ◌∙◌}
use Rattle.cml_value.specs.Group.{bases}
use Rattle.cml_book.specs.Keeping.{is_tickless}
use Rattle.cml_book.proofs.Quiet.{dark_tickless}
use Rattle.cml_book.proofs.counted.has_no_ticks.Goals as goal

pub returns-then-lightless : goal.returns-then-lightless
returns-then-lightless c = λ is. dark_tickless (bases c.args.flat.now) (c.requires c.if-lightless.true)

pub returns : goal.returns
returns c = λ is. ap is_tickless (sym c.group.ensures) ∙ sym c.all_bases.ensures ∙ is
