use Rattle.std.proofs.Common.{ap, ◌∙◌}
use Rattle.cml_scan.specs.Scan.{scan}
use Rattle.cml_hub.specs.Playing.{picked}
use Rattle.cml_explore.specs.Generators.{by_generator}
use Rattle.cml_explore.proofs.seed.lot.pick_row.Goals as goal

pub returns-clause-picked : goal.returns-clause-picked
returns-clause-picked c = c.pick_among.ensures.picked ∙ ap (picked by_generator c.args.chooser.now) (c.table.ensures.rows ∙ ap scan c.book.ensures)
