use Rattle.std.proofs.Common.{◌≡◌, rules}
use Rattle.cml_explore.specs.ClassViews.{plain_class}
use Rattle.cml_host.proofs.ExploringLemmas.{told_one}
use Rattle.cml_host.proofs.explore.told_file.Goals as goal

pub returns : goal.returns
returns c =
    told_one c.args.start.now c.args.budget c.args.program.now c.args.classes.now c.args.seen c.args.class.now c.as_str.result.now c.seen_of.result c.shortest-items.result.now
    (plain_class c.class-known.result) c.class_file.result (search rules) c.seen_of.ensures c.class-known.ensures c.shortest-items.ensures c.class_file.ensures
