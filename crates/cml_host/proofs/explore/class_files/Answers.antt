use Rattle.std.proofs.Common.{rules, ◌∙◌, ◌<◌, ap, arith, length, take_all}
use Rattle.cml_explore.specs.ClassViews.{plain_class}
use Rattle.cml_host.specs.Exploring.{files_from}
use Rattle.cml_host.proofs.ExploringLemmas.{file_next}
use Rattle.cml_host.proofs.explore.class_files.Goals as goal

pub loop-index-preserved : goal.loop-index-preserved
loop-index-preserved c =
    let within : c.loop-index.index < length c.args.numbers.now = omega arith in
    file_next c.args.start.now c.args.budget c.args.program.now c.args.classes.now c.args.numbers.now c.loop-index.index c.shortest-items.result.now (plain_class c.class-class.result)
    c.loop-index.files.items c.in_ok-file.file _ within c.class-class.ensures c.shortest-items.ensures c.loop-index.invariant c.in_ok-file.ensures (search rules)

pub returns : goal.returns
returns c =
    c.loop-index.invariant ∙ ap (files_from c.args.start.now c.args.budget c.args.program.now c.args.classes.now 1) (take_all c.loop-index.index c.args.numbers.now (omega arith))
