use Rattle.cml_explore.proofs.CutLemmas.{moved_ok}
use Rattle.cml_explore.proofs.shrink.cut.with_moved.Goals as goal

pub returns : goal.returns
returns c = moved_ok c.moved_as.result c.args.items.now _ c.args.from c.args.to c.requires.to c.requires.from c.moved_as.ensures
