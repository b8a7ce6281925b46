use Rattle.cml_explore.proofs.PartLemmas.{copy_fits, copied}
use Rattle.cml_explore.proofs.share.copied.Goals as goal

pub absorb-requires : goal.absorb-requires
absorb-requires c =
    copy_fits c.args.program.now c.args.asked.now c.new-copy.result c.args.so_far.now
    (c.new-copy.ensures.begins c.args.program.now c.args.asked.now) c.new-copy.ensures.none c.requires.so_far c.requires.few

pub returns : goal.returns
returns c =
    copied c.args.program.now c.args.asked.now c.new-copy.result c.args.so_far.now c.absorb.new.self
    (c.new-copy.ensures.begins c.args.program.now c.args.asked.now) c.new-copy.ensures.none c.requires.so_far c.in_ok-absorb.ensures
