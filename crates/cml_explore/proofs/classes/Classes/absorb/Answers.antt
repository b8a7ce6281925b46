use Rattle.cml_explore.specs.ClassViews.{plain_class}
use Rattle.cml_explore.proofs.JoinLemmas.{leaves_room, joined_next}
use Rattle.cml_explore.proofs.classes.Classes.absorb.Goals as goal

pub absorb_class-requires : goal.absorb_class-requires
absorb_class-requires c = leaves_room c.args.self.now c.args.later.now _ c.loop-number.number (plain_class c.class.result) c.class.ensures c.loop-number.invariant c.requires

pub loop-number-preserved : goal.loop-number-preserved
loop-number-preserved c =
    joined_next c.args.self.now c.args.later.now c.loop-number.self c.absorb_class.new.self c.loop-number.number
    (plain_class c.class.result) c.class.ensures c.loop-number.invariant c.in_ok-absorb_class.ensures
