use Rattle.std.proofs.Common.{◌≡◌, ap, ◌∙◌}
use Rattle.std.specs.List.{fold}
use Rattle.std.proofs.lemmas.List.{take_all}
use Rattle.cml_picture.proofs.FrameLemmas.{reached, all_below}
use Rattle.cml_picture.proofs.layout.frame.height_of.Goals as goal

pub returns : goal.returns
returns c =
    all_below c.loop-mark.reach c.args.marks.now
    (c.loop-mark.invariant.down ∙ ap (λ ms. fold reached 40 ms) (take_all c.loop-mark.mark-index c.args.marks.now c.loop-mark-test.false))
