use Rattle.std.proofs.Common.{length, map, ap, ◌∙◌}
use Rattle.cml_verify.proofs.Marking.{first_marks, more_marks}
use Rattle.cml_verify.proofs.search.unending.marked.Goals as goal

pub loop-more-init : goal.loop-more-init
loop-more-init g c =
    let keys = c.args.found.now.kept.keys in
    first_marks (g.Y.System.rules c.args.system.now) (map (g.Y.System.state_of c.args.system.now) keys) c.args.found.now.edges.items c.args.places.now (length keys) c.in_ok-marks.marks.items
    (c.in_ok-marks.ensures.length ∙ ap length c.kept.ensures.kept) c.in_ok-marks.ensures.each c.in_ok-marks.ensures.only

pub loop-more-preserved : goal.loop-more-preserved
loop-more-preserved g c =
    let keys = c.args.found.now.kept.keys in
    more_marks (g.Y.System.rules c.args.system.now) (map (g.Y.System.state_of c.args.system.now) keys) c.args.found.now.edges.items c.args.places.now (length keys) c.loop-more.more
    c.mark_back-more.result c.loop-more.marks.items c.mark_back-more.new.marks.items c.loop-more.invariant c.mark_back-more.ensures.length c.mark_back-more.ensures.keeps
    c.mark_back-more.ensures.only c.mark_back-more.ensures.closed
