use Rattle.std.proofs.Common.{ap, ◌∙◌, length}
use Rattle.cml_picture.proofs.layout.frame.edges_of.Goals as goal

pub returns : goal.returns
returns c = record {
  widths = c.as_slice.result.now;
  one_each = ap length c.as_slice.ensures.value ∙ c.in_ok-columns.ensures;
  side_by_side = c.in_ok-edges.ensures;
}
