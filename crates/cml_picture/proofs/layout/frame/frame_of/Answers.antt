use Rattle.std.proofs.Common.{◌≡◌, ap, ◌∙◌, arith}
use Rattle.cml_picture.specs.Layouts.{edge_at}
use Rattle.cml_picture.proofs.FrameLemmas.{columns_across}
use Rattle.cml_picture.proofs.layout.frame.frame_of.Goals as goal

pub returns : goal.returns
returns c =
    let edges = c.in_ok-edges.edges.items in
    let last : c.line_from_left-width.result ≡ edge_at edges c.args.threads =
    c.line_from_left-width.ensures
    ∙ ap (λ es. edge_at es c.from.result) c.as_slice.ensures.value
    ∙ ap (λ t. edge_at edges t) c.from.ensures in
    record {
      columns = c.in_ok-edges.ensures;
      across = λ n. let h = columns_across c.args.threads c.from-margin.result edges c.in_ok-edges.ensures n in omega (arith, h, last);
      down = c.height_of-height.ensures;
    }
