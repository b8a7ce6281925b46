use Rattle.std.proofs.Common.{arith}
use Rattle.std.proofs.lemmas.List.Sums.{suffix_len-le-length}
use Rattle.cml_phrase.specs.Places.{is_inside_line}
use Rattle.cml_phrase.proofs.position.line_before.Goals as goal

pub overflow_sub-result : goal.overflow_sub-result
overflow_sub-result c = omega (arith, suffix_len-le-length is_inside_line c.split_place.result.0.now, c.last_line_len.ensures)
