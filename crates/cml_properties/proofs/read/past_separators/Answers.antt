use Rattle.std.proofs.lemmas.List.Sums.{prefix_len-le-length}
use Rattle.cml_text.specs.Lexemes.{is_separator}
use Rattle.cml_properties.proofs.read.past_separators.Goals as goal

pub split_at-requires : goal.split_at-requires
split_at-requires c = rw c.separators_len-count.ensures (prefix_len-le-length is_separator c.args.line.now)
