use Rattle.std.proofs.Common.{◌∙◌, sym}
use Rattle.cml_text.proofs.WordLemmas.{first_cut, first_chars}
use Rattle.cml_text.proofs.word.split_first.Goals as goal

pub split_at-requires : goal.split_at-requires
split_at-requires c = first_cut c.args.text.now _ c.in_ok-first.first c.len_utf8.result c.utf8.text (sym c.chars.ensures.rest ∙ c.in_ok-first.ensures.steps.0) c.len_utf8.ensures.value

pub returns : goal.returns
returns c = rw c.split_at.ensures.back
    (first_chars c.args.text.now _ c.in_ok-first.first c.len_utf8.result c.utf8.text (sym c.chars.ensures.rest ∙ c.in_ok-first.ensures.steps.0) c.len_utf8.ensures.value)
