use Rattle.std.proofs.Common.{arith}
use Rattle.std.proofs.lemmas.Bool.Decides.{nat_tests}
use Rattle.cml_text.specs.Lexemes.{is_comment_byte}
use Rattle.cml_text.proofs.WordLemmas.{cut_before}
use Rattle.cml_text.proofs.word.past_comment.Goals as goal

pub split_at-requires : goal.split_at-requires
split_at-requires c = rw (c.comment_len.ensures) (rw c.as_bytes.ensures.value (cut_before is_comment_byte (λ b h. grind (arith, nat_tests)) c.args.text.now))
