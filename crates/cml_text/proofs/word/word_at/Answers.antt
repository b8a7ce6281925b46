use Rattle.std.proofs.Common.{get_or, sym, rules, arith}
use Rattle.std.proofs.lemmas.Bool.Decides.{nat_tests}
use Rattle.std.proofs.lemmas.Result.{err_from_is_err_and}
use Rattle.cml_text.specs.Lexemes.{is_token_byte}
use Rattle.cml_text.proofs.WordLemmas.{cut_before}
use Rattle.cml_text.proofs.BeginLemmas.{separator_steps, comment_steps, opening_steps, closing_steps, token_steps, token_fault, token_byte}
use Rattle.cml_text.proofs.word.word_at.Goals as goal

pub returns-then-is_separator-clause-ok : goal.returns-then-is_separator-clause-ok
returns-then-is_separator-clause-ok c = separator_steps _ _ _ c.requires.begins (search rules) c.past_ascii.ensures

pub split_at-requires : goal.split_at-requires
split_at-requires c = rw c.token_len.ensures (rw c.as_bytes-in_default.ensures.value (cut_before is_token_byte (λ b h. grind (arith, nat_tests)) c.args.text.now))

pub returns-in_err-form-in_default-clause-err : goal.returns-in_err-form-in_default-clause-err
returns-in_err-form-in_default-clause-err c =
    let p = err_from_is_err_and c.from_residual-in_err-form-in_default.result c.from_residual-in_err-form-in_default.ensures.1 in
    rw (p.1, p.2)
    (token_fault c.args.at _ _ _ _ _ c.requires.begins
    (token_byte (get_or c.args.text.now 0 0) (search rules) (search rules) (search rules) (search rules)
    (search rules)) c.token_len.ensures c.as_bytes-in_default.ensures.value c.split_at.ensures.front
    c.in_err-form-in_default.ensures.lexeme)

pub returns-in-59-clause-ok : goal.returns-in-59-clause-ok
returns-in-59-clause-ok c = comment_steps _ _ _ c.requires.begins (search rules) c.past_comment.ensures

pub returns-in-40-clause-ok : goal.returns-in-40-clause-ok
returns-in-40-clause-ok c = opening_steps _ _ _ c.requires.begins (search rules) c.past_ascii-in-40.ensures

pub returns-in-41-clause-ok : goal.returns-in-41-clause-ok
returns-in-41-clause-ok c = closing_steps _ _ _ c.requires.begins (search rules) c.past_ascii-in-41.ensures

pub returns-in_ok-form-in_default-clause-ok : goal.returns-in_ok-form-in_default-clause-ok
returns-in_ok-form-in_default-clause-ok c =
    rw (sym c.in_ok-form-in_default.ensures.lexeme)
    (token_steps c.args.at _ _ _ _ _ c.requires.begins
    (token_byte (get_or c.args.text.now 0 0) (search rules) (search rules) (search rules) (search rules)
    (search rules)) c.token_len.ensures c.as_bytes-in_default.ensures.value c.split_at.ensures.front
    c.split_at.ensures.back)
