use Rattle.std.proofs.Common.{◌≡◌, ◌+◌, ◌-◌, length, refl, ap, ◌∙◌, rules, arith}
use Rattle.std.specs.String.{string_bytes}
use Rattle.std.proofs.lemmas.List.{length-drop}
use Rattle.cml_text.specs.Lexemes.{span_from}
use Rattle.cml_text.proofs.BeginLemmas.{text_steps, text_fault, literal_too_long}
use Rattle.cml_text.proofs.word.text_form.Goals as goal

pub returns-then-len-gt-LITERAL_LIMIT-clause-err : goal.returns-then-len-gt-LITERAL_LIMIT-clause-err
returns-then-len-gt-LITERAL_LIMIT-clause-err c =
    let read = rw c.in-Closed.is at c.in_ok-content.ensures in
    text_fault c.args.at c.args.text.now c.past_ascii-behind.result.now _ _ c.requires.begins c.requires.quote c.past_ascii-behind.ensures read.0
    (literal_too_long c.args.at _ _ (search rules))

pub returns-else-len-gt-LITERAL_LIMIT-clause-ok : goal.returns-else-len-gt-LITERAL_LIMIT-clause-ok
returns-else-len-gt-LITERAL_LIMIT-clause-ok c =
    let read = rw c.in-Closed.is at c.in_ok-content.ensures in
    let shrunk : length c.past_ascii-behind.result.now ≡ length c.args.text.now - 1 = ap length c.past_ascii-behind.ensures ∙ length-drop 1 c.args.text.now in
    let more : length c.args.text.now - length c.in-Closed.rest.now ≡ 1 + (length c.past_ascii-behind.result.now - length c.in-Closed.rest.now) = omega (arith, shrunk, read.2, c.requires.begins) in
    rw c.text.ensures
    (text_steps c.args.at _ c.args.text.now c.past_ascii-behind.result.now (string_bytes c.in-Closed.content) c.in-Closed.rest.now _ c.requires.begins c.requires.quote
    c.past_ascii-behind.ensures read.0 read.1 (omega arith) (search rules) (ap (λ k. span_from c.args.at k) more))

pub returns-in-Endless-clause-err : goal.returns-in-Endless-clause-err
returns-in-Endless-clause-err c =
    text_fault c.args.at c.args.text.now c.past_ascii-behind.result.now _ _ c.requires.begins c.requires.quote c.past_ascii-behind.ensures (rw c.in-Endless.is at c.in_ok-content.ensures) refl

pub returns-in-NoEscape-clause-err : goal.returns-in-NoEscape-clause-err
returns-in-NoEscape-clause-err c =
    let read = rw c.in-NoEscape.is at c.in_ok-content.ensures in
    text_fault c.args.at c.args.text.now c.past_ascii-behind.result.now _ _ c.requires.begins c.requires.quote c.past_ascii-behind.ensures read.0 refl
