use Rattle.std.proofs.Common.{◌≡◌, ◌+◌, ◌-◌, ◌∙◌, false, length, Err, ap, sym, refl}
use Rattle.std.proofs.lemmas.List.Sums.{prefix_len-le-length}
use Rattle.std.proofs.lemmas.Result.{err_from_is_err_and}
use Rattle.cml_text.specs.Lexemes.{is_token_byte}
use Rattle.cml_properties.specs.Reading.{is_blank_line, is_empty_or_comment}
use Rattle.cml_properties.specs.declared.fault.PropertyFault.TheVariants.{At}
use Rattle.cml_properties.specs.declared.fault.PropertyFaultKind.TheVariants.{Word}
use Rattle.cml_properties.proofs.ReadLemmas.{line_says, line_fault, gives_at}
use Rattle.cml_properties.proofs.read.line_property.Goals as goal

pub split_at-requires : goal.split_at-requires
split_at-requires c = rw c.word_len-end.ensures (prefix_len-le-length is_token_byte c.past_separators-begun.result.now)

pub returns-in_err-property-in-Some : goal.returns-in_err-property-in-Some
returns-in_err-property-in-Some c =
    let p = err_from_is_err_and c.from_residual.result c.from_residual.ensures.1 in
    let blank : is_blank_line c.args.line.now ≡ false = ap is_empty_or_comment (sym c.past_separators-begun.ensures) ∙ sym c.if-is_empty_or_comment.ensures in
    rw (p.1, p.2)
    (line_fault c.args.at c.args.line.now _ _ blank
    (λ found gives. gives_at c.args.at c.args.line.now _ _ _ _ _ found c.past_separators-begun.ensures c.word_len-end.ensures c.split_at.ensures.front
    c.split_at.ensures.back c.in-Some.ensures gives)
    c.in_err-property-in-Some.ensures)

pub returns-in-None : goal.returns-in-None
returns-in-None c =
    let blank : is_blank_line c.args.line.now ≡ false = ap is_empty_or_comment (sym c.past_separators-begun.ensures) ∙ sym c.if-is_empty_or_comment.ensures in
    line_says c.args.at c.args.line.now (Err (At Word (c.args.at + (length c.args.line.now - length c.past_separators-begun.result.now)))) blank
    (gives_at c.args.at c.args.line.now _ _ _ _ _ _ c.past_separators-begun.ensures c.word_len-end.ensures c.split_at.ensures.front c.split_at.ensures.back
    c.in-None.ensures refl)
