use Rattle.std.proofs.Common.{◌≡◌, ◌∙◌, [], ap, map, sym, Some, None}
use Rattle.std.specs.Prelude.{unwrap_or}
use Rattle.std.proofs.lemmas.Result.{IfOk-weaker}
use Rattle.clap.specs.Words.{all_of, found_of, rows_of}
use Rattle.clap.proofs.WalkLemmas.{raw_values-rows}
use Rattle.cml_arguments.proofs.options.texts.Goals as goal

pub returns-in-Some : goal.returns-in-Some
returns-in-Some c =
    let found = found_of c.args.matches.now in
    let id = c.args.id.now in
    let given : all_of id (rows_of found) ≡ Some (map (λ text. text.now) c.in-Some.all.now) = sym (raw_values-rows found id) ∙ sym c.in-Some.ensures in
    IfOk-weaker c.from_slice.result _ _ (λ all is. ap (map (λ text. text.now)) is ∙ sym (ap (λ o. unwrap_or o []) given)) c.from_slice.ensures.items

pub returns-in-None : goal.returns-in-None
returns-in-None c =
    let found = found_of c.args.matches.now in
    let id = c.args.id.now in
    let given : all_of id (rows_of found) ≡ None = sym (raw_values-rows found id) ∙ sym c.in-None.ensures in
    ap (map (λ text. text.now)) c.new.ensures.items ∙ sym (ap (λ o. unwrap_or o []) given)
