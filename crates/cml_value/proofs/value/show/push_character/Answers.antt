use Rattle.std.proofs.Common.{rules, ◌≢◌, arith}
use Rattle.std.proofs.lemmas.Bool.Decides.{nat_tests}
use Rattle.cml_value.proofs.Escapes.{escaped-encode}
use Rattle.cml_value.proofs.value.show.push_character.Goals as goal

pub returns : goal.returns
returns c =
    let quote : c.args.c ≢ 34 = grind (arith, nat_tests) in
    let backslash : c.args.c ≢ 92 = grind (arith, nat_tests) in
    let line_feed : c.args.c ≢ 10 = grind (arith, nat_tests) in
    rw (escaped-encode c.args.c quote backslash line_feed) (search rules)
