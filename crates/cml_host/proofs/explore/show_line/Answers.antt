use Rattle.std.proofs.Common.{rules, ◌≡◌, Err, refl}
use Rattle.cml_host.specs.declared.explain.Halt.TheVariants.{Memory, Write}
use Rattle.cml_host.proofs.WriteLemmas.{if_err, writes_none}
use Rattle.cml_host.proofs.explore.show_line.Goals as goal

pub returns-in_err-line-clause-err : goal.returns-in_err-line-clause-err
returns-in_err-line-clause-err g c =
    let is : c.from_residual.result ≡ Err Memory = search rules in
    if_err c.from_residual.result Memory _ is (writes_none (g.E.Write.contents c.args.err.now.stream.now), refl)

pub returns-in_err-write_words-clause-err : goal.returns-in_err-write_words-clause-err
returns-in_err-write_words-clause-err g c =
    let is : c.from_residual-in_err-write_words.result ≡ Err Write = search rules in
    if_err c.from_residual-in_err-write_words.result Write _ is (c.write_words.ensures.wrote, c.in_err-write_words.ensures.failed)

pub returns-clause-ok : goal.returns-clause-ok
returns-clause-ok g c = (c.write_words.ensures.wrote, c.in_ok-write_words.ensures.fine)
