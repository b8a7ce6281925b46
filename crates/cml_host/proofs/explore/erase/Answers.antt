use Rattle.std.proofs.Common.{rules, ◌≡◌, Err, refl}
use Rattle.cml_host.specs.declared.explain.Halt.TheVariants.{Write}
use Rattle.cml_host.proofs.ExploringLemmas.{shows_none, shows_words}
use Rattle.cml_host.proofs.WriteLemmas.{if_err}
use Rattle.cml_host.proofs.explore.erase.Goals as goal

pub returns-in_err-write_words-clause-shows : goal.returns-in_err-write_words-clause-shows
returns-in_err-write_words-clause-shows g c =
    shows_words c.args.shows (g.E.Write.contents c.args.err.now.stream.now) (g.E.Write.contents c.write_words.new.out.stream.now) c.if-shows.true c.write_words.ensures.wrote

pub returns-in_err-write_words-clause-err : goal.returns-in_err-write_words-clause-err
returns-in_err-write_words-clause-err g c =
    let is : c.from_residual.result ≡ Err Write = search rules in
    if_err c.from_residual.result Write _ is (refl, c.in_err-write_words.ensures.failed)

pub returns-in_ok-write_words-clause-shows : goal.returns-in_ok-write_words-clause-shows
returns-in_ok-write_words-clause-shows g c =
    shows_words c.args.shows (g.E.Write.contents c.args.err.now.stream.now) (g.E.Write.contents c.write_words.new.out.stream.now) c.if-shows.true c.write_words.ensures.wrote

pub returns-else-shows-clause-shows : goal.returns-else-shows-clause-shows
returns-else-shows-clause-shows g c = shows_none c.args.shows (g.E.Write.contents c.args.err.now.stream.now)
