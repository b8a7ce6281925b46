use Rattle.std.proofs.Common.{refl}
use Rattle.std.proofs.lemmas.Result.{IfErr-weaker, on_ok_weaker}
use Rattle.cml_host.proofs.ExploringLemmas.{shows_none, shows_words}
use Rattle.cml_host.proofs.explore.show_round.Goals as goal

pub returns-then-shows-clause-ok : goal.returns-then-shows-clause-ok
returns-then-shows-clause-ok g c =
    on_ok_weaker c.show_from.result
    (λ wrote. (shows_words c.args.shows (g.E.Write.contents c.args.err.now.stream.now) (g.E.Write.contents c.show_from.new.err.stream.now) c.if-shows.true wrote.0, wrote.1))
    c.show_from.ensures.ok

pub returns-then-shows-clause-err : goal.returns-then-shows-clause-err
returns-then-shows-clause-err g c =
    IfErr-weaker c.show_from.result _ _
    (λ why cut. (shows_words c.args.shows (g.E.Write.contents c.args.err.now.stream.now) (g.E.Write.contents c.show_from.new.err.stream.now) c.if-shows.true cut.0, cut.1))
    c.show_from.ensures.err

pub returns-else-shows-clause-ok : goal.returns-else-shows-clause-ok
returns-else-shows-clause-ok g c = (shows_none c.args.shows (g.E.Write.contents c.args.err.now.stream.now), refl)
