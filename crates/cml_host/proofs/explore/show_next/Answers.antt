use Rattle.std.proofs.Common.{refl}
use Rattle.cml_host.proofs.WriteLemmas.{writes_none}
use Rattle.cml_host.proofs.explore.show_next.Goals as goal

pub returns-then-now-next-clause-ok : goal.returns-then-now-next-clause-ok
returns-then-now-next-clause-ok g c = (writes_none (g.E.Write.contents c.args.err.now.stream.now), refl)
