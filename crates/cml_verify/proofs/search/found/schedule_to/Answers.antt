use Rattle.std.proofs.Common.{map, arith}
use Rattle.std.proofs.lemmas.List.{length-map}
use Rattle.cml_verify.proofs.Wholes.{one_ok}
use Rattle.cml_verify.proofs.Broad.{fewest_at}
use Rattle.cml_verify.proofs.search.found.schedule_to.Goals as goal

pub returns-clause-fewest : goal.returns-clause-fewest
returns-clause-fewest g c =
    let y = g.Y.System.rules c.args._system.now in
    let f = g.Y.System.state_of c.args._system.now in
    let found = c.args.found.now in
    one_ok c.way_to.result c.way_to.ensures.counts
    (λ items counts. fewest_at y (g.met.Y.System.lawful c.args._system.now) found.quietly found.followed (map f found.kept.keys) found.origins.items c.requires.search
    c.args.place items.items (omega (arith, length-map found.kept.keys f, c.requires.within)) counts)
