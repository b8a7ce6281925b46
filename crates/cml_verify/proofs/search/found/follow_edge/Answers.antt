use Rattle.std.proofs.Common.{map, sym, ap, ◌∙◌, ◌∷◌, [], ◌++◌}
use Rattle.cml_verify.proofs.Edges.{edges_step}
use Rattle.cml_verify.proofs.search.found.follow_edge.Goals as goal

pub returns-clause-edges : goal.returns-clause-edges
returns-clause-edges g c =
    let y = g.Y.System.rules c.args.system.now in
    let f = g.Y.System.state_of c.args.system.now in
    let place = c.in_ok-to.ensures.place in
    λ q begun h. edges_step y q c.args.at (map f c.args.found.now.kept.keys) (map f c.follow.new.found.kept.keys) c.args.found.now.edges.items c.push.new.self.items begun
    c.args.item c.in_ok-to.to place.0
    (sym c.requires.leads ∙ place.1) c.in_ok-to.ensures.longer place.2.0 place.2.1 (c.in_ok-push.ensures.items ∙ ap (λ l. l ++ (c.args.at, c.args.item, c.in_ok-to.to) ∷ []) c.follow.ensures.edges) h
