use Rattle.std.proofs.Common.{[], ◌∷◌, map, ap, ◌∙◌}
use Rattle.indexmap.specs.IndexSet.{insert_key}
use Rattle.cml_verify.proofs.Broad.{begins_from}
use Rattle.cml_verify.proofs.Edges.{edges_begin}
use Rattle.cml_verify.proofs.search.found.begin.Goals as goal

pub returns-clause-search : goal.returns-clause-search
returns-clause-search g c =
    let f = g.Y.System.state_of c.args.system.now in
    let alone = c.in_ok-insert.ensures.keys ∙ ap (λ l. insert_key g.Y.Kept.PartialEq.eq l c.in_ok-start.start) c.new-kept.ensures.empty in
    begins_from (g.Y.System.rules c.args.system.now) c.args.quietly (map f c.insert.new.self.keys) c.new.result.items
    (ap (map f) alone ∙ ap (λ s. s ∷ []) c.in_ok-start.ensures)
    c.new.ensures.items

pub returns-clause-edges : goal.returns-clause-edges
returns-clause-edges g c =
    let f = g.Y.System.state_of c.args.system.now in
    edges_begin (g.Y.System.rules c.args.system.now) c.args.quietly (map f c.insert.new.self.keys) c.new-2.result.items c.new-2.ensures.items
