use Rattle.std.proofs.Common.{◌≡◌, ◌<◌, length, map, slice_get, Some, sym, subst, ◌∙◌, arith}
use Rattle.std.specs.List.{All}
use Rattle.std.proofs.lemmas.List.{length-map}
use Rattle.cml_verify.specs.Systems.{LeadsTo, LeadsInto}
use Rattle.cml_verify.specs.Searches.{IsBroad, AreEdges}
use Rattle.cml_verify.proofs.Broad.{broad_more}
use Rattle.cml_verify.proofs.Edges.{edges_more}
use Rattle.cml_verify.specs.Places.{there}
use Rattle.cml_verify.proofs.Rounds.{can_here, same_place, was_followed_at}
use Rattle.cml_verify.proofs.search.found.follow_at.Goals as goal

pub items_of-requires : goal.items_of-requires
items_of-requires g c =
    let f = g.Y.System.state_of c.args.system.now in
    let t = there (map f c.args.found.now.kept.keys) c.args.at (omega (arith, length-map c.args.found.now.kept.keys f, c.requires.within)) in
    rw c.as_slice-way.ensures.value (t.0, c.in_ok-schedule.ensures.leads ∙ t.1, tt)

pub follow_all-requires-clause-leads : goal.follow_all-requires-clause-leads
follow_all-requires-clause-leads g c = rw c.as_slice-way.ensures.value c.in_ok-schedule.ensures.leads

pub follow_all-requires-clause-can : goal.follow_all-requires-clause-can
follow_all-requires-clause-can g c =
    let y = g.Y.System.rules c.args.system.now in
    rw c.as_slice-next.ensures.value (can_here y (g.met.Y.System.lawful c.args.system.now) c.args.quietly c.as_slice-way.result.now c.in_ok-items.items.items c.in_ok-items.ensures)

pub returns-clause-longer : goal.returns-clause-longer
returns-clause-longer g c = c.in_ok-all.ensures.longer

pub returns-clause-some : goal.returns-clause-some
returns-clause-some g c = record { keeps = c.in_ok-all.ensures.keeps; broad = c.in_ok-all.ensures.some c.args.quietly c.requires.search.broad }

pub returns-clause-bounded : goal.returns-clause-bounded
returns-clause-bounded g c = c.in_ok-all.ensures.bounded

pub returns-clause-full : goal.returns-clause-full
returns-clause-full g c = c.in_ok-all.ensures.full

pub returns-clause-over : goal.returns-clause-over
returns-clause-over g c = c.in_ok-all.ensures.over

pub returns-clause-search : goal.returns-clause-search
returns-clause-search g c =
    let y = g.Y.System.rules c.args.system.now in
    let f = g.Y.System.state_of c.args.system.now in
    let old = map f c.args.found.now.kept.keys in
    let new = map f c.follow_all.new.found.kept.keys in
    let origins = c.follow_all.new.found.origins.items in
    let q = c.in_ok-items.ensures in
    let items = c.in_ok-items.items.items in
    let stands : slice_get old c.args.at ≡ Some q.0 = sym c.in_ok-schedule.ensures.leads ∙ rw c.as_slice-way.ensures.value at q.1 in
    let in' : c.args.at < length old = omega (arith, length-map c.args.found.now.kept.keys f, c.requires.within) in
    λ yes.
    record {
      keeps = c.in_ok-all.ensures.keeps;
      broad = broad_more y c.args.quietly c.args.at new origins q.0 items (same_place old new c.args.at c.in_ok-all.ensures.longer in' ∙ stands) q.2
          (subst (IsBroad y c.args.quietly c.args.at new origins) c.as_slice-next.ensures.value (c.in_ok-all.ensures.broad yes c.args.quietly c.requires.search.broad));
    }

pub returns-clause-followed : goal.returns-clause-followed
returns-clause-followed g c =
    let y = g.Y.System.rules c.args.system.now in
    let f = g.Y.System.state_of c.args.system.now in
    let old = map f c.args.found.now.kept.keys in
    let new = map f c.follow_all.new.found.kept.keys in
    let items = c.in_ok-items.items.items in
    λ yes.
    let leads = subst (λ l. LeadsTo y c.as_slice-way.result.now (λ s. All (LeadsInto y new s) l)) c.as_slice-next.ensures.value (c.in_ok-all.ensures.leads yes) in
    was_followed_at y c.args.quietly old new c.args.at c.as_slice-way.result.now items (rw c.as_slice-way.ensures.value c.in_ok-schedule.ensures.leads) c.in_ok-items.ensures leads

pub returns-clause-some_edges : goal.returns-clause-some_edges
returns-clause-some_edges g c = c.in_ok-all.ensures.some_edges c.args.quietly c.requires.edges

pub returns-clause-edges : goal.returns-clause-edges
returns-clause-edges g c =
    let y = g.Y.System.rules c.args.system.now in
    let f = g.Y.System.state_of c.args.system.now in
    let old = map f c.args.found.now.kept.keys in
    let new = map f c.follow_all.new.found.kept.keys in
    let edges = c.follow_all.new.found.edges.items in
    let q = c.in_ok-items.ensures in
    let items = c.in_ok-items.items.items in
    let stands : slice_get old c.args.at ≡ Some q.0 = sym c.in_ok-schedule.ensures.leads ∙ rw c.as_slice-way.ensures.value at q.1 in
    let in' : c.args.at < length old = omega (arith, length-map c.args.found.now.kept.keys f, c.requires.within) in
    λ yes.
    edges_more y c.args.quietly c.args.at new edges q.0 items (same_place old new c.args.at c.in_ok-all.ensures.longer in' ∙ stands) q.2
    (subst (AreEdges y c.args.quietly c.args.at new edges) c.as_slice-next.ensures.value (c.in_ok-all.ensures.edges yes c.args.quietly c.requires.edges))
