use Rattle.std.proofs.Common.{◌≡◌, ◌<◌, length, map, take, [], ◌∷◌, ◌++◌, sym, subst, ◌∙◌, arith, append-nil}
use Rattle.std.specs.List.{All}
use Rattle.std.proofs.lemmas.Option.{same_Some, slice_get_within}
use Rattle.std.proofs.lemmas.List.{take_all}
use Rattle.std.proofs.lemmas.List.Elements.{All-nil}
use Rattle.cml_verify.specs.{Systems.{LeadsTo, LeadsInto}, Searches.{IsBroad, AreEdges}}
use Rattle.cml_verify.specs.Places.{take_one}
use Rattle.cml_verify.proofs.Rounds.{longer_trans, same_place, leads_more}
use Rattle.cml_verify.proofs.Broad.{broad_none}
use Rattle.cml_verify.proofs.Edges.{edges_none}
use Rattle.cml_verify.proofs.search.found.follow_all.Goals as goal

pub loop-item-init : goal.loop-item-init
loop-item-init g c =
    let y = g.Y.System.rules c.args.system.now in
    let f = g.Y.System.state_of c.args.system.now in
    let keys = map f c.args.found.now.kept.keys in
    let can = c.requires.can in
    record {
      keeps = c.requires.keeps;
      longer = ([], sym (append-nil keys));
      leads = (can.0, can.1, All-nil (LeadsInto y keys can.0));
      broad = λ q b. b;
      edges = λ q b. b;
      bounded = c.requires.bounded;
    }

pub follow_edge-requires-clause-leads : goal.follow_edge-requires-clause-leads
follow_edge-requires-clause-leads g c =
    let f = g.Y.System.state_of c.args.system.now in
    let old = map f c.args.found.now.kept.keys in
    let mid = map f c.loop-item.found.kept.keys in
    let in' : c.args.at < length old = slice_get_within old c.args.at c.requires.can.0 (sym c.requires.leads ∙ c.requires.can.1) in
    c.requires.leads ∙ sym (same_place old mid c.args.at c.loop-item.invariant.longer in')

pub loop-item-preserved : goal.loop-item-preserved
loop-item-preserved g c =
    let y = g.Y.System.rules c.args.system.now in
    let f = g.Y.System.state_of c.args.system.now in
    let old = map f c.args.found.now.kept.keys in
    let mid = map f c.loop-item.found.kept.keys in
    let new = map f c.follow_edge.new.found.kept.keys in
    let before = c.loop-item.invariant in
    let after = c.in_ok-follow_edge.ensures in
    let one = after.leads in
    let is : before.leads.0 ≡ one.0 = same_Some before.leads.0 one.0 (sym before.leads.1 ∙ one.1) in
    record {
      keeps = after.keeps;
      longer = longer_trans old mid new before.longer after.longer;
      leads = (
        before.leads.0,
        before.leads.1,
        leads_more y mid new before.leads.0 c.args.items.now c.loop-item.item-index c.item-item.result before.leads.2 after.longer
            (subst (λ s. LeadsInto y new s c.item-item.result) (sym is) one.2) (omega arith) c.item-item.is,
      );
      broad = λ q b.
          let next = after.broad q (take c.loop-item.item-index c.args.items.now) (before.broad q b) in
          subst (λ l. IsBroad y q c.args.at new c.follow_edge.new.found.origins.items l) (sym (take_one c.args.items.now c.loop-item.item-index c.item-item.result (omega arith) c.item-item.is)) next;
      edges = λ q b.
          let next = after.edges q (take c.loop-item.item-index c.args.items.now) (before.edges q b) in
          subst (λ l. AreEdges y q c.args.at new c.follow_edge.new.found.edges.items l) (sym (take_one c.args.items.now c.loop-item.item-index c.item-item.result (omega arith) c.item-item.is)) next;
      bounded = omega arith;
    }

pub returns-clause-leads : goal.returns-clause-leads
returns-clause-leads g c =
    let y = g.Y.System.rules c.args.system.now in
    let f = g.Y.System.state_of c.args.system.now in
    let all : take c.loop-item.item-index c.args.items.now ≡ c.args.items.now = take_all c.loop-item.item-index c.args.items.now (omega arith) in
    λ _. subst (λ l. LeadsTo y c.args.schedule.now (λ s. All (LeadsInto y (map f c.loop-item.found.kept.keys) s) l)) all c.loop-item.invariant.leads

pub returns-clause-broad : goal.returns-clause-broad
returns-clause-broad g c =
    let y = g.Y.System.rules c.args.system.now in
    let f = g.Y.System.state_of c.args.system.now in
    let all : take c.loop-item.item-index c.args.items.now ≡ c.args.items.now = take_all c.loop-item.item-index c.args.items.now (omega arith) in
    λ _ q b. subst (IsBroad y q c.args.at (map f c.loop-item.found.kept.keys) c.loop-item.found.origins.items) all (c.loop-item.invariant.broad q b)

pub returns-clause-some : goal.returns-clause-some
returns-clause-some g c =
    let y = g.Y.System.rules c.args.system.now in
    let f = g.Y.System.state_of c.args.system.now in
    λ q b. broad_none y q c.args.at (map f c.loop-item.found.kept.keys) c.loop-item.found.origins.items (take c.loop-item.item-index c.args.items.now) (c.loop-item.invariant.broad q b)

pub returns-clause-edges : goal.returns-clause-edges
returns-clause-edges g c =
    let y = g.Y.System.rules c.args.system.now in
    let f = g.Y.System.state_of c.args.system.now in
    let all : take c.loop-item.item-index c.args.items.now ≡ c.args.items.now = take_all c.loop-item.item-index c.args.items.now (omega arith) in
    λ _ q b. subst (AreEdges y q c.args.at (map f c.loop-item.found.kept.keys) c.loop-item.found.edges.items) all (c.loop-item.invariant.edges q b)

pub returns-clause-some_edges : goal.returns-clause-some_edges
returns-clause-some_edges g c =
    let y = g.Y.System.rules c.args.system.now in
    let f = g.Y.System.state_of c.args.system.now in
    λ q b. edges_none y q c.args.at (map f c.loop-item.found.kept.keys) c.loop-item.found.edges.items (take c.loop-item.item-index c.args.items.now) (c.loop-item.invariant.edges q b)

pub returns-then-len-bound-clause-some_edges : goal.returns-then-len-bound-clause-some_edges
returns-then-len-bound-clause-some_edges g c =
    let y = g.Y.System.rules c.args.system.now in
    let f = g.Y.System.state_of c.args.system.now in
    let begun = take c.loop-item.item-index c.args.items.now in
    λ q b. edges_none y q c.args.at (map f c.follow_edge.new.found.kept.keys) c.follow_edge.new.found.edges.items (begun ++ c.item-item.result ∷ [])
    (c.in_ok-follow_edge.ensures.edges q begun (c.loop-item.invariant.edges q b))
