use Rattle.std.proofs.Common.{false, [], length, map, sym, subst, ◌∙◌}
use Rattle.std.proofs.lemmas.List.{length-map}
use Rattle.cml_verify.specs.Searches.{AreEdges}
use Rattle.cml_verify.proofs.Marking.{some_cut, first_cut, none_cut}
use Rattle.cml_verify.proofs.search.unending.cut_off.Goals as goal

pub returns-clause-some : goal.returns-clause-some
returns-clause-some g c =
    let y = g.Y.System.rules c.args.system.now in
    let f = g.Y.System.state_of c.args.system.now in
    let keys = c.args.found.now.kept.keys in
    let found = c.args.found.now in
    let marks = c.in_ok-marks in
    let graph = subst (λ n. AreEdges y false n (map f keys) found.edges.items []) (sym (length-map keys f)) c.requires.edges in
    some_cut y (g.met.Y.System.lawful c.args.system.now) (map f keys) found.origins.items found.edges.items marks.marks.items c.args.places.now c.requires.search.keeps graph
    marks.ensures.closed marks.ensures.places (length keys) c.first_unmarked.result marks.ensures.length (rw c.as_slice.ensures.value at c.first_unmarked.ensures.some)

pub returns-clause-first : goal.returns-clause-first
returns-clause-first g c =
    let y = g.Y.System.rules c.args.system.now in
    let f = g.Y.System.state_of c.args.system.now in
    let keys = c.args.found.now.kept.keys in
    let found = c.args.found.now in
    let marks = c.in_ok-marks in
    let graph = subst (λ n. AreEdges y false n (map f keys) found.edges.items []) (sym (length-map keys f)) c.requires.edges in
    first_cut y (g.met.Y.System.lawful c.args.system.now) (map f keys) found.origins.items found.edges.items marks.marks.items c.args.places.now c.requires.search.keeps graph
    marks.ensures.closed marks.ensures.places c.first_unmarked.result marks.ensures.can (rw c.as_slice.ensures.value at c.first_unmarked.ensures.first)

pub returns-clause-none : goal.returns-clause-none
returns-clause-none g c =
    let y = g.Y.System.rules c.args.system.now in
    let f = g.Y.System.state_of c.args.system.now in
    let keys = c.args.found.now.kept.keys in
    let found = c.args.found.now in
    let marks = c.in_ok-marks in
    let graph = subst (λ n. AreEdges y false n (map f keys) found.edges.items []) (sym (length-map keys f)) c.requires.edges in
    none_cut y (g.met.Y.System.lawful c.args.system.now) (map f keys) found.origins.items found.edges.items marks.marks.items c.args.places.now c.requires.search.keeps graph
    marks.ensures.closed marks.ensures.places c.first_unmarked.result (marks.ensures.length ∙ sym (length-map keys f)) marks.ensures.can
    (rw c.as_slice.ensures.value at c.first_unmarked.ensures.none)
