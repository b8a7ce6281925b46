use Rattle.std.proofs.Common.{arith, sym}
use Rattle.std.proofs.lemmas.List.{length-take-le}
use Rattle.cml_explore.proofs.AlikeLemmas.{ends_as_itself}
use Rattle.cml_explore.proofs.SearchLemmas.{given_within, shrunk_so}
use Rattle.cml_explore.proofs.shrink.shrunk.shrink.Goals as goal

pub slice_bounds-given-end : goal.slice_bounds-given-end
slice_bounds-given-end c =
    sym (length-take-le c.in_ok-count.count c.args.items.now (given_within c.args.program.now c.args.asked c.args.items.now c.in_ok-count.count c.in_ok-count.ensures))

pub find-requires-clause-alike : goal.find-requires-clause-alike
find-requires-clause-alike c =
    ends_as_itself c.args.program.now c.args.asked _ c.in_ok-details.details.items c.as_slice.result.now c.as_slice.ensures.value c.in_ok-details.ensures

pub returns-clause-ok : goal.returns-clause-ok
returns-clause-ok c =
    shrunk_so (record { program = c.args.program; asked = c.args.asked; details = c.as_slice.result }) c.args.items.now _ c.in_ok-count.count c.in_ok-details.details.items
    c.in_ok-search.search c.shrunk_by.result c.in_ok-details.ensures c.in_ok-search.ensures c.in_ok-count.ensures (grind arith) c.as_slice.ensures.value c.shrunk_by.ensures
