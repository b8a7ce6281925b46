use Rattle.std.proofs.Common.{length}
use Rattle.cml_explore.proofs.PartLemmas.{next_fits, next_ok}
use Rattle.cml_explore.proofs.share.join_next.Goals as goal

pub found_part-requires-clause-inside : goal.found_part-requires-clause-inside
found_part-requires-clause-inside c = c.requires.amid.inside c.args.number c.requires.number

pub found_part-requires-clause-found : goal.found_part-requires-clause-found
found_part-requires-clause-found c = c.lift-found.ensures.part c.args.program.now c.args.asked.now c.args.round c.requires.placed

pub join_part-joined-requires : goal.join_part-joined-requires
join_part-joined-requires c =
    next_fits c.args.program.now c.args.asked.now c.args.so_far.now c.args.round (length c.args.places.now.items) c.args.number c.args.made.now c.requires.amid
    c.requires.number c.in_ok-part.part c.in_ok-part.ensures c.requires.few

pub returns-clause-joined : goal.returns-clause-joined
returns-clause-joined c =
    next_ok c.args.program.now c.args.asked.now c.args.so_far.now c.args.round (length c.args.places.now.items) c.args.number c.args.made.now c.requires.amid
    c.requires.number c.in_ok-part.part c.in_ok-part.ensures c.join_part-joined.result c.join_part-joined.new.made c.join_part-joined.ensures
