use Rattle.std.proofs.Common.{◌≡◌, ◌≤◌, ◌+◌, ◌*◌, length, map, ap, sym, subst, ◌∙◌, arith}
use Rattle.cml_index.specs.Slots.{slot_in, slot_leaves}
use Rattle.cml_index.proofs.Alone.{one_only}
use Rattle.cml_index.proofs.lanes.Lanes.go.Goals as goal

pub go_lone-requires-clause-all : goal.go_lone-requires-clause-all
go_lone-requires-clause-all c k =
    ap (λ ws. length (slot_leaves k 0 (map slot_in ws))) (sym (one_only c.args.waits.now _ c.in-len1.len_at_least c.in-len1.len_below)) ∙ c.requires.all k

pub returns-in-len1-clause-cost : goal.returns-in-len1-clause-cost
returns-in-len1-clause-cost c digits few =
    let many : length c.args.waits.now ≡ 1 = omega (arith, c.in-len1.len_at_least, c.in-len1.len_below) in
    let one = c.go_lone.ensures.cost digits few in
    subst (λ n. c.go_lone.new.tally ≤ c.args.tally.now + n * digits) (sym many) (omega (arith, one))
