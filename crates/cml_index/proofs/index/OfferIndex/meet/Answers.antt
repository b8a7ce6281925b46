use Rattle.std.proofs.Common.{◌∙◌, Some, ap, sym}
use Rattle.std.specs.Prelude.{option_map}
use Rattle.cml_scan.specs.Order.{base_at}
use Rattle.cml_scan.specs.Scan.{offers_of}
use Rattle.cml_index.specs.Waits.{leaf_wait}
use Rattle.cml_index.proofs.Waits.{meet_waits, meet_there}
use Rattle.cml_index.proofs.index.OfferIndex.meet.Goals as goal

pub returns-in-Some-Some-clause-value : goal.returns-in-Some-Some-clause-value
returns-in-Some-Some-clause-value c =
    let head = c.args.head.tid in
    let x = base_at c.args.head (offers_of c.self.inside.core.entries.items) in
    let y = base_at c.args.other (offers_of c.self.inside.core.entries.items) in
    let there = meet_there head c.args.other x y
    ∙ ap (λ o. meet_waits head c.args.other o (option_map leaf_wait y)) (sym c.wait_at-first.ensures.value ∙ c.in-Some-Some.is-0)
    ∙ ap (meet_waits head c.args.other (Some c.in-Some-Some.v)) (sym c.wait_at-second.ensures.value ∙ c.in-Some-Some.is-1) in
    rw (← c.self.view_is) (c.do_meet.ensures c.args.other.leaf ∙ sym there)
