use Rattle.std.proofs.Common.{◌≤◌, ◌+◌, ◌*◌, ◌∙◌, true, length, ap, subst, arith}
use Rattle.std.specs.Prelude.{slice_get}
use Rattle.std.specs.List.{filter, IsDistinct}
use Rattle.std.proofs.lemmas.List.{length-map}
use Rattle.cml_scan.specs.Order.{place, before, has_partner}
use Rattle.cml_scan.specs.Scan.{offers_of}
use Rattle.cml_objects.specs.Pairings.{same_object}
use Rattle.cml_index.specs.declared.slot.Slot.TheVariants.{Side}
use Rattle.cml_index.specs.Posts.{slot_of}
use Rattle.cml_index.specs.Live.{objects}
use Rattle.cml_index.proofs.Counted.{AreBoth, both_kept}
use Rattle.cml_index.proofs.OneObject.{one_object, one_key, behind_lift}
use Rattle.cml_index.proofs.heads.head_met.Goals as goal

pub head_on-requires-clause-within : goal.head_on-requires-clause-within
head_on-requires-clause-within c =
    let os = offers_of c.args.core.now.entries.items in
    let keys = objects c.args.core.now.live in
    let n = c.at.result in
    let both = both_kept c.args.core.now.lanes c.args.core.now.live os c.requires.indexed.sides c.requires.indexed.placed in
    let is = one_key keys n (omega (arith, c.len.ensures.count, c.if-len-eq1.true)) c.at.ensures in
    let whole = one_object os n (subst (IsDistinct same_object) is c.len.ensures.once) (subst (λ ks. AreBoth ks os) is both) in
    let many = ap length whole in
    let long = length-map (filter (has_partner os) os) place in
    omega (arith, many, long, c.requires.within)

pub returns-then-len-eq1-clause-value : goal.returns-then-len-eq1-clause-value
returns-then-len-eq1-clause-value c =
    let os = offers_of c.args.core.now.entries.items in
    let keys = objects c.args.core.now.live in
    let n = c.at.result in
    let both = both_kept c.args.core.now.lanes c.args.core.now.live os c.requires.indexed.sides c.requires.indexed.placed in
    let is = one_key keys n (omega (arith, c.len.ensures.count, c.if-len-eq1.true)) c.at.ensures in
    let whole = one_object os n (subst (IsDistinct same_object) is c.len.ensures.once) (subst (λ ks. AreBoth ks os) is both) in
    ap (λ ps. slice_get ps c.args.k) whole ∙ c.head_on.ensures.found.value

pub returns-then-len-eq1-clause-early : goal.returns-then-len-eq1-clause-early
returns-then-len-eq1-clause-early c =
    let os = offers_of c.args.core.now.entries.items in
    let n = c.at.result in
    let r = c.head_on.result in
    let looks = subst (λ ps. c.head_on.new.tally + 3 * length (filter (before r) ps) ≤ c.args.tally.now + 3 * length ps) (c.requires.indexed.placed (Side true n)) c.head_on.ensures.found.early in
    let lift = behind_lift slot_of (Side true n) r os in
    omega (arith, looks, lift)
