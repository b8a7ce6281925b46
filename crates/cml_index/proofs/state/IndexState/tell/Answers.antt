use Rattle.std.proofs.Common.{◌≡◌, ◌≤◌, ◌+◌, ◌-◌, ◌∙◌, length, ap, sym, arith}
use Rattle.std.specs.List.{filter}
use Rattle.cml_scan.specs.Light.{lit_by}
use Rattle.cml_scan.specs.Scan.{PlainOffer, offers_of}
use Rattle.cml_index.specs.declared.slot.Slot.TheVariants.{Waiters}
use Rattle.cml_index.specs.Slots.{lane_of}
use Rattle.cml_index.specs.Posts as spec
use Rattle.cml_index.proofs.Parted.{filter_fewer}
use Rattle.cml_index.proofs.Lit.{retold_lit, retold_unlit, retold_same, told_same, told_indexed}
use Rattle.cml_index.proofs.state.IndexState.tell.Goals as goal

pub overflow_add-self : goal.overflow_add-self
overflow_add-self c =
    let os = offers_of c.args.self.now.entries.items in
    let old = spec.told c.args.self.now.flags.entries in
    let new = spec.told c.flip.new.flags.entries in
    let waiters : c.len-waiters.result ≡ length (lane_of spec.slot_of (Waiters c.args.light) os) =
    c.len-waiters.ensures ∙ ap length (c.requires.indexed.placed (Waiters c.args.light)) in
    let many = retold_lit c.args.light c.args.lit old new c.flip.result c.if-lit.true c.if-flip.true c.flip.ensures.changed c.flip.ensures.told os in
    let few : length (filter (λ o. lit_by new o.base) os) ≤ length os = filter_fewer (λ (o : PlainOffer). lit_by new o.base) os in
    omega (arith, waiters, many, few, c.requires.indexed.alone, c.requires.indexed.all)

pub overflow_sub-self : goal.overflow_sub-self
overflow_sub-self c =
    let os = offers_of c.args.self.now.entries.items in
    let old = spec.told c.args.self.now.flags.entries in
    let new = spec.told c.flip.new.flags.entries in
    let waiters : c.len-waiters.result ≡ length (lane_of spec.slot_of (Waiters c.args.light) os) =
    c.len-waiters.ensures ∙ ap length (c.requires.indexed.placed (Waiters c.args.light)) in
    let many = retold_unlit c.args.light c.args.lit old new c.flip.result c.if-lit.false c.if-flip.true c.flip.ensures.changed c.flip.ensures.told os in
    omega (arith, waiters, many, c.requires.indexed.alone)

pub returns-then-lit-clause-indexed : goal.returns-then-lit-clause-indexed
returns-then-lit-clause-indexed c =
    let os = offers_of c.args.self.now.entries.items in
    let old = spec.told c.args.self.now.flags.entries in
    let new = spec.told c.flip.new.flags.entries in
    let waiters : c.len-waiters.result ≡ length (lane_of spec.slot_of (Waiters c.args.light) os) =
    c.len-waiters.ensures ∙ ap length (c.requires.indexed.placed (Waiters c.args.light)) in
    let many = retold_lit c.args.light c.args.lit old new c.flip.result c.if-lit.true c.if-flip.true c.flip.ensures.changed c.flip.ensures.told os in
    told_indexed c.args.self.now.entries.items c.args.self.now.lanes c.args.self.now.live c.args.self.now.flags.entries
    c.flip.new.flags.entries c.args.self.now.leaves c.args.self.now.crossing c.args.self.now.lit
    (c.args.self.now.lit + c.len-waiters.result) c.requires.indexed
    (omega (arith, waiters, many, c.requires.indexed.alone)) c.flip.ensures.kept

pub returns-else-lit-clause-indexed : goal.returns-else-lit-clause-indexed
returns-else-lit-clause-indexed c =
    let os = offers_of c.args.self.now.entries.items in
    let old = spec.told c.args.self.now.flags.entries in
    let new = spec.told c.flip.new.flags.entries in
    let waiters : c.len-waiters.result ≡ length (lane_of spec.slot_of (Waiters c.args.light) os) =
    c.len-waiters.ensures ∙ ap length (c.requires.indexed.placed (Waiters c.args.light)) in
    let many = retold_unlit c.args.light c.args.lit old new c.flip.result c.if-lit.false c.if-flip.true c.flip.ensures.changed c.flip.ensures.told os in
    told_indexed c.args.self.now.entries.items c.args.self.now.lanes c.args.self.now.live c.args.self.now.flags.entries
    c.flip.new.flags.entries c.args.self.now.leaves c.args.self.now.crossing c.args.self.now.lit
    (c.args.self.now.lit - c.len-waiters.result) c.requires.indexed
    (omega (arith, waiters, many, c.requires.indexed.alone)) c.flip.ensures.kept

pub returns-else-flip-clause-indexed : goal.returns-else-flip-clause-indexed
returns-else-flip-clause-indexed c =
    let os = offers_of c.args.self.now.entries.items in
    let old = spec.told c.args.self.now.flags.entries in
    let new = spec.told c.flip.new.flags.entries in
    told_indexed c.args.self.now.entries.items c.args.self.now.lanes c.args.self.now.live c.args.self.now.flags.entries
    c.flip.new.flags.entries c.args.self.now.leaves c.args.self.now.crossing c.args.self.now.lit c.args.self.now.lit
    c.requires.indexed
    (c.requires.indexed.alone ∙ sym (ap length
    (told_same old new (retold_same c.args.light c.args.lit old new c.flip.result c.if-flip.false
    c.flip.ensures.changed c.flip.ensures.told) os))) c.flip.ensures.kept
