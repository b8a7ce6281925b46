use Rattle.std.proofs.Common.{◌+◌, ◌≤◌, length, drop, ap, ◌∙◌, arith}
use Rattle.cml_scan.specs.Scan.{offers_of}
use Rattle.cml_index.specs.Heads.{head_total}
use Rattle.cml_index.specs.Live.{objects, kept_heads}
use Rattle.cml_index.proofs.KeptHeads.{kept_few, kept_rest}
use Rattle.cml_index.proofs.counts.kept_count.Goals as goal

pub head_sum-requires : goal.head_sum-requires
head_sum-requires c =
    let k = c.args.core.now in
    let few : kept_heads k.live ≤ k.leaves = kept_few k.entries.items k.lanes k.live k.flags.entries k.leaves k.crossing k.lit c.requires c.if-crossing-eq0.true c.len-live.ensures.once in
    omega (arith, few)

pub returns-then-crossing-eq0 : goal.returns-then-crossing-eq0
returns-then-crossing-eq0 c =
    let k = c.args.core.now in
    let os = offers_of k.entries.items in
    let keys = objects k.live in
    ap (λ i. c.head_sum.result + head_total os (drop i keys)) c.channel_len.ensures
    ∙ ap (λ n. n + head_total os (drop (length k.live.channels.items) keys)) c.head_sum.ensures
    ∙ kept_rest k.entries.items k.lanes k.live k.flags.entries k.leaves k.crossing k.lit c.requires c.if-crossing-eq0.true
