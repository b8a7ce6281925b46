use Rattle.std.proofs.Common.{◌≡◌, ap, arith}
use Rattle.std.specs.List.{sum_by}
use Rattle.cml_index.specs.HeadCounts.{PlainCounts, head_count_of, count_in, all_counts}
use Rattle.cml_index.proofs.Summed.{listed_sum}
use Rattle.cml_index.proofs.head_counts.HeadCounts.sum.Goals as goal

pub returns : goal.returns
returns c =
    let s = c.self.inside in
    let same : sum_by (count_in s.counts.items) s.channels.items
    ≡ sum_by (head_count_of c.args.self.now) c.args.self.now.items = ap
    (λ (v : PlainCounts). sum_by (head_count_of v) v.items) c.self.view_is in
    let listed : all_counts s.counts.items ≡ sum_by (count_in s.counts.items) s.channels.items = listed_sum s.channels.items s.counts.items c.len-len.ensures.once c.self.invariant.none in
    omega (arith, same, listed, c.requires, c.self.invariant.whole)
