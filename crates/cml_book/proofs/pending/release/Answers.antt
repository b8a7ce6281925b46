use Rattle.std.proofs.Common.{◌<◌, ◌∙◌, sym, ap, arith, length}
use Rattle.std.specs.Option.{option_copied, option_and_then}
use Rattle.cml_book.specs.Threads.{flat_of}
use Rattle.cml_book.proofs.Awaited.{waits_at, counts_there, counts-resume}
use Rattle.cml_book.proofs.pending.release.Goals as goal

pub uncount_ticks-requires : goal.uncount_ticks-requires
uncount_ticks-requires c =
    let below : c.args.thread.0 < length c.args.threads.now.items = omega (arith, c.if-place-len.false, c.len.ensures) in
    let waits = waits_at _ c.args.thread.0 _ _ c.in-Some.counted.now below c.index.ensures (sym c.flat.ensures ∙ ap option_copied c.in-Some.is) in
    λ t. counts_there t _ c.args.thread.0 c.in-Some.counted.now _ waits c.requires.counts

pub returns-clause-group : goal.returns-clause-group
returns-clause-group c =
    let below : c.args.thread.0 < length c.args.threads.now.items = omega (arith, c.if-place-len.false, c.len.ensures) in
    let waits = waits_at _ c.args.thread.0 _ _ c.in-Some-release.flat below c.index_mut.ensures.value (sym c.release.ensures.value ∙ c.in-Some-release.is) in
    ap (option_and_then flat_of) waits

pub returns-clause-counts : goal.returns-clause-counts
returns-clause-counts c =
    let below : c.args.thread.0 < length c.args.threads.now.items = omega (arith, c.if-place-len.false, c.len.ensures) in
    let waits = waits_at _ c.args.thread.0 _ _ c.in-Some.counted.now below c.index.ensures (sym c.flat.ensures ∙ ap option_copied c.in-Some.is) in
    rw c.release.ensures.runs (counts-resume _ c.args.thread.0 c.in-Some.counted.now _ _ waits c.uncount_ticks.ensures.left c.requires.counts)
