use Rattle.std.proofs.Common.{◌<◌, ℕ, List, arith, length, subst}
use Rattle.cml_host.specs.Stores.{IsSaved}
use Rattle.cml_host.proofs.ReplyLemmas.{next_saved, some_saved}
use Rattle.cml_host.proofs.reply.save_all.Goals as goal

pub returns-in-Err-clause-err : goal.returns-in-Err-clause-err
returns-in-Err-clause-err g c =
    let holds = g.S.Store.holds in
    let within : c.loop-count.count < length c.args.files.now = omega arith in
    some_saved c.args.files.now c.loop-count.count (holds c.args.store.now) (holds c.loop-count.store) (holds c.save.new.self) within c.loop-count.invariant c.in-Err.ensures.same

pub loop-count-preserved : goal.loop-count-preserved
loop-count-preserved g c =
    let holds = g.S.Store.holds in
    let f = c.index-files-count.result in
    let mid = holds c.loop-count.store in
    let new = holds c.save.new.self in
    let within : c.loop-count.count < length c.args.files.now = omega arith in
    let saved =
    subst (λ (ts : List ℕ). IsSaved mid new ts f.bytes.items) c.as_str.ensures.value
    (subst (λ (ts : List ℕ). IsSaved mid new c.as_str.result.now ts) c.as_slice.ensures.value c.in-Ok.ensures.saved) in
    next_saved c.args.files.now c.loop-count.count f (holds c.args.store.now) mid new within c.index-files-count.is c.loop-count.invariant saved
