use Rattle.std.proofs.Common.{◌≡◌, ℕ, arith, Some, List, refl, sym, subst, ◌∙◌}
use Rattle.std.specs.Prelude.{slice_get, length}
use Rattle.std.proofs.KnownBytes.{Appends-nil}
use Rattle.cml_schedule.specs.Reports.{PlainReport}
use Rattle.cml_work.specs.Marks.{BeginsWith, shown_of}
use Rattle.cml_work.specs.Seen.{texts_of}
use Rattle.cml_work.proofs.MarkSteps.{begins_trans, begins_next}
use Rattle.cml_work.proofs.Writing.{takes_more, starts_within, told_of}
use Rattle.cml_work.proofs.watching.watch_all.Goals as goal

pub loop-init : goal.loop-init
loop-init g c =
    let none = sym c.new-seen.ensures.items in (
      subst (λ (l : List PlainReport). Rattle.std.specs.Io.KnownBytes.Appends
          (g.W.Write.contents c.args.writer.now.stream.now) (g.W.Write.contents c.args.writer.now.stream.now)
          (texts_of l)) none (Appends-nil _),
      c.mark-mark.ensures,
      subst (λ (l : List PlainReport). BeginsWith (shown_of c.mark-mark.result) l) none (shown_of c.mark-mark.result, refl),
      refl,
      refl,
    )

pub loop-preserved : goal.loop-preserved
loop-preserved g c =
    let i = c.loop.invariant in
    let now = shown_of c.report-told.result.1 in
    let r = c.in-Ok-Some.report in
    let begins = begins_trans now (shown_of c.loop.mark) c.loop.seen.items c.report-told.ensures.more i.2 in
    let told : slice_get now c.len.result ≡ Some r = told_of (λ (x : PlainReport). slice_get now c.len.result ≡ Some x) c.report-told.result.0 r (grind (arith)) c.report-told.ensures.shown in
    let many : c.len.result ≡ length c.loop.seen.items = grind (arith) in
    let more = begins_next now c.loop.seen.items r begins (subst (λ (k : ℕ). slice_get now k ≡ Some r) many told) in (
      rw (c.push_reserved.ensures.items, c.reserve.ensures.items) (takes_more _ _ _ c.loop.seen.items r i.0 c.in-Ok-show.ensures.shown),
      c.report-told.ensures.mark,
      rw (c.push_reserved.ensures.items, c.reserve.ensures.items) more,
      c.show.ensures.same_reference ∙ i.3,
      c.in-Ok-show.ensures.failed ∙ i.4,
    )

pub returns-in-Err-Write-clause-watched : goal.returns-in-Err-Write-clause-watched
returns-in-Err-Write-clause-watched g c =
    let b = c.broken_off-in-Err-Write.ensures in
    rw (b.1, b.0, c.push_reserved-in-Err-Write.ensures.items, c.reserve.ensures.items)
    (starts_within _ _ _ c.loop.seen.items c.in-Ok-Some.report c.loop.invariant.0 (rw c.in-Err-Write.field-0-is at c.in-Err-Write.ensures.shown))

pub returns-in-Err-Write-clause-shown : goal.returns-in-Err-Write-clause-shown
returns-in-Err-Write-clause-shown g c =
    let i = c.loop.invariant in
    let now = shown_of c.report-told.result.1 in
    let r = c.in-Ok-Some.report in
    let begins = begins_trans now (shown_of c.loop.mark) c.loop.seen.items c.report-told.ensures.more i.2 in
    let told : slice_get now c.len.result ≡ Some r = told_of (λ (x : PlainReport). slice_get now c.len.result ≡ Some x) c.report-told.result.0 r (grind (arith)) c.report-told.ensures.shown in
    let many : c.len.result ≡ length c.loop.seen.items = grind (arith) in
    let b = c.broken_off-in-Err-Write.ensures in
    rw (b.2, b.0, c.push_reserved-in-Err-Write.ensures.items, c.reserve.ensures.items)
    (begins_next now c.loop.seen.items r begins (subst (λ (k : ℕ). slice_get now k ≡ Some r) many told))
