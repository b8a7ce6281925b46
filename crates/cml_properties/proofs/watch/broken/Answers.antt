use Rattle.std.proofs.Common.{◌∙◌, length, Some, ap, sym, arith}
use Rattle.cml_properties.specs.Watches.{BreaksAt, HasSeen}
use Rattle.cml_properties.proofs.BreakLemmas.{seen_next, seen_all, breaks_here, breaks_behind, kept_whole, breaks_once, not_kept, told_broken, told_kept}
use Rattle.cml_properties.proofs.watch.broken.Goals as goal

pub loop-index-preserved : goal.loop-index-preserved
loop-index-preserved c = (
  seen_next _ c.args.lines.now c.loop-index.index c.index-lines-index.result c.loop-index-test.true c.index-lines-index.is (c.breaks.ensures.seen _ c.loop-index.invariant.0 c.if-breaks.false),
  c.breaks.ensures.property ∙ c.loop-index.invariant.1,
)

pub returns-then-breaks : goal.returns-then-breaks
returns-then-breaks c =
    let b : BreaksAt c.args.property.now c.args.lines.now c.args.finish c.loop-index.index =
    breaks_here _ c.loop-index.watch _ _ _ c.index-lines-index.result c.loop-index-test.true c.index-lines-index.is c.loop-index.invariant.1 c.loop-index.invariant.0
    (sym c.if-breaks.true ∙ c.breaks.ensures.broken _ c.loop-index.invariant.0) in
    record { kept = told_broken _ _ _ _ b; broken = b; only = λ at other. ap Some (breaks_once _ _ _ _ at b other) }

pub returns-then-breaks_at_end : goal.returns-then-breaks_at_end
returns-then-breaks_at_end c =
    let seen : HasSeen c.loop-index.watch c.args.lines.now = seen_all _ _ c.loop-index.index (omega arith) c.loop-index.invariant.0 in
    let b : BreaksAt c.args.property.now c.args.lines.now c.args.finish (length c.args.lines.now) =
    breaks_behind _ c.loop-index.watch _ _ c.loop-index.invariant.1 seen (sym c.if-breaks_at_end.true ∙ c.breaks_at_end.ensures _ seen) in
    record { kept = told_broken _ _ _ _ b; broken = b; only = λ at other. ap Some (breaks_once _ _ _ _ at b other) }

pub returns : goal.returns
returns c =
    let seen : HasSeen c.loop-index.watch c.args.lines.now = seen_all _ _ c.loop-index.index (omega arith) c.loop-index.invariant.0 in
    let kept = kept_whole c.args.property.now c.loop-index.watch c.args.lines.now c.args.finish c.loop-index.invariant.1 (sym c.if-breaks_at_end.false ∙ c.breaks_at_end.ensures _ seen) in
    record {
      kept = told_kept c.args.property.now c.args.lines.now c.args.finish kept;
      broken = tt;
      only = λ at other. absurd (not_kept c.args.property.now c.args.lines.now c.args.finish at other kept);
    }
