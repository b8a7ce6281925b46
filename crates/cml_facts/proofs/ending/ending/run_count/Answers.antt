use Rattle.std.proofs.Common.{arith, ap, ◌∙◌, length}
use Rattle.cml_scan.specs.World.{PlainWorld}
use Rattle.std.specs.Prelude.{count_by, slice_get, false}
use Rattle.std.specs.Option.{option_map_or}
use Rattle.std.proofs.lemmas.List.{take_all}
use Rattle.cml_book.specs.Walks.{runs}
use Rattle.cml_facts.proofs.ReplayLemmas.{run_more}
use Rattle.cml_facts.proofs.ending.ending.run_count.Goals as goal

pub loop-t-preserved : goal.loop-t-preserved
loop-t-preserved c = record {
  so_far = run_more c.args.hub.now.course.world.threads c.loop-t.t c.loop-t.count c.is_running.result
      c.one_if-count.result (omega (arith, ap (λ (w : PlainWorld). length w.threads) c.book-book.ensures))
      (c.is_running.ensures ∙ ap (λ (w : PlainWorld). option_map_or runs (slice_get w.threads c.loop-t.t) false)
      c.book-book.ensures) c.one_if-count.ensures.one c.loop-t.invariant.so_far;
  few = omega arith;
}

pub returns : goal.returns
returns c = c.loop-t.invariant.so_far ∙ ap (count_by runs) (take_all c.loop-t.t c.args.hub.now.course.world.threads (omega (arith, ap (λ (w : PlainWorld). length w.threads) c.book-book.ensures)))
