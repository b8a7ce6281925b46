use Rattle.std.proofs.Common.{◌∙◌, ap, arith, sym}
use Rattle.cml_explore.specs.Stops.{is_saved}
use Rattle.cml_host.specs.declared.explore.Seen.{Seen}
use Rattle.cml_host.proofs.ExploringLemmas.{seen_few, told_all, told_next, told_past}
use Rattle.cml_host.proofs.explore.told_files.Goals as goal
use Rattle.cml_host.proofs.explore.told_files.Goals.{then-saves+in_ok-file+in_ok-push, else-saves}

pub and_one-seen-requires : goal.and_one-seen-requires
and_one-seen-requires c = (omega (arith, c.loop-class.invariant.bad), omega (arith, c.loop-class.invariant.good))

pub loop-class-preserved : goal.loop-class-preserved
loop-class-preserved c =
    let i = c.loop-class.class-index in
    let before = c.loop-class.invariant in
    let seen = c.loop-class.seen in
    elim c.if-saves.branch [
      | then-saves+in_ok-file+in_ok-push w ↦
          let more = w.seen-is ∙ w.and_one-seen.ensures in
          let few = seen_few seen c.if-saves.seen c.class-item.result.well i more before.bad before.good in
          record {
            files = told_next (is_saved c.args.runs.now) c.args.start.now c.args.budget c.args.program.now c.args.classes.now seen c.if-saves.seen c.args.told.now i
                c.class-item.result _ c.loop-class.files.items w.in_ok-file.file c.if-saves.files.items _ c.loop-class-test.true c.class-item.is
                (sym c.saves.ensures ∙ w.if-saves.true) more (rw (← w.seen-is) at w.in_ok-file.ensures)
                (ap (λ v. v.items) w.files-is ∙ w.in_ok-push.ensures.items) before.files;
            bad = few.0;
            good = few.1;
          }
      | else-saves w ↦ record {
        files = told_past (is_saved c.args.runs.now) c.args.start.now c.args.budget c.args.program.now c.args.classes.now seen c.if-saves.seen c.args.told.now i
            c.class-item.result _ c.loop-class.files.items c.if-saves.files.items _ c.loop-class-test.true c.class-item.is
            (sym c.saves.ensures ∙ w.if-saves.false) w.seen-is (ap (λ v. v.items) w.files-is) before.files;
        bad = omega (arith, ap (λ (k : Seen). k.bad) w.seen-is, before.bad);
        good = omega (arith, ap (λ (k : Seen). k.good) w.seen-is, before.good);
      }
    ]

pub returns : goal.returns
returns c =
    told_all (is_saved c.args.runs.now) c.args.start.now c.args.budget c.args.program.now c.args.classes.now c.loop-class.seen c.args.told.now c.loop-class.class-index
    c.loop-class.files.items _ (omega arith) c.loop-class.invariant.files
