use Rattle.std.proofs.Common.{rules, []}
use Rattle.cml_host.specs.Replies.{passage, plain_reply}
use Rattle.cml_host.specs.Scripts.{ArePrinted, CheckOutcome, FmtOutcome, HasNoForms, IsCounted, IsNoScript}
use Rattle.cml_host.specs.Shrunk.{IsShorterFor, IsUnshrunk, ShrinkOutcome}
use Rattle.cml_host.proofs.BehindLemmas.{reply_or, replied, text_or}
use Rattle.cml_host.proofs.command.do_task.Goals as goal

pub run_file-requires-clause-counts : goal.run_file-requires-clause-counts
run_file-requires-clause-counts g c κs within = let counts = rw c.in-Run.is at c.requires.counts in (counts.0, counts.1, counts.2)

pub run_file-requires-clause-depth : goal.run_file-requires-clause-depth
run_file-requires-clause-depth g c κs within = let counts = rw c.in-Run.is at c.requires.counts in counts.3

pub replay_file-requires-clause-watch : goal.replay_file-requires-clause-watch
replay_file-requires-clause-watch g c = rw c.in-Replay.is at c.requires.counts

pub explore_file-requires-clause-counts : goal.explore_file-requires-clause-counts
explore_file-requires-clause-counts g c κs within = let counts = rw c.in-Explore.is at c.requires.counts in (counts.0, counts.1)

pub explore_file-requires-clause-depth : goal.explore_file-requires-clause-depth
explore_file-requires-clause-depth g c κs within = let counts = rw c.in-Explore.is at c.requires.counts in counts.2

pub explore_file-requires-clause-seeds : goal.explore_file-requires-clause-seeds
explore_file-requires-clause-seeds g c κs within = let counts = rw c.in-Explore.is at c.requires.counts in counts.3

pub verify_file-made-requires : goal.verify_file-made-requires
verify_file-made-requires g c = let counts = rw c.in-Verify.is at c.requires.counts in counts.0

pub returns-in-Trace-clause-ran : goal.returns-in-Trace-clause-ran
returns-in-Trace-clause-ran g c = rw c.in-Trace.is (rw c.is_on-explains.ensures at c.trace.ensures.ran)

pub returns-in-Check-clause-ran : goal.returns-in-Check-clause-ran
returns-in-Check-clause-ran g c =
    let name = c.in-Check.options.file.now in
    let explains = c.is_on-explains-in-Check.result in
    let holds = g.S.Store.holds in
    let content = holds c.args.store.now name in
    let made = c.text_made-made.result in
    let so = text_or (IsCounted content) (IsNoScript explains name content) c.check_file.result made c.check_file.ensures.ok c.check_file.ensures.err c.text_made-made.ensures in
    let done =
    replied (CheckOutcome explains name content) (plain_reply [] made) (passage g.O.Write.contents c.args.out.now c.carry_out.new.out) (passage g.E.Write.contents c.args.err.now c.carry_out.new.err)
    (holds c.args.store.now) (holds c.check_file.new.store) (holds c.carry_out.new.store) c.carry_out.result so c.check_file.ensures.same c.carry_out.ensures.carried in
    rw c.in-Check.is ((rw c.is_on-explains-in-Check.ensures at done), (search rules, c.requires.reads.0, c.requires.reads.1))

pub returns-in-Fmt-clause-ran : goal.returns-in-Fmt-clause-ran
returns-in-Fmt-clause-ran g c =
    let name = c.in-Fmt.options.file.now in
    let explains = c.is_on-explains-in-Fmt.result in
    let holds = g.S.Store.holds in
    let content = holds c.args.store.now name in
    let made = c.text_made-made-in-Fmt.result in
    let out = c.carry_out-in-Fmt in
    let so = text_or (ArePrinted content) (HasNoForms explains name content) c.print_file.result made c.print_file.ensures.ok c.print_file.ensures.err c.text_made-made-in-Fmt.ensures in
    let done =
    replied (FmtOutcome explains name content) (plain_reply [] made) (passage g.O.Write.contents c.args.out.now out.new.out) (passage g.E.Write.contents c.args.err.now out.new.err)
    (holds c.args.store.now) (holds c.print_file.new.store) (holds out.new.store) out.result so c.print_file.ensures.same out.ensures.carried in
    rw c.in-Fmt.is ((rw c.is_on-explains-in-Fmt.ensures at done), (search rules, c.requires.reads.0, c.requires.reads.1))

pub returns-in-Run-clause-ran : goal.returns-in-Run-clause-ran
returns-in-Run-clause-ran g c = rw c.in-Run.is ((rw c.is_on-explains-in-Run.ensures at c.run_file.ensures.ran), (search rules, c.requires.reads.0, c.requires.reads.1))

pub returns-in-Replay-clause-ran : goal.returns-in-Replay-clause-ran
returns-in-Replay-clause-ran g c =
    rw c.in-Replay.is ((rw c.is_on-explains-in-Replay.ensures at c.replay_file.ensures.ran), (search rules, c.requires.reads.0, c.requires.reads.1))

pub returns-in-Explain-clause-ran : goal.returns-in-Explain-clause-ran
returns-in-Explain-clause-ran g c = rw c.in-Explain.is (c.explain_file.ensures.ran, (search rules, c.requires.reads.0, c.requires.reads.1))

pub returns-in-Explore-clause-ran : goal.returns-in-Explore-clause-ran
returns-in-Explore-clause-ran g c = rw c.in-Explore.is (c.explore_file.ensures.ran, (search rules, c.requires.reads.0, c.requires.reads.1))

pub returns-in-Verify-clause-ran : goal.returns-in-Verify-clause-ran
returns-in-Verify-clause-ran g c =
    let done = replied _ _ _ _ _ _ _ _ c.verify_file-made.ensures.told c.verify_file-made.ensures.same c.carry_out-in-Verify.ensures.carried in
    rw c.in-Verify.is (done, (search rules, c.requires.reads.0, c.requires.reads.1))

pub returns-in-Shrink-clause-ran : goal.returns-in-Shrink-clause-ran
returns-in-Shrink-clause-ran g c =
    let options = c.in-Shrink.options in
    let held = g.S.Store.holds c.args.store.now in
    let made = c.shrink_file-made in
    let so = reply_or (IsShorterFor options held) (IsUnshrunk options held) made.result made.ensures.ok made.ensures.err in
    let done = replied (ShrinkOutcome options held) (plain_reply [] made.result) _ _ _ _ _ _ so made.ensures.same c.carry_out-in-Shrink.ensures.carried in
    rw c.in-Shrink.is (done, (search rules, c.requires.reads.0, c.requires.reads.1))

pub returns-in-Draw-clause-ran : goal.returns-in-Draw-clause-ran
returns-in-Draw-clause-ran g c =
    let so = text_or _ _ c.draw_file.result c.text_made-made-in-Draw.result c.draw_file.ensures.ok c.draw_file.ensures.err c.text_made-made-in-Draw.ensures in
    let done = replied _ _ _ _ _ _ _ _ so c.draw_file.ensures.same c.carry_out-in-Draw.ensures.carried in
    rw c.in-Draw.is (done, (search rules, c.requires.reads.0, c.requires.reads.1))

pub returns-in-Step-clause-ran : goal.returns-in-Step-clause-ran
returns-in-Step-clause-ran g c = rw c.in-Step.is c.step_file.ensures.ran
