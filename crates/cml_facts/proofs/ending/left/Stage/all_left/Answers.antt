use Rattle.std.proofs.Common.{arith, refl}
use Rattle.cml_facts.specs.EndingViews.{plain_stage}
use Rattle.cml_facts.specs.Lefts.{Scene, left_thread, all_left}
use Rattle.std.specs.Option.{option_to_list}
use Rattle.cml_facts.proofs.ThreadLemmas.{IsMade, one_thread_more, no_thread_more}
use Rattle.cml_facts.proofs.ending.left.Stage.all_left.Goals as goal

lefts_made : (s : Scene) → IsMade (λ i t. option_to_list (left_thread s i t)) (all_left s)
lefts_made s = record { none = λ i. refl; more = λ i t threads. refl }

pub loop-t-preserved : goal.loop-t-preserved
loop-t-preserved c = one_thread_more (lefts_made (plain_stage c.args.self.now)) c.book.ensures c.loop-t.t _ _ _ (omega arith) c.in_ok-push_left.ensures c.loop-t.invariant

pub returns : goal.returns
returns c = no_thread_more (lefts_made (plain_stage c.args.self.now)) c.book.ensures c.loop-t.t _ _ (omega arith) c.loop-t.invariant
