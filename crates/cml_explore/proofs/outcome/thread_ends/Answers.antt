use Rattle.std.proofs.Common.{◌∷◌, ◌++◌, [], ◌∙◌, ap, arith}
use Rattle.std.specs.Prelude.{is_some}
use Rattle.cml_facts.proofs.ThreadLemmas.{no_thread_more, one_thread_more}
use Rattle.cml_facts.specs.FallViews.{fall_in}
use Rattle.cml_explore.proofs.OutcomeLemmas.{ends_made}
use Rattle.cml_explore.proofs.outcome.thread_ends.Goals as goal

pub loop-t-preserved : goal.loop-t-preserved
loop-t-preserved c =
    one_thread_more (ends_made (λ t. is_some (fall_in c.args.falls.now t))) c.book.ensures c.loop-t.t _ _ _ (omega arith)
    (λ t is. c.in_ok-push.ensures.items ∙ ap (λ end. c.loop-t.ends.items ++ end ∷ []) (c.thread_end.ensures t is)) c.loop-t.invariant

pub returns : goal.returns
returns c = no_thread_more (ends_made (λ t. is_some (fall_in c.args.falls.now t))) c.book.ensures c.loop-t.t _ _ (omega arith) c.loop-t.invariant
