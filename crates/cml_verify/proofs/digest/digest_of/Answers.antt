use Rattle.std.proofs.Common.{fold, refl, ap, ◌∙◌}
use Rattle.cml_scan.specs.Views.{thread_of}
use Rattle.cml_verify.specs.Digests.{mix, variable_mixed, thread_mixed, queue_mixed}
use Rattle.cml_verify.proofs.Digesting.{digest_is}
use Rattle.cml_verify.proofs.digest.digest_of.Goals as goal

pub returns : goal.returns
returns c =
    let w = c.world.inside in
    rw (← c.world.view_is)
    (digest_is _ c.args.machines.now w.threads.items w.mailboxes.items w.ports.items c.mixed-counts.result c.with_threads-threads.result c.with_variables-ivars.result c.with_variables-mvars.result
    c.with_queues-queues.result c.with_queues-messages.result c.with_machines.result (c.mixed-counts.ensures ∙ ap (mix w.tick) c.from.ensures) refl
    (c.with_threads-threads.ensures ∙ ap (fold (λ x t. thread_mixed x (thread_of t)) c.mixed-counts.result) c.as_slice.ensures.value)
    (c.with_variables-ivars.ensures ∙ ap (fold variable_mixed c.with_threads-threads.result) c.as_slice-2.ensures.value)
    (c.with_variables-mvars.ensures ∙ ap (fold variable_mixed c.with_variables-ivars.result) c.as_slice-3.ensures.value) refl
    (c.with_queues-queues.ensures ∙ ap (fold (λ x q. queue_mixed x q.items) c.with_variables-mvars.result) c.as_slice-4.ensures.value) refl
    (c.with_queues-messages.ensures ∙ ap (fold (λ x q. queue_mixed x q.items) c.with_queues-queues.result) c.as_slice-5.ensures.value) c.with_machines.ensures)
