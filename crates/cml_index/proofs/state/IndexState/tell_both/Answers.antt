use Rattle.std.proofs.Common.{true, cond, ap, ◌∙◌}
use Rattle.cml_scan.specs.Table.{has_light}
use Rattle.cml_scan.proofs.Ordered.{Every-weaker}
use Rattle.cml_index.specs.declared.slot.Slot.TheVariants.{Waiters}
use Rattle.cml_index.specs.Posts as spec
use Rattle.cml_index.proofs.state.IndexState.tell_both.Goals as goal

pub tell_all-requires-2-clause-there : goal.tell_all-requires-2-clause-there
tell_all-requires-2-clause-there c = λ on. Every-weaker (λ l. spec.is_named c.args.self.now.flags.entries (Waiters l))
    (λ l. spec.is_named c.tell_all.new.self.flags.entries (Waiters l)) c.args.lit.now
    (λ l h. c.tell_all.ensures.kept (Waiters l) h) c.requires.named

pub returns-clause-lights : goal.returns-clause-lights
returns-clause-lights c l = c.tell_all-2.ensures.told l ∙ ap (cond (has_light c.args.lit.now l) true) (c.tell_all.ensures.told l)
