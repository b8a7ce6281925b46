use Rattle.std.proofs.Common.{inl, inr, refl}
use Rattle.cml_verify.proofs.Faulting.{is_noted}
use Rattle.cml_verify.proofs.faults.note.Goals as goal

pub returns-then-is_told-clause-more : goal.returns-then-is_told-clause-more
returns-then-is_told-clause-more c = inl refl

pub returns-then-is_told-clause-noted : goal.returns-then-is_told-clause-noted
returns-then-is_told-clause-noted c = (rw c.as_slice.ensures.value at c.is_told.ensures) c.if-is_told.true

pub returns-clause-more : goal.returns-clause-more
returns-clause-more c = inr c.in_ok-push.ensures.items

pub returns-clause-noted : goal.returns-clause-noted
returns-clause-noted c = is_noted c.args.kept.now c.args.told.now.items c.push.new.self.items c.args.place c.args.thread c.in_ok-push.ensures.items
