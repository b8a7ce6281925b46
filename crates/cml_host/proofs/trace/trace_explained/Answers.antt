use Rattle.std.proofs.Common.{inl, inr}
use Rattle.cml_host.proofs.trace.trace_explained.Goals as goal

pub returns-in-Ok-clause-told : goal.returns-in-Ok-clause-told
returns-in-Ok-clause-told g c = inl (c.in-Ok.end, c.in-Ok.ensures.ok, c.in-Ok.ensures.cause, (c.into_bytes.result.items, c.ended.ensures))

pub returns-in-Err-clause-told : goal.returns-in-Err-clause-told
returns-in-Err-clause-told g c = inr (c.in-Err.fault, c.in-Err.ensures.err, c.in-Err.ensures.cause, c.faulted.ensures)
