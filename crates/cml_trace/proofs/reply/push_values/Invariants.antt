use Rattle.std.proofs.Common.{◌≡◌, ◌++◌, drop}
use Rattle.std.specs.String.{string_bytes}
use Rattle.cml_value.specs.Value.{values}
use Rattle.cml_trace.specs.Replies.{shown_values}
use Rattle.cml_trace.proofs.reply.push_values.Given as goal

abbrev pub invariant-loop-value : goal.invariant-loop-value
invariant-loop-value l = string_bytes l.text ++ shown_values (values (drop l.value-index l.captured)) ≡ string_bytes l.fn.text ++ shown_values (values l.captured)
