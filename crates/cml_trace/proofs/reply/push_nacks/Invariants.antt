use Rattle.std.proofs.Common.{◌≡◌, ◌++◌, drop, map}
use Rattle.std.specs.List.{flat_map}
use Rattle.std.specs.String.{string_bytes}
use Rattle.cml_trace.specs.Replies.{spaced}
use Rattle.cml_trace.proofs.reply.push_nacks.Given as goal

abbrev pub invariant-loop-nack : goal.invariant-loop-nack
invariant-loop-nack l = string_bytes l.text ++ flat_map spaced (map (λ k. k.0) (drop l.nack-index l.nacks)) ≡ string_bytes l.fn.text ++ flat_map spaced (map (λ k. k.0) l.nacks)
