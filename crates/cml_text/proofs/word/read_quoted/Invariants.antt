use Rattle.std.proofs.Common.{length}
use denote.Text.{Utf8}
use denote.Shadow.{shadow}
use Rattle.std.specs.String.{string_bytes}
use Rattle.cml_text.proofs.LiteralLemmas.{UpTo}
use Rattle.cml_text.proofs.word.read_quoted.Given as goal

abbrev pub invariant-loop-rest : goal.invariant-loop-rest
invariant-loop-rest l = shadow (Utf8 l.rest) × UpTo l.text (string_bytes l.content) l.rest

abbrev pub decreases-loop-rest : goal.decreases-loop-rest
decreases-loop-rest l = length l.rest
