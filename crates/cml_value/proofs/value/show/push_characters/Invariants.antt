use Rattle.std.proofs.Common.{◌≡◌, ◌++◌, length, drop}
use Rattle.std.specs.String.{string_bytes}
use Rattle.std.specs.Str.{chars, encode_utf8_all}
use Rattle.cml_value.specs.Show.{escaped_text}
use Rattle.cml_value.proofs.value.show.push_characters.Given as goal

-- what was written, and what is left, are the characters of all
abbrev pub invariant-loop-c : goal.invariant-loop-c
invariant-loop-c l = string_bytes l.out ++ escaped_text (encode_utf8_all (drop (length l.yielded) (chars l.text))) ≡ string_bytes l.fn.out ++ escaped_text (encode_utf8_all (chars l.text))
