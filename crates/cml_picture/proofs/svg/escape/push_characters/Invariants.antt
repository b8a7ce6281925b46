use Rattle.std.proofs.Common.{◌≡◌, ◌++◌, length, drop}
use Rattle.std.specs.List.{flat_map}
use Rattle.std.specs.Str.{chars}
use Rattle.std.specs.String.{string_bytes}
use Rattle.cml_picture.specs.Xml.{escaped_character}
use Rattle.cml_picture.proofs.svg.escape.push_characters.Given as goal

abbrev pub invariant-loop-character : goal.invariant-loop-character
invariant-loop-character l =
    string_bytes l.out ++ flat_map escaped_character (drop (length l.yielded) (chars l.text)) ≡ string_bytes l.fn.out ++ flat_map escaped_character (chars l.text)
