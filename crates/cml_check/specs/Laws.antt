-- What holds of every keyword.
use Rattle.std.specs.Prelude.{◌≡◌, Some}
use Rattle.cml_check.specs.declared.word.Word.{Word}
use Rattle.cml_check.specs.declared.word.Word.TheVariants as word
use Rattle.cml_check.specs.declared.syntax.Act.TheVariants as act_of
use Rattle.cml_check.specs.declared.syntax.ActOnOne.TheVariants as one_of
use Rattle.cml_check.specs.Words.{word_spelling, word_of}

-- the keyword itself; but `mvar` is one keyword, whether it makes an empty variable or a full one
abbrev pub as_reserved : Word → Word
as_reserved (word.Act act_of.MVar) = word.MVar
as_reserved (word.ActOnOne one_of.MVar) = word.MVar
as_reserved other = other

-- every keyword is the one that its spelling names
abbrev pub SpellingNamesWord : Type 0
SpellingNamesWord = (word : Word) → word_of (word_spelling word) ≡ Some (as_reserved word)
