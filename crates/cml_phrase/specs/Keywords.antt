-- The keywords by which statements are told apart here.
use Rattle.std.specs.Prelude.{Option, Some}
use Rattle.cml_check.specs.declared.word.Word.{Word}
use Rattle.cml_check.specs.declared.word.Word.TheVariants as word
use Rattle.cml_phrase.specs.declared.keyword.Keyword.{Keyword}
use Rattle.cml_phrase.specs.declared.keyword.Keyword.TheVariants as keyword

abbrev pub keyword_for : Option Word → Keyword
keyword_for (Some word.Let) = keyword.Let
keyword_for (Some word.If) = keyword.If
keyword_for (Some (word.Tested test)) = keyword.Tested
keyword_for first = keyword.Other
