-- How large a text that is read may be.
use Rattle.std.specs.Prelude.{ℕ}

-- the most bytes of a text
abbrev pub text_limit : ℕ
text_limit = 1048576

-- the most lists that stand inside one another
abbrev pub nesting_limit : ℕ
nesting_limit = 256

-- the most bytes of a text literal, after its escapes
abbrev pub literal_limit : ℕ
literal_limit = 4096
