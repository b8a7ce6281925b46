-- Texts of JSON: of strings, truth values, lists and objects; a number is its decimal.
use Rattle.std.specs.Prelude.{ℕ, zero, suc, ◌+◌, ◌/◌, ◌%◌, ◌==◌, ◌||◌, nat_lt, if◌then◌else◌, Bool, true, false, List, [], ◌∷◌, ◌++◌, codes, Option, Some, None}
use Rattle.std.specs.List.{flat_map, join_by}

-- the digit of a number below 16
abbrev pub hex_digit : ℕ → ℕ
hex_digit n = if nat_lt n 10 then n + 48 else n + 87

-- a byte by its number
abbrev pub by_number : ℕ → List ℕ
by_number b = codes "\\u00" ++ hex_digit (b / 16) ∷ hex_digit (b % 16) ∷ []

-- A byte of a string: a quote (34) or a backslash (92) stands behind a backslash, and a byte below 32 is written by its number.
abbrev pub byte_in_string : ℕ → List ℕ
byte_in_string b = if (b == 34) || (b == 92) then 92 ∷ b ∷ [] else if nat_lt b 32 then by_number b else b ∷ []

-- a string
abbrev pub json_string : List ℕ → List ℕ
json_string bytes = codes "\"" ++ flat_map byte_in_string bytes ++ codes "\""

-- a truth value
unfoldable pub truth : Bool → List ℕ
truth true = codes "true"
truth false = codes "false"

-- what has this text, or `null`
unfoldable pub optional : {A : Type 0} → (A → List ℕ) → Option A → List ℕ
optional text None = codes "null"
optional text (Some one) = text one

-- these texts, with commas between them
abbrev pub commas : List (List ℕ) → List ℕ
commas texts = join_by (λ text. text) (codes ",") texts

-- a list of what has these texts
unfoldable pub array : List (List ℕ) → List ℕ
array texts = codes "[" ++ commas texts ++ codes "]"

-- a member of an object: its name, which has nothing that a string writes otherwise, between quotes, and the text of its value
abbrev pub member : List ℕ → List ℕ → List ℕ
member name value = codes "\"" ++ name ++ codes "\":" ++ value

-- an object of these members
abbrev pub object : List (List ℕ) → List ℕ
object members = codes "{" ++ commas members ++ codes "}"

-- ---- what private functions say

-- the comma before a text that comes in this place, from 0, if it is not the first
abbrev pub comma_before : ℕ → List ℕ
comma_before zero = []
comma_before (suc place) = 44 ∷ []
