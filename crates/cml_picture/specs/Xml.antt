-- How texts, attributes and elements are written in XML.
use Rattle.std.specs.Prelude.{ℕ, Bool, ◌&&◌, ◌||◌, ◌==◌, nat_lt, if◌then◌else◌, List, ◌++◌, codes, encode_utf8}
use Rattle.std.specs.List.{flat_map}
use Rattle.std.specs.Str.{chars}
use Rattle.std.specs.Str.Lossy.{utf8_lossy}

-- a character that XML has: a tab, the ends of lines, and all from the space on but the surrogates and the last two of the first plane
abbrev pub is_character : ℕ → Bool
is_character c = (c == 9) || (c == 10) || (c == 13) || (nat_lt 31 c && nat_lt c 55296) || (nat_lt 57343 c && nat_lt c 65534) || (nat_lt 65535 c && nat_lt c 1114112)

-- a character, or a question mark where XML has none
abbrev pub plain_character : ℕ → List ℕ
plain_character c = if is_character c then encode_utf8 c else codes "?"

-- a character as it is written: `&` (38), `<` (60), `>` (62) and the quotes (34, 39) by their names
abbrev pub escaped_character : ℕ → List ℕ
escaped_character c =
    if c == 38 then codes "&amp;" else (if c == 60 then codes "&lt;" else (if c == 62 then codes "&gt;" else (if c == 34 then codes "&quot;" else
    (if c == 39 then codes "&apos;" else plain_character c))))

abbrev pub escaped_characters : List ℕ → List ℕ
escaped_characters text = flat_map escaped_character (chars text)

-- the characters of a text as they are written; what is no UTF-8 counts as the character that stands for it
abbrev pub escaped_words : List ℕ → List ℕ
escaped_words bytes = escaped_characters (utf8_lossy bytes)

abbrev pub attribute : List ℕ → List ℕ → List ℕ
attribute name value = codes " " ++ (name ++ (codes "='" ++ (value ++ codes "'")))

-- an element of this name, with these attributes, around what is written in it
abbrev pub element : List ℕ → List ℕ → List ℕ → List ℕ
element name attributes inner = codes "<" ++ (name ++ (attributes ++ (codes ">" ++ (inner ++ (codes "</" ++ (name ++ codes ">"))))))

-- an element with nothing in it
abbrev pub lone_element : List ℕ → List ℕ → List ℕ
lone_element name attributes = codes "<" ++ (name ++ (attributes ++ codes "/>"))
