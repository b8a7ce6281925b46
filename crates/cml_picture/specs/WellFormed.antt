-- What is well-formed: one element, and in it texts and elements. Each element is closed, no name of an attribute stands twice in an element,
-- and each character stands for itself or is written by its name.
use Rattle.std.specs.Prelude.{◌≡◌, ℕ, Bool, true, false, not, ◌&&◌, ◌||◌, ◌==◌, nat_lt, List, [], ◌∷◌, ◌++◌, codes, encode_utf8, IsTrue}
use Rattle.std.specs.List.{list_all, list_any}
use Rattle.std.specs.Str.{bytes_eq}
use Rattle.cml_picture.specs.Xml.{is_character, attribute, element, lone_element}

-- a character that may stand for itself in a text and between quotes: any but `&` (38), `<` (60), `>` (62) and the quotes (34, 39)
abbrev pub stands_for_itself : ℕ → Bool
stands_for_itself c = is_character c && not (c == 38) && not (c == 60) && not (c == 62) && not (c == 34) && not (c == 39)

-- how one of those is written
abbrev pub is_entity : List ℕ → Bool
is_entity name = list_any (bytes_eq name) (codes "&amp;" ∷ codes "&lt;" ∷ codes "&gt;" ∷ codes "&quot;" ∷ codes "&apos;" ∷ [])

-- what may stand between elements and between quotes
pub data IsEscaped : List ℕ → Type 0 where
  no_text : IsEscaped []
  plain_and : (c : ℕ) (more : List ℕ) → IsTrue (stands_for_itself c) → IsEscaped more → IsEscaped (encode_utf8 c ++ more)
  entity_and : (name more : List ℕ) → IsTrue (is_entity name) → IsEscaped more → IsEscaped (name ++ more)

-- a name: letters, at least one
abbrev pub is_letter : ℕ → Bool
is_letter c = (nat_lt 64 c && nat_lt c 91) || (nat_lt 96 c && nat_lt c 123)

abbrev pub is_xml_name : List ℕ → Bool
is_xml_name [] = false
is_xml_name (c ∷ cs) = is_letter c && list_all is_letter cs

-- names, none twice
abbrev pub are_names : List (List ℕ) → Bool
are_names [] = true
are_names (name ∷ names) = is_xml_name name && not (list_any (bytes_eq name) names) && are_names names

-- attributes of these names
pub data AreAttributes : List (List ℕ) → List ℕ → Type 0 where
  no_attributes : AreAttributes [] []
  and_attribute : (names : List (List ℕ)) (before name value : List ℕ) → AreAttributes names before → IsEscaped value
      → AreAttributes (names ++ name ∷ []) (before ++ attribute name value)

-- an element of this name may have attributes of these names
abbrev pub is_tag : List ℕ → List (List ℕ) → Bool
is_tag name names = is_xml_name name && are_names names

-- what may stand in an element: texts, elements with nothing in them, and elements that hold more, one behind the other
pub data IsContent : List ℕ → Type 0 where
  no_content : IsContent []
  and_text : (before text : List ℕ) → IsContent before → IsEscaped text → IsContent (before ++ text)
  and_lone : (before name : List ℕ) (names : List (List ℕ)) (own : List ℕ) → IsContent before → IsTrue (is_tag name names) → AreAttributes names own
      → IsContent (before ++ lone_element name own)
  and_element : (before name : List ℕ) (names : List (List ℕ)) (own inner : List ℕ) → IsContent before → IsTrue (is_tag name names) → AreAttributes names own → IsContent inner
      → IsContent (before ++ element name own inner)

abbrev pub declaration : List ℕ
declaration = codes "<?xml version='1.0' encoding='UTF-8'?>\n"

-- a file: the declaration, and one element with what it holds
pub record IsWellFormed (bytes : List ℕ) : Type 0 where
  pub name : List ℕ
  pub names : List (List ℕ)
  pub own : List ℕ
  pub inner : List ℕ
  pub root : IsTrue (is_tag name names)
  pub attributes : AreAttributes names own
  pub content : IsContent inner
  pub text : bytes ≡ declaration ++ (element name own inner ++ codes "\n")
