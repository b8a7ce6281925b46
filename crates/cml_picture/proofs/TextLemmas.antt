-- What is written is well-formed.
use Rattle.std.proofs.Common.{◌≡◌, ℕ, ◌+◌, ◌<◌, Bool, true, false, not, ◌&&◌, ◌==◌, if◌then◌else◌, List, [], ◌∷◌, ◌++◌, length, get_or, take, map, refl, sym, ap, subst, ◌∙◌, arith, append_assoc}
use Rattle.std.specs.Prelude.{codes, encode_utf8, IsTrue}
use Rattle.std.specs.List.{flat_map}
use Rattle.std.specs.Str.{chars}
use Rattle.std.specs.Str.Lossy.{utf8_lossy}
use Rattle.std.proofs.Math.Logic.{∥∥₁_elim, ∥∥₁_map, ∥∥₁_prop}
use Rattle.std.proofs.lemmas.Str.{encode_ascii}
use Rattle.std.proofs.lemmas.List.{take_more, map-append}
use Rattle.cml_picture.specs.declared.svg.xml.Attribute.{Attribute}
use Rattle.cml_picture.specs.Views.{attribute_name}
use Rattle.cml_picture.specs.Xml.{is_character, escaped_character, escaped_words, attribute, element, lone_element}
use Rattle.cml_picture.specs.WellFormed.{stands_for_itself, IsEscaped, no_text, plain_and, entity_and, AreAttributes, no_attributes, and_attribute}
use Rattle.cml_picture.specs.WellFormed.{is_tag, IsContent, and_text, and_lone, and_element, declaration, IsWellFormed}

-- a character as it is written, by what it is
one_of : (amp lt gt quo apo own : Bool) (c : ℕ) (more : List ℕ) → stands_for_itself c ≡ (own && not amp && not lt && not gt && not quo && not apo) → IsEscaped more →
    IsEscaped ((if amp then codes "&amp;" else
    (if lt then codes "&lt;" else (if gt then codes "&gt;" else
    (if quo then codes "&quot;" else (if apo then codes "&apos;" else
    (if own then encode_utf8 c else codes "?")))))) ++ more)
one_of true lt gt quo apo own c more e t = entity_and (codes "&amp;") more refl t
one_of false true gt quo apo own c more e t = entity_and (codes "&lt;") more refl t
one_of false false true quo apo own c more e t = entity_and (codes "&gt;") more refl t
one_of false false false true apo own c more e t = entity_and (codes "&quot;") more refl t
one_of false false false false true own c more e t = entity_and (codes "&apos;") more refl t
one_of false false false false false true c more e t = plain_and c more e t
one_of false false false false false false c more e t = subst (λ x. IsEscaped (x ++ more)) (encode_ascii 63 (omega arith)) (plain_and 63 more refl t)

characters_text : (cs : List ℕ) → IsEscaped (flat_map escaped_character cs)
characters_text [] = no_text
characters_text (c ∷ cs) = one_of (c == 38) (c == 60) (c == 62) (c == 34) (c == 39) (is_character c) c (flat_map escaped_character cs) refl (characters_text cs)

-- a text that is escaped may stand between elements and between quotes
pub text-escaped : (bytes : List ℕ) → IsEscaped (escaped_words bytes)
text-escaped bytes = characters_text (chars (utf8_lossy bytes))

-- one attribute more
pub attributes_more : (all : List Attribute) (i : ℕ) (d : Attribute) (before now : List ℕ) → i < length all → AreAttributes (map attribute_name (take i all)) before →
    now ≡ before ++ attribute (attribute_name (get_or all i d)) (escaped_words (get_or all i d).value.now) → AreAttributes (map attribute_name (take (i + 1) all)) now
attributes_more all i d before now lt so_far is =
    let x = get_or all i d in
    let names : map attribute_name (take (i + 1) all) ≡ map attribute_name (take i all) ++ attribute_name x ∷ [] =
    ap (λ xs. map attribute_name xs) (take_more all i d lt) ∙ map-append attribute_name (take i all) (x ∷ []) in
    subst (λ ns. AreAttributes ns now) (sym names) (subst (λ bytes. AreAttributes (map attribute_name (take i all) ++ attribute_name x ∷ []) bytes) (sym is)
    (and_attribute (map attribute_name (take i all)) before (attribute_name x) (escaped_words x.value.now) so_far (text-escaped x.value.now)))

-- no attributes
pub attributes_start : (bytes : List ℕ) → bytes ≡ [] → AreAttributes [] bytes
attributes_start bytes e = subst (λ b. AreAttributes [] b) (sym e) no_attributes

-- what is added to what stands in an element, if it could be added
grown : (old now added : List ℕ) (ok : Bool) → ∥ IsContent old ∥₁ → (IsContent old → IsContent (old ++ added)) → now ≡ (if ok then old ++ added else old) → ∥ IsContent now ∥₁
grown old now added true h more e = ∥∥₁_map h (λ q. subst IsContent (sym e) (more q))
grown old now added false h more e = ∥∥₁_map h (λ q. subst IsContent (sym e) q)

pub words_added : (old now added words : List ℕ) (ok : Bool) → ∥ IsContent old ∥₁ → added ≡ escaped_words words → now ≡ (if ok then old ++ added else old) → ∥ IsContent now ∥₁
words_added old now added words ok h is e =
    grown old now added ok h (λ q. subst (λ t. IsContent (old ++ t)) (sym is) (and_text old (escaped_words words) q (text-escaped words))) e

pub lone_added : (old now added name own : List ℕ) (names : List (List ℕ)) (ok : Bool) → ∥ IsContent old ∥₁ → IsTrue (is_tag name names) → AreAttributes names own →
    added ≡ lone_element name own → now ≡ (if ok then old ++ added else old) → ∥ IsContent now ∥₁
lone_added old now added name own names ok h tag has is e =
    grown old now added ok h (λ q. subst (λ t. IsContent (old ++ t)) (sym is) (and_lone old name names own q tag has)) e

pub element_added : (old now added name own inner : List ℕ) (names : List (List ℕ)) (ok : Bool) → ∥ IsContent old ∥₁ → ∥ IsContent inner ∥₁ → IsTrue (is_tag name names) →
    AreAttributes names own → added ≡ element name own inner → now ≡ (if ok then old ++ added else old) → ∥ IsContent now ∥₁
element_added old now added name own inner names ok h holds tag has is e =
    ∥∥₁_elim holds ∥∥₁_prop (λ i. grown old now added ok h (λ q. subst (λ t. IsContent (old ++ t)) (sym is) (and_element old name names own inner q tag has i)) e)

-- a file of one element
pub file_written : (bytes written name own inner : List ℕ) (names : List (List ℕ)) → ∥ IsContent inner ∥₁ → IsTrue (is_tag name names) → AreAttributes names own →
    written ≡ element name own inner → bytes ≡ (declaration ++ written) ++ codes "\n" → ∥ IsWellFormed bytes ∥₁
file_written bytes written name own inner names holds tag has is e =
    ∥∥₁_map holds (λ i. record {
      name = name;
      names = names;
      own = own;
      inner = inner;
      root = tag;
      attributes = has;
      content = i;
      text = e ∙ append_assoc declaration written (codes "\n") ∙ ap (λ x. declaration ++ (x ++ codes "\n")) is;
    })
