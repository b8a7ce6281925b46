-- Words of ASCII letters are names.
use Rattle.std.proofs.Common.{◌≡◌, ℕ, ◌==◌, ◌&&◌, ◌||◌, Bool, true, false, IsTrue, nat_lt, List, [], ◌∷◌, refl, ap, ◌∙◌}
use Rattle.std.specs.List.{list_all}
use Rattle.std.specs.Str.{IsAscii, chars}
use Rattle.std.specs.Char.{is_ascii_alphabetic, is_ascii_alphanumeric}
use Rattle.std.proofs.lemmas.Bool.{ltb-true, and_parts, and_from}
use Rattle.std.proofs.lemmas.Str.{chars-IsAscii}
use Rattle.unicode_ident.specs.Ident.{is_xid_start, is_xid_continue}
use Rattle.unicode_ident.proofs.IdentLemmas.{is_xid_start-ascii, is_xid_continue-ascii}
use Rattle.cml_text.specs.Lexemes.{is_name, is_operator, is_word}

-- a letter of ASCII, which may start a name and go on in one
abbrev pub is_letter : ℕ → Bool
is_letter b = nat_lt b 128 && (is_ascii_alphabetic b && (is_ascii_alphanumeric b || (b == 95)))

starts : (b : ℕ) → is_letter b ≡ true → is_xid_start b ≡ true
starts b h =
    let p = and_parts (nat_lt b 128) (is_ascii_alphabetic b && (is_ascii_alphanumeric b || (b == 95))) h in
    let q = and_parts (is_ascii_alphabetic b) (is_ascii_alphanumeric b || (b == 95)) p.1 in
    is_xid_start-ascii b (ltb-true b 128 p.0) ∙ q.0

continues : (b : ℕ) → is_letter b ≡ true → is_xid_continue b ≡ true
continues b h =
    let p = and_parts (nat_lt b 128) (is_ascii_alphabetic b && (is_ascii_alphanumeric b || (b == 95))) h in
    let q = and_parts (is_ascii_alphabetic b) (is_ascii_alphanumeric b || (b == 95)) p.1 in
    is_xid_continue-ascii b (ltb-true b 128 p.0) ∙ q.1

all_continue : (bs : List ℕ) → list_all is_letter bs ≡ true → list_all is_xid_continue bs ≡ true
all_continue [] h = refl
all_continue (b ∷ bs) h =
    let p = and_parts (is_letter b) (list_all is_letter bs) h in
    and_from (is_xid_continue b) (list_all is_xid_continue bs) (continues b p.0) (all_continue bs p.1)

or_right : (x y : Bool) → y ≡ true → (x || y) ≡ true
or_right true y h = refl
or_right false y h = h

letters_word : (b : ℕ) (bs : List ℕ) → list_all is_letter (b ∷ bs) ≡ true → is_word (b ∷ bs) ≡ true
letters_word b bs h =
    let p = and_parts (is_letter b) (list_all is_letter bs) h in
    and_from ((b == 95) || is_xid_start b) (list_all is_xid_continue bs) (or_right (b == 95) (is_xid_start b) (starts b p.0)) (all_continue bs p.1)

pub letters_name : (b : ℕ) (bs : List ℕ) → IsAscii (b ∷ bs) → list_all is_letter (b ∷ bs) ≡ true → IsTrue (is_name (b ∷ bs))
unfolding is_name
letters_name b bs ascii h = or_right (is_operator (b ∷ bs)) (is_word (chars (b ∷ bs))) (ap is_word (chars-IsAscii (b ∷ bs) ascii) ∙ letters_word b bs h)
