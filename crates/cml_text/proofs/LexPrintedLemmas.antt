-- The lexemes of what is printed.
use Rattle.std.proofs.Common.{◌≡◌, ℕ, ◌+◌, ◌<◌, ◌≤◌, true, eqb, leb, List, [], ◌∷◌, ◌++◌, length, take, drop, refl, ap, sym, ◌∙◌, arith, append_assoc, inl, inr, ℤ}
use Rattle.std.specs.Prelude.{flat_map}
use Rattle.std.specs.List.{prefix_len, list_all}
use Rattle.std.specs.Fmt.{signed_decimal}
use Rattle.std.proofs.lemmas.Bool.Decides.{nat_tests}
use Rattle.std.proofs.lemmas.List.{length-append}
use Rattle.std.proofs.Math.Seq.{drop-append_seam, take-append_seam, drop-append-add}
use Rattle.cml_text.specs.declared.sexpr.Span.{Span}
use Rattle.cml_text.specs.Forms.{PlainSexpr, plain_name, plain_int, plain_text, plain_list, PlainForms, no_forms, forms_and}
use Rattle.cml_text.specs.Lexemes.{is_token_byte, is_plain, is_name, closed, with_front, literal, Lexeme, opening}
use Rattle.cml_text.specs.Lexemes.{closing, leaf, span_from, token_lexeme, literal_lexeme, literal_more, beginning}
use Rattle.cml_text.specs.Lexemes.{lexemes}
use Rattle.cml_text.specs.Limits.{IsProper, AreProper}
use Rattle.cml_text.specs.Printed.{escaped, quoted, printed_form, printed_members, printed_behind}
use Rattle.cml_text.specs.Texts.{words, words_of}
use Rattle.cml_text.proofs.WordLemmas.{cases_test}
use Rattle.cml_text.proofs.LiteralLemmas.{literal_plain, literal_quote}
use Rattle.cml_text.proofs.BeginLemmas.{lexemes-begin, begin_separator, begin_opening, begin_closing, begin_text, begin_token}
use Rattle.cml_text.proofs.PrintedLemmas.{Stops, run-append, all_of_both, IsNumberToken, printed_number, IsNameToken, printed_name}

-- what begins with a byte goes on after it
pub begins : (at b more : ℕ) (bytes : List ℕ) (word : List Lexeme) → beginning at b bytes
    ≡ record { word = word; more = more } → lexemes 0 at (b ∷ bytes) ≡ word
    ++ lexemes 0 (at + 1 + more) (drop more bytes)
begins at b more bytes word e = lexemes-begin at b bytes ∙ ap (λ g. g.word ++ lexemes 0 (at + 1 + g.more) (drop g.more bytes)) e

pub begins_alone : (at b : ℕ) (bytes : List ℕ) (word : List Lexeme) → beginning at b bytes ≡ record { word = word; more = 0 } → lexemes 0 at (b ∷ bytes) ≡ word ++ lexemes 0 (at + 1) bytes
begins_alone at b bytes word e = let z : at + 1 + 0 ≡ at + 1 = omega arith in begins at b 0 bytes word e ∙ ap (λ n. word ++ lexemes 0 n bytes) z

-- a token in front of a delimiter or the end
pub lex_token : (at : ℕ) (token rest : List ℕ) → 0 < length token → list_all is_token_byte token ≡ true → Stops is_token_byte rest →
    lexemes 0 at (token ++ rest) ≡ token_lexeme at token ∷ lexemes 0 (at + length token) rest
lex_token at [] rest some all stop = absurd (omega arith)
lex_token at (b ∷ bytes) rest some all stop =
    let parts = all_of_both (is_token_byte b) (list_all is_token_byte bytes) all in
    let run : prefix_len is_token_byte (bytes ++ rest) ≡ length bytes = run-append is_token_byte bytes rest parts.1 stop in
    let front : take (prefix_len is_token_byte (bytes ++ rest)) (bytes ++ rest) ≡ bytes = ap (λ n. take n (bytes ++ rest)) run ∙ take-append_seam bytes rest in
    let back : drop (prefix_len is_token_byte (bytes ++ rest)) (bytes ++ rest) ≡ rest = ap (λ n. drop n (bytes ++ rest)) run ∙ drop-append_seam bytes rest in
    let place : at + 1 + prefix_len is_token_byte (bytes ++ rest) ≡ at + length (b ∷ bytes) = omega (arith, run) in
    begins at b (prefix_len is_token_byte (bytes ++ rest)) (bytes ++ rest) _ (begin_token at b (bytes ++ rest) parts.0)
    ∙ ap (λ t. token_lexeme at (b ∷ t) ∷ lexemes 0 (at + 1 + prefix_len is_token_byte (bytes ++ rest)) (drop (prefix_len is_token_byte (bytes ++ rest)) (bytes ++ rest))) front
    ∙ ap (λ r. token_lexeme at (b ∷ bytes) ∷ lexemes 0 (at + 1 + prefix_len is_token_byte (bytes ++ rest)) r) back ∙ ap (λ n. token_lexeme at (b ∷ bytes) ∷ lexemes 0 n rest) place

pub number_token : (at : ℕ) (token : List ℕ) (z : ℤ) → IsNumberToken token z → token_lexeme at token ≡ leaf (plain_int (span_from at (length token)) z)
unfolding token_lexeme
number_token at token z is = rw is.number (rw is.worth refl)

pub name_token : (at : ℕ) (token : List ℕ) → IsNameToken token → is_name token ≡ true → token_lexeme at token ≡ leaf (plain_name (span_from at (length token)) token)
unfolding token_lexeme
name_token at token is named = rw is.number (rw named refl)

-- one byte of a printed text is read as it
literal_one : (b n : ℕ) (bytes content : List ℕ) → literal bytes ≡ closed content n → literal (escaped b ++ bytes) ≡ closed (b ∷ content) (length (escaped b) + n)
unfolding literal
literal_one b n bytes content h =
    elim (cases_test (eqb b 34)) [
      | inl e ↦ let same : b ≡ 34 = grind (arith, nat_tests) in rw same (ap (with_front (34 ∷ []) 2) h)
      | inr e ↦
          elim (cases_test (eqb b 92)) [
            | inl e2 ↦ let same : b ≡ 92 = grind (arith, nat_tests) in rw same (ap (with_front (92 ∷ []) 2) h)
            | inr e2 ↦
                elim (cases_test (eqb b 10)) [
                  | inl e3 ↦ let same : b ≡ 10 = grind (arith, nat_tests) in rw same (ap (with_front (10 ∷ []) 2) h)
                  | inr e3 ↦
                      let plain : is_plain b ≡ true = rw e (rw e2 refl) in
                      let alone : escaped b ≡ b ∷ [] = rw e (rw e2 (rw e3 refl)) in
                      ap (λ t. literal (t ++ bytes)) alone ∙ literal_plain b bytes plain ∙ ap (with_front (b ∷ []) 1) h ∙ ap (λ t. closed (b ∷ content) (length t + n)) (sym alone)
                ]
          ]
    ]

-- a printed text is read as what it stands for
pub literal_escaped : (content rest : List ℕ) → literal (flat_map escaped content ++ 34 ∷ rest) ≡ closed content (length (flat_map escaped content) + 1)
literal_escaped [] rest = let one : 0 + 1 ≡ 1 = omega arith in literal_quote (34 ∷ rest) (omega arith) refl
literal_escaped (b ∷ content) rest =
    let count : length (escaped b) + (length (flat_map escaped content) + 1)
    ≡ length (escaped b ++ flat_map escaped content) + 1 = omega
    (arith, length-append (escaped b) (flat_map escaped content)) in
    ap literal (append_assoc (escaped b) (flat_map escaped content) (34 ∷ rest))
    ∙ literal_one b (length (flat_map escaped content) + 1) (flat_map escaped content ++ 34 ∷ rest) content (literal_escaped content rest)
    ∙ ap (closed (b ∷ content)) count

pub lex_text : (at : ℕ) (content rest : List ℕ) → length content ≤ 4096 →
    lexemes 0 at (quoted content ++ rest) ≡ leaf (plain_text (span_from at (length (quoted content))) content) ∷ lexemes 0 (at + length (quoted content)) rest
lex_text at content rest small =
    let inner : (flat_map escaped content ++ 34 ∷ []) ++ rest ≡ flat_map escaped content ++ 34 ∷ rest = append_assoc (flat_map escaped content) (34 ∷ []) rest in
    let found : literal (flat_map escaped content ++ 34 ∷ rest) ≡ closed content (length (flat_map escaped content) + 1) = literal_escaped content rest in
    let fits : leb (length content) 4096 ≡ true = grind (arith, nat_tests) in
    let count : 1 + (length (flat_map escaped content) + 1) ≡ length (quoted content) = omega (arith, length-append (flat_map escaped content) (34 ∷ [])) in
    let place : at + 1 + (length (flat_map escaped content) + 1) ≡ at + length (quoted content) = omega (arith, count) in
    let word : literal_lexeme at (closed content (length (flat_map escaped content) + 1)) ≡ leaf (plain_text (span_from at (length (quoted content))) content) =
    rw fits (ap (λ n. leaf (plain_text (span_from at n) content)) count) in
    let begin : beginning at 34 (flat_map escaped content ++ 34 ∷ rest)
    ≡ record {
      word = leaf (plain_text (span_from at (length (quoted content))) content)
          ∷ [];
      more = length (flat_map escaped content) + 1;
    } =
    begin_text at 34 (flat_map escaped content ++ 34 ∷ rest) refl ∙ ap (λ l. record { word = literal_lexeme at l ∷ []; more = literal_more l }) found
    ∙ ap (λ w. record { word = w ∷ []; more = length (flat_map escaped content) + 1 }) word in
    ap (λ t. lexemes 0 at (34 ∷ t)) inner
    ∙ begins at 34 (length (flat_map escaped content) + 1) (flat_map escaped content ++ 34 ∷ rest) (leaf (plain_text (span_from at (length (quoted content))) content) ∷ []) begin
    ∙ ap (λ r. leaf (plain_text (span_from at (length (quoted content))) content)
    ∷ lexemes 0 (at + 1 + (length (flat_map escaped content) + 1)) r)
    (drop-append-add (flat_map escaped content) (34 ∷ rest) 1)
    ∙ ap (λ n. leaf (plain_text (span_from at (length (quoted content))) content) ∷ lexemes 0 n rest) place

-- the form where it stands when it is printed at a place
abbrev mutual
  pub placed : ℕ → PlainSexpr → PlainSexpr
  placed at (plain_name span bytes) = plain_name (span_from at (length bytes)) bytes
  placed at (plain_int span value) = plain_int (span_from at (length (signed_decimal value))) value
  placed at (plain_text span content) = plain_text (span_from at (length (quoted content))) content
  placed at (plain_list span forms) = plain_list (span_from at (1 + length (printed_members forms) + 1)) (placed_members (at + 1) forms)

  pub placed_members : ℕ → PlainForms → PlainForms
  placed_members at no_forms = no_forms
  placed_members at (forms_and form forms) = forms_and (placed at form) (placed_behind (at + length (printed_form form)) forms)

  pub placed_behind : ℕ → PlainForms → PlainForms
  placed_behind at no_forms = no_forms
  placed_behind at (forms_and form forms) = forms_and (placed (at + 1) form) (placed_behind (at + 1 + length (printed_form form)) forms)

-- what stands after a member begins with a space
behind_stops : (forms : PlainForms) (rest : List ℕ) → Stops is_token_byte rest → Stops is_token_byte (printed_behind forms ++ rest)
behind_stops no_forms rest stop = stop
behind_stops (forms_and form forms) rest stop = refl

-- the lexemes of two parts, one after the other
two_parts : (at : ℕ) (form : PlainSexpr) (second rest : List ℕ) (front back : List Lexeme) →
    lexemes 0 at (printed_form form ++ (second ++ rest)) ≡ front ++ lexemes 0 (at + length (printed_form form)) (second ++ rest) →
    lexemes 0 (at + length (printed_form form)) (second ++ rest) ≡ back ++ lexemes 0 (at + length (printed_form form) + length second) rest →
    lexemes 0 at ((printed_form form ++ second) ++ rest) ≡ (front ++ back) ++ lexemes 0 (at + length (printed_form form ++ second)) rest
two_parts at form second rest front back e f =
    let count : at + length (printed_form form) + length second ≡ at + length (printed_form form ++ second) = omega (arith, length-append (printed_form form) second) in
    ap (lexemes 0 at) (append_assoc (printed_form form) second rest) ∙ e ∙ ap (λ ls. front ++ ls) f ∙ sym (append_assoc front back (lexemes 0 (at + length (printed_form form) + length second) rest))
    ∙ ap (λ n. (front ++ back) ++ lexemes 0 n rest) count

-- a space in front
lex_space : (at : ℕ) (bytes rest : List ℕ) (found : List Lexeme) → lexemes 0 (at + 1) (bytes ++ rest) ≡ found ++ lexemes 0 (at + 1 + length bytes) rest →
    lexemes 0 at ((32 ∷ bytes) ++ rest) ≡ found ++ lexemes 0 (at + length (32 ∷ bytes)) rest
lex_space at bytes rest found e =
    let place : at + 1 + length bytes ≡ at + length (32 ∷ bytes) = omega arith in
    begins_alone at 32 (bytes ++ rest) [] (begin_separator at 32 (bytes ++ rest) refl) ∙ e ∙ ap (λ n. found ++ lexemes 0 n rest) place

-- a list, given the lexemes of its members
lex_list : (at : ℕ) (span : Span) (forms : PlainForms) (rest : List ℕ) →
    lexemes 0 (at + 1) (printed_members forms ++ 41 ∷ rest) ≡ words_of (placed_members (at + 1) forms) ++ lexemes 0 (at + 1 + length (printed_members forms)) (41 ∷ rest) →
    lexemes 0 at (printed_form (plain_list span forms) ++ rest) ≡ words (placed at (plain_list span forms)) ++ lexemes 0 (at + length (printed_form (plain_list span forms))) rest
lex_list at span forms rest e =
    let inner : (printed_members forms ++ 41 ∷ []) ++ rest ≡ printed_members forms ++ 41 ∷ rest = append_assoc (printed_members forms) (41 ∷ []) rest in
    let close : at + 1 + length (printed_members forms) + 1 ≡ at + (1 + length (printed_members forms) + 1) = omega arith in
    let count : at + (1 + length (printed_members forms) + 1) ≡ at + length (printed_form (plain_list span forms)) = omega (arith, length-append (printed_members forms) (41 ∷ [])) in
    let closes : lexemes 0 (at + 1 + length (printed_members forms)) (41 ∷ rest)
    ≡ closing (at + (1 + length (printed_members forms) + 1))
    ∷ lexemes 0 (at + length (printed_form (plain_list span forms))) rest =
    begins_alone (at + 1 + length (printed_members forms)) 41 rest (closing (at + 1 + length (printed_members forms) + 1) ∷ []) (begin_closing (at + 1 + length (printed_members forms)) 41 rest refl)
    ∙ ap (λ n. closing n ∷ lexemes 0 n rest) close ∙ ap (λ n. closing (at + (1 + length (printed_members forms) + 1)) ∷ lexemes 0 n rest) count in
    begins_alone at 40 ((printed_members forms ++ 41 ∷ []) ++ rest) (opening at ∷ []) (begin_opening at 40 ((printed_members forms ++ 41 ∷ []) ++ rest) refl)
    ∙ ap (λ t. opening at ∷ lexemes 0 (at + 1) t) inner ∙ ap (λ ls. opening at ∷ ls) e ∙ ap (λ ls. opening at ∷ (words_of (placed_members (at + 1) forms) ++ ls)) closes
    ∙ ap (λ ls. opening at ∷ ls)
    (sym (append_assoc (words_of (placed_members (at + 1) forms)) (closing (at + (1 + length (printed_members forms) + 1)) ∷ []) (lexemes 0 (at + length (printed_form (plain_list span forms))) rest)))

mutual
  pub lex_form : (at : ℕ) (form : PlainSexpr) (rest : List ℕ) → IsProper form → Stops is_token_byte rest →
      lexemes 0 at (printed_form form ++ rest) ≡ words (placed at form) ++ lexemes 0 (at + length (printed_form form)) rest
  lex_form at (plain_name span bytes) rest proper stop =
      let is = printed_name bytes proper.0 proper.1 in
      lex_token at bytes rest is.some is.bytes stop ∙ ap (λ w. w ∷ lexemes 0 (at + length bytes) rest) (name_token at bytes is proper.1)
  lex_form at (plain_int span value) rest proper stop =
      let is = printed_number value proper in
      lex_token at (signed_decimal value) rest is.some is.bytes stop ∙ ap (λ w. w ∷ lexemes 0 (at + length (signed_decimal value)) rest) (number_token at (signed_decimal value) value is)
  lex_form at (plain_text span content) rest proper stop = lex_text at content rest proper.1
  lex_form at (plain_list span forms) rest proper stop =
      lex_list at span forms rest (lex_members (at + 1) forms (41 ∷ rest) proper refl)

  pub lex_members : (at : ℕ) (forms : PlainForms) (rest : List ℕ) → AreProper forms → Stops is_token_byte rest →
      lexemes 0 at (printed_members forms ++ rest) ≡ words_of (placed_members at forms) ++ lexemes 0 (at + length (printed_members forms)) rest
  lex_members at no_forms rest proper stop = let z : at ≡ at + 0 = omega arith in ap (λ n. lexemes 0 n rest) z
  lex_members at (forms_and form forms) rest proper stop =
      two_parts at form (printed_behind forms) rest (words (placed at form)) (words_of (placed_behind (at + length (printed_form form)) forms))
      (lex_form at form (printed_behind forms ++ rest) proper.0 (behind_stops forms rest stop)) (lex_behind (at + length (printed_form form)) forms rest proper.1 stop)

  lex_behind : (at : ℕ) (forms : PlainForms) (rest : List ℕ) → AreProper forms → Stops is_token_byte rest →
      lexemes 0 at (printed_behind forms ++ rest) ≡ words_of (placed_behind at forms) ++ lexemes 0 (at + length (printed_behind forms)) rest
  lex_behind at no_forms rest proper stop = let z : at ≡ at + 0 = omega arith in ap (λ n. lexemes 0 n rest) z
  lex_behind at (forms_and form forms) rest proper stop =
      lex_space at (printed_form form ++ printed_behind forms) rest (words_of (placed_behind at (forms_and form forms)))
      (two_parts (at + 1) form (printed_behind forms) rest (words (placed (at + 1) form)) (words_of (placed_behind (at + 1 + length (printed_form form)) forms))
      (lex_form (at + 1) form (printed_behind forms ++ rest) proper.0 (behind_stops forms rest stop)) (lex_behind (at + 1 + length (printed_form form)) forms rest proper.1 stop))
