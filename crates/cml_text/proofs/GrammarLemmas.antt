-- What the grammar gives a text is what its lexemes spell.
use Rattle.std.proofs.Common.{◌≡◌, ◌≢◌, ℕ, ◌+◌, ◌<◌, ◌≤◌, true, false, eqb, leb, List, [], ◌∷◌, ◌++◌, length, drop, refl, ap, sym, ◌∙◌, subst, arith, append_assoc}
use Rattle.std.specs.List.{prefix_len}
use Rattle.std.specs.Str.{IsCharBoundary, IsUtf8}
use Rattle.std.proofs.lemmas.Bool.{false≢true}
use Rattle.std.proofs.lemmas.Bool.Decides.{nat_tests}
use Rattle.std.proofs.lemmas.List.{length-append}
use Rattle.std.proofs.lemmas.Str.{IsUtf8-take, IsUtf8-drop, IsCharBoundary-after_ascii}
use Rattle.std.proofs.Math.Seq.{drop-append_seam, take-append_seam, drop-append-add}
use Rattle.cml_text.specs.Forms.{plain_text, plain_list, PlainForms, forms_and}
use Rattle.cml_text.specs.Lexemes.{is_separator, is_delimiter, is_comment_byte, is_token_byte, is_number, is_plain}
use Rattle.cml_text.specs.Lexemes.{closed, with_front, with_escape, literal, Lexeme, opening, closing, leaf}
use Rattle.cml_text.specs.Lexemes.{span_from, literal_lexeme, literal_more, beginning, lexemes}
use Rattle.cml_text.specs.Texts.{words_of}
use Rattle.cml_text.specs.Grammar.{Separates, Delimits, Escapes, Ending, whole_text, inside_list, HaveNoLineFeed, EndsOrDelimits, StandsFor, Gives}
use Rattle.cml_text.proofs.LiteralLemmas.{literal_plain, literal_quote}
use Rattle.cml_text.proofs.BeginLemmas.{begin_separator, begin_comment, begin_opening, begin_closing, begin_text}
use Rattle.cml_text.proofs.ClassLemmas.{separates_test, delimits_test, undivided_test, numeral_test, name_test, escape_test}
use Rattle.cml_text.proofs.PrintedLemmas.{Stops, run-append, IsNumberToken, printed_name}
use Rattle.cml_text.proofs.LexPrintedLemmas.{begins, begins_alone, lex_token, number_token, name_token}

-- the end, or an ASCII byte
abbrev pub BeginsLow : List ℕ → Type 0
BeginsLow [] = Unit {0}
BeginsLow (b ∷ text) = b < 128

seam_boundary : (front text : List ℕ) → BeginsLow text → IsCharBoundary (front ++ text) (length front)
seam_boundary [] [] low = (omega arith, λ inside high. absurd (omega arith))
seam_boundary [] (b ∷ text) low = (omega arith, λ inside high. absurd (omega (arith, low)))
seam_boundary (x ∷ front) text low = let r = seam_boundary front text low in (omega (arith, r.0), λ inside high. r.1 (omega arith) high)

-- a text is cut into two where the second begins with an ASCII byte
pub utf8_front : (front text : List ℕ) → BeginsLow text → IsUtf8 (front ++ text) → IsUtf8 front
utf8_front front text low utf8 = subst IsUtf8 (take-append_seam front text) (IsUtf8-take (front ++ text) (length front) utf8 (seam_boundary front text low))

pub utf8_back : (front text : List ℕ) → BeginsLow text → IsUtf8 (front ++ text) → IsUtf8 text
utf8_back front text low utf8 = subst IsUtf8 (drop-append_seam front text) (IsUtf8-drop (front ++ text) (length front) utf8 (seam_boundary front text low))

-- and after an ASCII byte
pub utf8_behind : (b : ℕ) (text : List ℕ) → b < 128 → IsUtf8 (b ∷ text) → IsUtf8 text
utf8_behind b text low utf8 = IsUtf8-drop (b ∷ text) 1 utf8 (IsCharBoundary-after_ascii (b ∷ text) 0 utf8 (omega arith) low)

pub utf8_past : (front : List ℕ) (b : ℕ) (text : List ℕ) → b < 128 → IsUtf8 (front ++ b ∷ text) → IsUtf8 text
utf8_past front b text low utf8 = utf8_behind b text low (utf8_back front (b ∷ text) low utf8)

delimiter_low : (b : ℕ) → Delimits b → b < 128
delimiter_low b is = let e : is_delimiter b ≡ true = delimits_test b is in grind (arith, nat_tests)

pub separator_low : (b : ℕ) → Separates b → b < 128
separator_low b is = let e : is_separator b ≡ true = separates_test b is in grind (arith, nat_tests)

pub ends_low : (text : List ℕ) → EndsOrDelimits text → BeginsLow text
ends_low [] ends = tt
ends_low (b ∷ text) ends = delimiter_low b ends

-- what stands after a text
abbrev pub StandsBehind : Ending → List ℕ → Type 0
StandsBehind whole_text rest = rest ≡ []
StandsBehind inside_list rest = (behind : List ℕ) × (rest ≡ 41 ∷ behind)

stops_behind : (ending : Ending) (rest : List ℕ) → StandsBehind ending rest → Stops is_token_byte rest
stops_behind whole_text rest is = subst (Stops is_token_byte) (sym is) tt
stops_behind inside_list rest is = subst (Stops is_token_byte) (sym is.1) refl

token_stops : (ending : Ending) (text rest : List ℕ) → EndsOrDelimits text → StandsBehind ending rest → Stops is_token_byte (text ++ rest)
token_stops ending [] rest ends is = stops_behind ending rest is
token_stops ending (b ∷ text) rest ends is = rw (delimits_test b ends) refl

-- a comment up to a line feed or the end
pub lex_comment : (at : ℕ) (bytes rest : List ℕ) → HaveNoLineFeed bytes → Stops is_comment_byte rest → lexemes 0 at (59 ∷ (bytes ++ rest)) ≡ lexemes 0 (at + 1 + length bytes) rest
lex_comment at bytes rest none stop =
    let run : prefix_len is_comment_byte (bytes ++ rest) ≡ length bytes = run-append is_comment_byte bytes rest none stop in
    begins at 59 (prefix_len is_comment_byte (bytes ++ rest)) (bytes ++ rest) [] (begin_comment at 59 (bytes ++ rest) refl)
    ∙ ap (λ n. lexemes 0 (at + 1 + n) (drop n (bytes ++ rest))) run ∙ ap (lexemes 0 (at + 1 + length bytes)) (drop-append_seam bytes rest)

plain_byte : (b : ℕ) → b ≢ 34 → b ≢ 92 → is_plain b ≡ true
plain_byte b quote backslash =
    let e : eqb b 34 ≡ false = grind (arith, nat_tests) in
    let f : eqb b 92 ≡ false = grind (arith, nat_tests) in
    rw e (rw f refl)

literal_escapes : (b c : ℕ) (text : List ℕ) → Escapes b c → literal (92 ∷ b ∷ text) ≡ with_front (c ∷ []) 2 (literal text)
unfolding literal
literal_escapes b c text is = ap (λ o. with_escape o (literal text)) (escape_test b c is)

-- a literal is read as what stands between its quotes
pub literal_read : (spelling content rest : List ℕ) → StandsFor spelling content → literal (spelling ++ 34 ∷ rest) ≡ closed content (length spelling + 1)
literal_read spelling content rest StandsFor.ended = literal_quote (34 ∷ rest) (omega arith) refl
literal_read spelling content rest (StandsFor.itself b s c quote backslash more) =
    let count : 1 + (length s + 1) ≡ length (b ∷ s) + 1 = omega arith in
    literal_plain b (s ++ 34 ∷ rest) (plain_byte b quote backslash) ∙ ap (with_front (b ∷ []) 1) (literal_read s c rest more) ∙ ap (closed (b ∷ c)) count
literal_read spelling content rest (StandsFor.escape b d s c is more) =
    let count : 2 + (length s + 1) ≡ length (92 ∷ b ∷ s) + 1 = omega arith in
    literal_escapes b d (s ++ 34 ∷ rest) is ∙ ap (with_front (d ∷ []) 2) (literal_read s c rest more) ∙ ap (closed (d ∷ c)) count

lex_literal : (at : ℕ) (spelling content rest : List ℕ) → StandsFor spelling content → length content ≤ 4096 →
    lexemes 0 at (34 ∷ (spelling ++ 34 ∷ rest)) ≡ leaf (plain_text (span_from at (1 + length spelling + 1)) content) ∷ lexemes 0 (at + 1 + length spelling + 1) rest
lex_literal at spelling content rest is small =
    let found : literal (spelling ++ 34 ∷ rest) ≡ closed content (length spelling + 1) = literal_read spelling content rest is in
    let fits : leb (length content) 4096 ≡ true = grind (arith, nat_tests) in
    let count : 1 + (length spelling + 1) ≡ 1 + length spelling + 1 = omega arith in
    let place : at + 1 + (length spelling + 1) ≡ at + 1 + length spelling + 1 = omega arith in
    let word : literal_lexeme at (closed content (length spelling + 1)) ≡ leaf (plain_text (span_from at (1 + length spelling + 1)) content) =
    rw fits (ap (λ n. leaf (plain_text (span_from at n) content)) count) in
    let begin : beginning at 34 (spelling ++ 34 ∷ rest) ≡ record { word = leaf (plain_text (span_from at (1 + length spelling + 1)) content) ∷ []; more = length spelling + 1 } =
    begin_text at 34 (spelling ++ 34 ∷ rest) refl ∙ ap (λ l. record {
      word = literal_lexeme at l
          ∷ [];
      more = literal_more l;
    }) found ∙ ap (λ w. record { word = w ∷ []; more = length spelling + 1 }) word in
    begins at 34 (length spelling + 1) (spelling ++ 34 ∷ rest) (leaf (plain_text (span_from at (1 + length spelling + 1)) content) ∷ []) begin
    ∙ ap (λ r. leaf (plain_text (span_from at (1 + length spelling + 1)) content) ∷ lexemes 0 (at + 1 + (length spelling + 1)) r) (drop-append-add spelling (34 ∷ rest) 1)
    ∙ ap (λ n. leaf (plain_text (span_from at (1 + length spelling + 1)) content) ∷ lexemes 0 n rest) place

-- a list, given the lexemes inside it and after it
lex_listed : (at : ℕ) (inside text rest : List ℕ) (members forms : PlainForms) →
    lexemes 0 (at + 1) (inside ++ 41 ∷ (text ++ rest)) ≡ words_of members ++ lexemes 0 (at + 1 + length inside) (41 ∷ (text ++ rest)) →
    lexemes 0 (at + 1 + length inside + 1) (text ++ rest) ≡ words_of forms ++ lexemes 0 (at + 1 + length inside + 1 + length text) rest →
    lexemes 0 at (40 ∷ (inside ++ 41 ∷ text) ++ rest) ≡ words_of
    (forms_and (plain_list (span_from at (1 + length inside + 1)) members) forms)
    ++ lexemes 0 (at + length (40 ∷ (inside ++ 41 ∷ text))) rest
lex_listed at inside text rest members forms e f =
    let p : ℕ = at + 1 + length inside in
    let ends : p + 1 ≡ at + (1 + length inside + 1) = omega arith in
    let count : p + 1 + length text ≡ at + length (40 ∷ (inside ++ 41 ∷ text)) = omega (arith, length-append inside (41 ∷ text)) in
    let last : List Lexeme = lexemes 0 (at + length (40 ∷ (inside ++ 41 ∷ text))) rest in
    let close : Lexeme = closing (at + (1 + length inside + 1)) in
    let closes : lexemes 0 p (41 ∷ (text ++ rest)) ≡ close ∷ (words_of forms ++ last) =
    begins_alone p 41 (text ++ rest) (closing (p + 1) ∷ []) (begin_closing p 41 (text ++ rest) refl) ∙ ap (λ ls. closing (p + 1) ∷ ls) f
    ∙ ap (λ n. closing n ∷ (words_of forms ++ lexemes 0 (p + 1 + length text) rest)) ends ∙ ap (λ n. close ∷ (words_of forms ++ lexemes 0 n rest)) count in
    begins_alone at 40 ((inside ++ 41 ∷ text) ++ rest) (opening at ∷ []) (begin_opening at 40 ((inside ++ 41 ∷ text) ++ rest) refl)
    ∙ ap (λ t. opening at ∷ lexemes 0 (at + 1) t) (append_assoc inside (41 ∷ text) rest) ∙ ap (λ ls. opening at ∷ ls) e ∙ ap (λ ls. opening at ∷ (words_of members ++ ls)) closes
    ∙ ap (λ ls. opening at ∷ ls) (sym (append_assoc (words_of members ++ close ∷ []) (words_of forms) last ∙ append_assoc (words_of members) (close ∷ []) (words_of forms ++ last)))

number_some : (token : List ℕ) → is_number token ≡ true → 0 < length token
number_some [] is = absurd (false≢true is)
number_some (b ∷ token) is = omega arith

-- after a lexeme
behind_word : (at n : ℕ) (front text rest : List ℕ) (w v : Lexeme) (forms : PlainForms) → n ≡ length front → lexemes 0 at (front ++ (text ++ rest)) ≡ w ∷ lexemes 0 (at + n) (text ++ rest) → w ≡ v →
    lexemes 0 (at + n) (text ++ rest) ≡ words_of forms ++ lexemes 0 (at + n + length text) rest →
    lexemes 0 at ((front ++ text) ++ rest) ≡ v ∷ (words_of forms ++ lexemes 0 (at + length (front ++ text)) rest)
behind_word at n front text rest w v forms size first same e =
    let count : at + n + length text ≡ at + length (front ++ text) = omega (arith, length-append front text, size) in
    ap (lexemes 0 at) (append_assoc front text rest) ∙ first ∙ ap (λ u. u ∷ lexemes 0 (at + n) (text ++ rest)) same ∙ ap (λ ls. v ∷ ls) e ∙ ap (λ k. v ∷ (words_of forms ++ lexemes 0 k rest)) count

pub lex_given : (rest : List ℕ) (ending : Ending) (at : ℕ) (text : List ℕ) (forms : PlainForms) → Gives ending at text forms → IsUtf8 text → StandsBehind ending rest →
    lexemes 0 at (text ++ rest) ≡ words_of forms ++ lexemes 0 (at + length text) rest
lex_given rest ending at text forms (Gives.nothing e n) utf8 is = let z : n ≡ n + 0 = omega arith in ap (λ k. lexemes 0 k rest) z
lex_given rest ending at text forms (Gives.separator e n b bytes fs sep more) utf8 is =
    let place : n + 1 + length bytes ≡ n + length (b ∷ bytes) = omega arith in
    begins_alone n b (bytes ++ rest) [] (begin_separator n b (bytes ++ rest) (separates_test b sep)) ∙ lex_given rest e (n + 1) bytes fs more (utf8_behind b bytes (separator_low b sep) utf8) is
    ∙ ap (λ k. words_of fs ++ lexemes 0 k rest) place
lex_given rest ending at text forms (Gives.comment e n bytes behind fs none more) utf8 is =
    let place : n + 1 + length bytes + 1 + length behind ≡ n + length (59 ∷ (bytes ++ 10 ∷ behind)) = omega (arith, length-append bytes (10 ∷ behind)) in
    let utf8' : IsUtf8 behind = utf8_past bytes 10 behind (omega arith) (utf8_behind 59 (bytes ++ 10 ∷ behind) (omega arith) utf8) in
    ap (λ t. lexemes 0 n (59 ∷ t)) (append_assoc bytes (10 ∷ behind) rest) ∙ lex_comment n bytes (10 ∷ (behind ++ rest)) none refl
    ∙ begins_alone (n + 1 + length bytes) 10 (behind ++ rest) [] (begin_separator (n + 1 + length bytes) 10 (behind ++ rest) refl) ∙ lex_given rest e (n + 1 + length bytes + 1) behind fs more utf8' is
    ∙ ap (λ k. words_of fs ++ lexemes 0 k rest) place
lex_given rest ending at text forms (Gives.last_comment n bytes none) utf8 is =
    let place : n + 1 + length bytes ≡ n + length (59 ∷ bytes) = omega arith in
    lex_comment n bytes rest none (subst (Stops is_comment_byte) (sym is) tt) ∙ ap (λ k. lexemes 0 k rest) place
lex_given rest ending at text forms (Gives.list e n inside behind members fs within more) utf8 is =
    let inner : IsUtf8 (inside ++ 41 ∷ behind) = utf8_behind 40 (inside ++ 41 ∷ behind) (omega arith) utf8 in
    lex_listed n inside behind rest members fs
    (lex_given (41 ∷ (behind ++ rest)) inside_list (n + 1) inside members within (utf8_front inside (41 ∷ behind) (omega arith) inner) (behind ++ rest, refl))
    (lex_given rest e (n + 1 + length inside + 1) behind fs more (utf8_past inside 41 behind (omega arith) inner) is)
lex_given rest ending at text forms (Gives.literal e n spelling content behind fs stands small more) utf8 is =
    let place : n + 1 + length spelling + 1 + length behind ≡ n + length (34 ∷ (spelling ++ 34 ∷ behind)) = omega (arith, length-append spelling (34 ∷ behind)) in
    let utf8' : IsUtf8 behind = utf8_past spelling 34 behind (omega arith) (utf8_behind 34 (spelling ++ 34 ∷ behind) (omega arith) utf8) in
    ap (λ t. lexemes 0 n (34 ∷ t)) (append_assoc spelling (34 ∷ behind) rest) ∙ lex_literal n spelling content (behind ++ rest) stands small
    ∙ ap (λ ls. leaf (plain_text (span_from n (1 + length spelling + 1)) content) ∷ ls) (lex_given rest e (n + 1 + length spelling + 1) behind fs more utf8' is)
    ∙ ap (λ k. leaf (plain_text (span_from n (1 + length spelling + 1)) content) ∷ (words_of fs ++ lexemes 0 k rest)) place
lex_given rest ending at text forms (Gives.number e n token behind value fs tok num more) utf8 is =
    let both = numeral_test token value num in
    let some : 0 < length token = number_some token both.0 in
    let bytes = undivided_test token tok.undivided in
    let number : IsNumberToken token value = record { some = some; bytes = bytes; number = both.0; worth = both.1 } in
    behind_word n (length token) token behind rest _ _ fs refl (lex_token n token (behind ++ rest) some bytes (token_stops e behind rest tok.ends is)) (number_token n token value number)
    (lex_given rest e (n + length token) behind fs more (utf8_back token behind (ends_low behind tok.ends) utf8) is)
lex_given rest ending at text forms (Gives.name e n token behind fs tok named more) utf8 is =
    let is_named = name_test token named in
    let name = printed_name token (utf8_front token behind (ends_low behind tok.ends) utf8) is_named in
    let bytes = undivided_test token tok.undivided in
    behind_word n (length token) token behind rest _ _ fs refl (lex_token n token (behind ++ rest) name.some bytes (token_stops e behind rest tok.ends is)) (name_token n token name is_named)
    (lex_given rest e (n + length token) behind fs more (utf8_back token behind (ends_low behind tok.ends) utf8) is)
