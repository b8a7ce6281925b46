-- What a byte begins, and how the lexemes go on after it.
use Rattle.std.proofs.Common.{◌≡◌, ◌≢◌, ℕ, zero, suc, ◌+◌, ◌-◌, ◌<◌, ◌≤◌, true, false, eqb, leb, List, [], ◌∷◌, ◌++◌, length, get_or, take, drop, refl, ap, sym, ◌∙◌, arith, Err}
use Rattle.std.specs.List.{prefix_len}
use Rattle.std.proofs.lemmas.List.{length-drop}
use Rattle.std.proofs.lemmas.List.Sums.{prefix_len-le-length}
use Rattle.std.proofs.lemmas.Bool.Decides.{nat_tests}
use Rattle.cml_text.specs.declared.sexpr.Span.{Span}
use Rattle.cml_text.specs.declared.fault.FaultKind.TheVariants.{Long}
use Rattle.cml_text.specs.Faults.{PlainFault}
use Rattle.cml_text.specs.Forms.{plain_text}
use Rattle.cml_text.specs.Lexemes.{is_separator, is_comment_byte, is_token_byte, Literal, closed, literal, Lexeme}
use Rattle.cml_text.specs.Lexemes.{opening, closing, leaf, faulty, fault_at, span_from, literal_lexeme}
use Rattle.cml_text.specs.Lexemes.{literal_more, token_lexeme, beginning, lexemes}
use Rattle.cml_text.specs.declared.fault.TextFault.{TextFault}
use Rattle.cml_text.specs.declared.fault.TextFault.TheVariants as fault
use Rattle.cml_text.specs.Steps.{StepsTo, IsLexeme, BeginsWithFault}

-- the lexemes after bytes that belong to an earlier lexeme
pub lexemes-before : (n at : ℕ) (bytes : List ℕ) → lexemes n at bytes ≡ lexemes 0 (at + n) (drop n bytes)
unfolding lexemes
lexemes-before zero at bytes = let e : at + 0 ≡ at = omega arith in rw e refl
lexemes-before (suc n) at [] = refl
lexemes-before (suc n) at (b ∷ bytes) = let e : at + 1 + n ≡ at + suc n = omega arith in lexemes-before n (at + 1) bytes ∙ ap (λ k. lexemes 0 k (drop n bytes)) e

pub lexemes-begin : (at b : ℕ) (bytes : List ℕ) → lexemes 0 at (b ∷ bytes) ≡ (beginning at b bytes).word ++ lexemes 0 (at + 1 + (beginning at b bytes).more) (drop (beginning at b bytes).more bytes)
unfolding lexemes
lexemes-begin at b bytes = ap (λ ls. (beginning at b bytes).word ++ ls) (lexemes-before (beginning at b bytes).more (at + 1) bytes)

-- a text that begins so goes on so
pub steps : (at more : ℕ) (text rest : List ℕ) (word : List Lexeme) → 0 < length text → beginning at (get_or text 0 0) (drop 1 text) ≡ record { word = word; more = more } →
    rest ≡ drop more (drop 1 text) → more ≤ length (drop 1 text) → StepsTo at text word rest
steps at more [] rest word some begin cut within = absurd (omega arith)
steps at more (b ∷ bytes) rest word some begin cut within =
    let shrunk : length rest ≡ length bytes - more = ap length cut ∙ length-drop more bytes in
    let k : at + (length (b ∷ bytes) - length rest) ≡ at + 1 + more = omega (arith, shrunk) in
    record {
      shorter = omega (arith, shrunk);
      spelled = rw k (lexemes-begin at b bytes ∙ ap (λ g. g.word ++ lexemes 0 (at + 1 + g.more) (drop g.more bytes)) begin ∙ ap (λ r. word ++ lexemes 0 (at + 1 + more) r) (sym cut));
    }

-- a text that begins with a fault
pub begins_with_fault : (at more : ℕ) (text : List ℕ) (fault : PlainFault) → 0 < length text → beginning at (get_or text 0 0) (drop 1 text) ≡ record { word = faulty fault ∷ []; more = more } →
    (others : List Lexeme) × (lexemes 0 at text ≡ faulty fault ∷ others)
begins_with_fault at more [] fault some begin = absurd (omega arith)
begins_with_fault at more (b ∷ bytes) fault some begin =
    (lexemes 0 (at + 1 + more) (drop more bytes), lexemes-begin at b bytes ∙ ap (λ g. g.word ++ lexemes 0 (at + 1 + g.more) (drop g.more bytes)) begin)

pub begin_separator : (at b : ℕ) (bytes : List ℕ) → is_separator b ≡ true → beginning at b bytes ≡ record { word = []; more = 0 }
unfolding beginning
begin_separator at b bytes e = rw e refl

pub begin_comment : (at b : ℕ) (bytes : List ℕ) → b ≡ 59 → beginning at b bytes ≡ record { word = []; more = prefix_len is_comment_byte bytes }
unfolding beginning
begin_comment at b bytes e = rw e refl

pub begin_opening : (at b : ℕ) (bytes : List ℕ) → b ≡ 40 → beginning at b bytes ≡ record { word = opening at ∷ []; more = 0 }
unfolding beginning
begin_opening at b bytes e = rw e refl

pub begin_closing : (at b : ℕ) (bytes : List ℕ) → b ≡ 41 → beginning at b bytes ≡ record { word = closing (at + 1) ∷ []; more = 0 }
unfolding beginning
begin_closing at b bytes e = rw e refl

pub begin_text : (at b : ℕ) (bytes : List ℕ) → b ≡ 34 → beginning at b bytes ≡ record { word = literal_lexeme at (literal bytes) ∷ []; more = literal_more (literal bytes) }
unfolding beginning
begin_text at b bytes e = rw e refl

pub begin_token : (at b : ℕ) (bytes : List ℕ) → is_token_byte b ≡ true →
    beginning at b bytes ≡ record { word = token_lexeme at (b ∷ take (prefix_len is_token_byte bytes) bytes) ∷ []; more = prefix_len is_token_byte bytes }
unfolding beginning
begin_token at b bytes e =
    let e0 : is_separator b ≡ false = grind (arith, nat_tests) in
    let e1 : eqb b 59 ≡ false = grind (arith, nat_tests) in
    let e2 : eqb b 40 ≡ false = grind (arith, nat_tests) in
    let e3 : eqb b 41 ≡ false = grind (arith, nat_tests) in
    let e4 : eqb b 34 ≡ false = grind (arith, nat_tests) in
    rw e0 (rw e1 (rw e2 (rw e3 (rw e4 refl))))

pub separator_steps : (at : ℕ) (text rest : List ℕ) → 0 < length text → is_separator (get_or text 0 0) ≡ true → rest ≡ drop 1 text → StepsTo at text [] rest
separator_steps at text rest some is cut = steps at 0 text rest [] some (begin_separator at (get_or text 0 0) (drop 1 text) is) cut (omega arith)

-- the text with its `;` goes on to the end of the line
pub comment_steps : (at : ℕ) (text rest : List ℕ) → 0 < length text → get_or text 0 0 ≡ 59 → rest ≡ drop (prefix_len is_comment_byte text) text → StepsTo at text [] rest
comment_steps at [] rest some is cut = absurd (omega arith)
comment_steps at (b ∷ bytes) rest some is cut =
    let passes : is_comment_byte b ≡ true = rw is refl in
    let n : prefix_len is_comment_byte (b ∷ bytes) ≡ suc (prefix_len is_comment_byte bytes) = rw passes (omega arith) in
    steps at (prefix_len is_comment_byte bytes) (b ∷ bytes) rest [] some (begin_comment at b bytes is) (cut ∙ ap (λ k. drop k (b ∷ bytes)) n) (prefix_len-le-length is_comment_byte bytes)

pub opening_steps : (at : ℕ) (text rest : List ℕ) → 0 < length text → get_or text 0 0 ≡ 40 → rest ≡ drop 1 text → StepsTo at text (opening at ∷ []) rest
opening_steps at text rest some is cut = steps at 0 text rest (opening at ∷ []) some (begin_opening at (get_or text 0 0) (drop 1 text) is) cut (omega arith)

pub closing_steps : (at : ℕ) (text rest : List ℕ) → 0 < length text → get_or text 0 0 ≡ 41 → rest ≡ drop 1 text → StepsTo at text (closing (at + 1) ∷ []) rest
closing_steps at text rest some is cut = steps at 0 text rest (closing (at + 1) ∷ []) some (begin_closing at (get_or text 0 0) (drop 1 text) is) cut (omega arith)

-- the token at the front of a text
token_front : (at : ℕ) (b : ℕ) (bytes : List ℕ) → is_token_byte b ≡ true → prefix_len is_token_byte (b ∷ bytes) ≡ suc (prefix_len is_token_byte bytes)
token_front at b bytes passes = rw passes (omega arith)

pub token_begins : (at n : ℕ) (text bytes token : List ℕ) → 0 < length text → is_token_byte (get_or text 0 0) ≡ true → n ≡ prefix_len is_token_byte bytes → bytes ≡ text → token ≡ take n text →
    beginning at (get_or text 0 0) (drop 1 text) ≡ record { word = token_lexeme at token ∷ []; more = prefix_len is_token_byte (drop 1 text) }
token_begins at n [] bytes token some passes count is front = absurd (omega arith)
token_begins at n (b ∷ rest) bytes token some passes count is front =
    let m : n ≡ suc (prefix_len is_token_byte rest) = count ∙ ap (prefix_len is_token_byte) is ∙ token_front at b rest passes in
    let t : token ≡ b ∷ take (prefix_len is_token_byte rest) rest = front ∙ ap (λ k. take k (b ∷ rest)) m in
    rw t (begin_token at b rest passes)

pub token_steps : (at n : ℕ) (text bytes token rest : List ℕ) → 0 < length text → is_token_byte (get_or text 0 0) ≡ true → n ≡ prefix_len is_token_byte bytes → bytes ≡ text → token ≡ take n text →
    rest ≡ drop n text → StepsTo at text (token_lexeme at token ∷ []) rest
token_steps at n [] bytes token rest some passes count is front cut = absurd (omega arith)
token_steps at n (b ∷ text) bytes token rest some passes count is front cut =
    let m : n ≡ suc (prefix_len is_token_byte text) = count ∙ ap (prefix_len is_token_byte) is ∙ token_front at b text passes in
    steps at (prefix_len is_token_byte text) (b ∷ text) rest (token_lexeme at token ∷ []) some (token_begins at n (b ∷ text) bytes token some passes count is front)
    (cut ∙ ap (λ k. drop k (b ∷ text)) m) (prefix_len-le-length is_token_byte text)

-- the text literal at the front of a text
pub text_steps : (at more : ℕ) (text behind content rest : List ℕ) (span : Span) → 0 < length text → get_or text 0 0 ≡ 34 → behind ≡ drop 1 text → literal behind ≡ closed content more →
    rest ≡ drop more behind → more ≤ length behind → length content ≤ 4096 → span ≡ span_from at (1 + more) → StepsTo at text (leaf (plain_text span content) ∷ []) rest
text_steps at more text behind content rest span some is cut found left within small same =
    let found' : literal (drop 1 text) ≡ closed content more = ap literal (sym cut) ∙ found in
    let fits : leb (length content) 4096 ≡ true = grind (arith, nat_tests) in
    let word : literal_lexeme at (closed content more) ≡ leaf (plain_text span content) = rw fits (ap (λ s. leaf (plain_text s content)) (sym same)) in
    steps at more text rest (leaf (plain_text span content) ∷ []) some
    (begin_text at (get_or text 0 0) (drop 1 text) is ∙ ap (λ l. record { word = literal_lexeme at l ∷ []; more = literal_more l }) found' ∙ ap (λ w. record { word = w ∷ []; more = more }) word)
    (left ∙ ap (drop more) cut) (rw (sym cut) within)

-- a text literal that is a fault
pub text_fault : (at : ℕ) (text behind : List ℕ) (found : Literal) (fault : PlainFault) → 0 < length text → get_or text 0 0 ≡ 34 → behind ≡ drop 1 text → literal behind ≡ found →
    literal_lexeme at found ≡ faulty fault → (others : List Lexeme) × (lexemes 0 at text ≡ faulty fault ∷ others)
text_fault at text behind found fault some is cut read bad =
    let read' : literal (drop 1 text) ≡ found = ap literal (sym cut) ∙ read in
    begins_with_fault at (literal_more found) text fault some
    (begin_text at (get_or text 0 0) (drop 1 text) is ∙ ap (λ l. record {
      word = literal_lexeme at l
          ∷ [];
      more = literal_more l;
    }) read' ∙ ap (λ w. record { word = w ∷ []; more = literal_more found }) bad)

pub literal_too_long : (at more : ℕ) (content : List ℕ) → 4096 < length content → literal_lexeme at (closed content more) ≡ fault_at at Long
literal_too_long at more content long = let no : leb (length content) 4096 ≡ false = grind (arith, nat_tests) in rw no refl

-- a token that is a fault
pub token_fault : (at n : ℕ) (text bytes token : List ℕ) (found : TextFault) → 0 < length text → is_token_byte (get_or text 0 0) ≡ true → n ≡ prefix_len is_token_byte bytes → bytes ≡ text →
    token ≡ take n text → IsLexeme (Err found) (token_lexeme at token) → BeginsWithFault at text found
token_fault at n text bytes token fault.Memory some passes count is front bad = tt
token_fault at n text bytes token (fault.At kind place) some passes count is front bad =
    begins_with_fault at (prefix_len is_token_byte (drop 1 text)) text (record { kind = kind; at = place }) some
    (token_begins at n text bytes token some passes count is front ∙ ap (λ w. record { word = w ∷ []; more = prefix_len is_token_byte (drop 1 text) }) bad)

pub token_byte : (b : ℕ) → is_separator b ≡ false → b ≢ 59 → b ≢ 40 → b ≢ 41 → b ≢ 34 → is_token_byte b ≡ true
token_byte b e0 e1 e2 e3 e4 =
    let f1 : eqb b 59 ≡ false = grind (arith, nat_tests) in
    let f2 : eqb b 40 ≡ false = grind (arith, nat_tests) in
    let f3 : eqb b 41 ≡ false = grind (arith, nat_tests) in
    let f4 : eqb b 34 ≡ false = grind (arith, nat_tests) in
    rw e0 (rw f1 (rw f2 (rw f3 (rw f4 refl))))
