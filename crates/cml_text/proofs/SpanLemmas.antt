-- Each form of a text is spelled by the slice at its span.
use Rattle.std.proofs.Common.{◌≡◌, ℕ, zero, suc, ◌+◌, ◌-◌, ◌≤◌, true, eqb, leb, List, [], ◌∷◌, ◌++◌, length, take}
use Rattle.std.proofs.Common.{drop, refl, ap, sym, ◌∙◌, subst, arith, Option, Some, None, append_assoc, inl, inr}
use Rattle.std.proofs.Common.{◌⊎◌, ℤ}
use Rattle.std.specs.List.{prefix_len}
use Rattle.std.proofs.lemmas.Bool.Decides.{nat_tests}
use Rattle.std.proofs.lemmas.List.{append-nil, length-append}
use Rattle.std.proofs.Math.Seq.{drop-append_seam, take-append_seam}
use Rattle.cml_text.specs.declared.sexpr.Span.{Span}
use Rattle.cml_text.specs.declared.fault.FaultKind.TheVariants.{Long}
use Rattle.cml_text.specs.Faults.{PlainFault}
use Rattle.cml_text.specs.Forms.{PlainSexpr, plain_name, plain_int, plain_text, plain_list, PlainForms, no_forms, forms_and, plain_forms, span_of}
use Rattle.cml_text.specs.Lexemes.{is_separator, is_comment_byte, is_token_byte, is_number, is_name, number_value}
use Rattle.cml_text.specs.Lexemes.{number_lexeme, Literal, closed, endless, no_escape, literal, Lexeme, opening}
use Rattle.cml_text.specs.Lexemes.{closing, leaf, faulty, span_from, token_lexeme, literal_lexeme, literal_more}
use Rattle.cml_text.specs.Lexemes.{beginning, lexemes}
use Rattle.cml_text.specs.Texts.{words, words_of}
use Rattle.cml_text.specs.Spans.{bytes_at, IsSpelledAtSpan, IsAtSpan, AreAtSpans}
use Rattle.cml_text.specs.Laws.{EachAtItsSpan}
use Rattle.cml_text.proofs.WordLemmas.{cases_test}
use Rattle.cml_text.proofs.BeginLemmas.{lexemes-begin, begin_separator, begin_comment, begin_opening, begin_closing, begin_text, begin_token}
use Rattle.cml_text.proofs.PrintedLemmas.{run-append}
use Rattle.cml_text.proofs.LexPrintedLemmas.{begins, begins_alone, lex_token}
use Rattle.cml_text.proofs.TextLemmas.{span_same}
use Rattle.cml_text.proofs.CutLemmas.{SameFront, same_front, stops_same, Cut, cut_both, Run, run_of, LiteralCut, literal_cut}

-- where a lexeme stands that is this many bytes long
abbrev StandsAt : ℕ → ℕ → Lexeme → Type 0
StandsAt at count (opening start) = start ≡ at
StandsAt at count (closing end) = end ≡ at + count
StandsAt at count (leaf form) = span_of form ≡ span_from at count
StandsAt at count (faulty fault) = ⊥

-- no lexeme, one that stands there, or a fault
abbrev StandAt : ℕ → ℕ → List Lexeme → Type 0
StandAt at count [] = Unit {0}
StandAt at count (w ∷ ws) = (ws ≡ []) × StandsAt at count w

abbrev IsFaulty : List Lexeme → Type 0
IsFaulty ws = (fault : PlainFault) × (ws ≡ faulty fault ∷ [])

-- what a byte begins, unless it is a fault
record Piece (at b : ℕ) (bytes : List ℕ) : Type 0 where
  word : List Lexeme
  front : List ℕ
  rest : List ℕ
  parts : bytes ≡ front ++ rest
  cut : Cut at (b ∷ front) rest word
  stands : StandAt at (length (b ∷ front)) word

alone : (at b : ℕ) (bytes : List ℕ) (word : List Lexeme) → ((ys : List ℕ) → beginning at b ys ≡ record { word = word; more = 0 }) → StandAt at 1 word → Piece at b bytes
alone at b bytes word begin stands =
    record { word = word; front = []; rest = bytes; parts = refl; cut = λ ys same. begins_alone at b ys word (begin ys); stands = stands }

comment_piece : (at b : ℕ) (bytes : List ℕ) → b ≡ 59 → Piece at b bytes
comment_piece at b bytes is =
    let r : Run is_comment_byte bytes = run_of is_comment_byte bytes in
    record {
      word = [];
      front = r.front;
      rest = r.rest;
      parts = r.parts;
      cut = λ ys same.
          let run : prefix_len is_comment_byte (r.front ++ ys) ≡ length r.front = run-append is_comment_byte r.front ys r.all (stops_same is_comment_byte ys r.rest same r.stop) in
          let place : at + 1 + prefix_len is_comment_byte (r.front ++ ys) ≡ at + length (b ∷ r.front) = omega (arith, run) in
          begins at b (prefix_len is_comment_byte (r.front ++ ys)) (r.front ++ ys) [] (begin_comment at b (r.front ++ ys) is)
          ∙ ap (λ n. lexemes 0 n (drop (prefix_len is_comment_byte (r.front ++ ys)) (r.front ++ ys))) place
          ∙ ap (λ n. lexemes 0 (at + length (b ∷ r.front)) (drop n (r.front ++ ys))) run ∙ ap (lexemes 0 (at + length (b ∷ r.front))) (drop-append_seam r.front ys);
      stands = tt;
    }

number_stands : (at : ℕ) (token : List ℕ) (value : Option ℤ) → StandAt at (length token) (number_lexeme at token value ∷ []) ⊎ IsFaulty (number_lexeme at token value ∷ [])
number_stands at token None = inr (_, refl)
number_stands at token (Some value) = inl (refl, refl)

token_stands : (at : ℕ) (token : List ℕ) → StandAt at (length token) (token_lexeme at token ∷ []) ⊎ IsFaulty (token_lexeme at token ∷ [])
unfolding token_lexeme
token_stands at token =
    elim (cases_test (is_number token)) [
      | inl e ↦ rw e (number_stands at token (number_value token))
      | inr e ↦ elim (cases_test (is_name token)) [ inl e2 ↦ rw e (rw e2 (inl (refl, refl))) | inr e2 ↦ rw e (rw e2 (inr (_, refl))) ]
    ]

abbrev PieceOrFault : ℕ → ℕ → List ℕ → Type 0
PieceOrFault at b bytes = Piece at b bytes ⊎ IsFaulty (beginning at b bytes).word

token_piece : (at b : ℕ) (bytes : List ℕ) → is_token_byte b ≡ true → PieceOrFault at b bytes
token_piece at b bytes is =
    let r : Run is_token_byte bytes = run_of is_token_byte bytes in
    elim (token_stands at (b ∷ r.front)) [
      | inl stands ↦
          inl (record {
            word = token_lexeme at (b ∷ r.front) ∷ [];
            front = r.front;
            rest = r.rest;
            parts = r.parts;
            cut = λ ys same. lex_token at (b ∷ r.front) ys (omega arith) (rw is r.all) (stops_same is_token_byte ys r.rest same r.stop);
            stands = stands;
          })
      | inr f ↦ inr (f.0, ap (λ g. g.word) (begin_token at b bytes is) ∙ ap (λ t. token_lexeme at (b ∷ t) ∷ []) r.taken ∙ f.1)
    ]

literal_piece : (at b : ℕ) (bytes : List ℕ) (l : Literal) → b ≡ 34 → literal bytes ≡ l → PieceOrFault at b bytes
literal_piece at b bytes (closed content more) is found =
    elim (cases_test (leb (length content) 4096)) [
      | inl fits ↦
          let l : LiteralCut bytes content more = literal_cut bytes content more found in
          let word : literal_lexeme at (closed content more) ≡ leaf (plain_text (span_from at (1 + more)) content) = rw fits refl in
          let count : 1 + more ≡ length (b ∷ l.front) = omega (arith, l.count) in
          inl (record {
            word = leaf (plain_text (span_from at (1 + more)) content) ∷ [];
            front = l.front;
            rest = l.rest;
            parts = l.parts;
            cut = λ ys same.
                let place : at + 1 + more ≡ at + length (b ∷ l.front) = omega (arith, l.count) in
                begins at b more (l.front ++ ys) (leaf (plain_text (span_from at (1 + more)) content) ∷ [])
                (begin_text at b (l.front ++ ys) is ∙ ap (λ k. record { word = literal_lexeme at k ∷ []; more = literal_more k }) (l.stays ys) ∙ ap (λ w. record { word = w ∷ []; more = more }) word)
                ∙ ap (λ n. leaf (plain_text (span_from at (1 + more)) content) ∷ lexemes 0 n (drop more (l.front ++ ys))) place
                ∙ ap (λ n. leaf (plain_text (span_from at (1 + more)) content) ∷ lexemes 0 (at + length (b ∷ l.front)) (drop n (l.front ++ ys))) l.count
                ∙ ap (λ r. leaf (plain_text (span_from at (1 + more)) content) ∷ lexemes 0 (at + length (b ∷ l.front)) r) (drop-append_seam l.front ys);
            stands = (refl, ap (λ n. span_from at n) count);
          })
      | inr long ↦
          inr (record { kind = Long; at = at }, ap (λ g. g.word) (begin_text at b bytes is) ∙ ap (λ k. literal_lexeme at k ∷ []) found ∙ rw long refl)
    ]
literal_piece at b bytes endless is found = inr (_, ap (λ g. g.word) (begin_text at b bytes is) ∙ ap (λ k. literal_lexeme at k ∷ []) found)
literal_piece at b bytes (no_escape place) is found = inr (_, ap (λ g. g.word) (begin_text at b bytes is) ∙ ap (λ k. literal_lexeme at k ∷ []) found)

piece : (at b : ℕ) (bytes : List ℕ) → PieceOrFault at b bytes
piece at b bytes =
    elim (cases_test (is_separator b)) [
      | inl e ↦ inl (alone at b bytes [] (λ ys. begin_separator at b ys e) tt)
      | inr e ↦
          elim (cases_test (eqb b 59)) [
            | inl e1 ↦ inl (comment_piece at b bytes (grind (arith, nat_tests)))
            | inr e1 ↦
                elim (cases_test (eqb b 40)) [
                  | inl e2 ↦ let is : b ≡ 40 = grind (arith, nat_tests) in inl (alone at b bytes (opening at ∷ []) (λ ys. begin_opening at b ys is) (refl, refl))
                  | inr e2 ↦
                      elim (cases_test (eqb b 41)) [
                        | inl e3 ↦ let is : b ≡ 41 = grind (arith, nat_tests) in inl (alone at b bytes (closing (at + 1) ∷ []) (λ ys. begin_closing at b ys is) (refl, refl))
                        | inr e3 ↦
                            elim (cases_test (eqb b 34)) [
                              | inl e4 ↦ literal_piece at b bytes (literal bytes) (grind (arith, nat_tests)) refl
                              | inr e4 ↦ token_piece at b bytes (rw e (rw e2 (rw e3 (rw e4 (rw e1 refl)))))
                            ]
                      ]
                ]
          ]
    ]

-- the first lexeme of a text, and the gap in front of it
record FirstWord (at : ℕ) (text : List ℕ) (w : Lexeme) (ws : List Lexeme) : Type 0 where
  gap : List ℕ
  bytes : List ℕ
  rest : List ℕ
  parts : text ≡ gap ++ (bytes ++ rest)
  gap_cut : Cut at gap (bytes ++ rest) []
  cut : Cut (at + length gap) bytes rest (w ∷ [])
  left : lexemes 0 (at + length gap + length bytes) rest ≡ ws
  stands : StandsAt (at + length gap) (length bytes) w

abbrev IsWhole : Lexeme → Type 0
IsWhole (opening start) = Unit {0}
IsWhole (closing end) = Unit {0}
IsWhole (leaf form) = Unit {0}
IsWhole (faulty fault) = ⊥

-- the text goes on after a piece
goes_on : (at b : ℕ) (bytes : List ℕ) (p : Piece at b bytes) → lexemes 0 at (b ∷ bytes) ≡ p.word ++ lexemes 0 (at + length (b ∷ p.front)) p.rest
goes_on at b bytes p = ap (λ t. lexemes 0 at (b ∷ t)) p.parts ∙ p.cut p.rest (same_front p.rest)

pub no_words : (at : ℕ) → lexemes 0 at [] ≡ []
unfolding lexemes
no_words at = refl

-- a gap in front
behind_gap : (at b : ℕ) (bytes : List ℕ) (w : Lexeme) (ws : List Lexeme) (p : Piece at b bytes) → p.word ≡ [] → FirstWord (at + length (b ∷ p.front)) p.rest w ws → FirstWord at (b ∷ bytes) w ws
behind_gap at b bytes w ws p none f =
    let count : at + length ((b ∷ p.front) ++ f.gap) ≡ at + length (b ∷ p.front) + length f.gap = omega (arith, length-append (b ∷ p.front) f.gap) in
    let rest : p.rest ≡ f.gap ++ (f.bytes ++ f.rest) = f.parts in
    let P : ℕ → Type 0 = λ n. Cut n f.bytes f.rest (w ∷ []) in
    let Q : ℕ → Type 0 = λ n. StandsAt n (length f.bytes) w in
    let front_cut : Cut at (b ∷ p.front) (f.gap ++ (f.bytes ++ f.rest)) [] =
    λ ys same. p.cut ys (subst (SameFront ys) (sym rest) same) ∙ ap (λ v. v ++ lexemes 0 (at + length (b ∷ p.front)) ys) none in
    record {
      gap = (b ∷ p.front) ++ f.gap;
      bytes = f.bytes;
      rest = f.rest;
      parts = ap (λ t. b ∷ t) (p.parts ∙ ap (λ r. p.front ++ r) rest ∙ sym (append_assoc p.front f.gap (f.bytes ++ f.rest)));
      gap_cut = cut_both at (b ∷ p.front) f.gap (f.bytes ++ f.rest) [] [] front_cut f.gap_cut;
      cut = subst P (sym count) f.cut;
      left = ap (λ n. lexemes 0 (n + length f.bytes) f.rest) count ∙ f.left;
      stands = subst Q (sym count) f.stands;
    }

-- the lexeme itself
at_once : (at b : ℕ) (bytes : List ℕ) (w v : Lexeme) (ws vs : List Lexeme) (p : Piece at b bytes) → p.word ≡ v ∷ vs
    → StandAt at (length (b ∷ p.front)) (v ∷ vs) → lexemes 0 at (b ∷ bytes) ≡ w ∷ ws → FirstWord at (b ∷ bytes) w ws
at_once at b bytes w v ws vs p is stands e =
    let z : at + 0 ≡ at = omega arith in
    let alone_is : p.word ≡ v ∷ [] = is ∙ ap (λ t. v ∷ t) stands.0 in
    let all : w ∷ ws ≡ v ∷ lexemes 0 (at + length (b ∷ p.front)) p.rest = sym e ∙ goes_on at b bytes p ∙ ap (λ t. t ++ lexemes 0 (at + length (b ∷ p.front)) p.rest) alone_is in
    let same : v ≡ w = cc in
    let left : lexemes 0 (at + length (b ∷ p.front)) p.rest ≡ ws = cc in
    let P : ℕ → Type 0 = λ n. Cut n (b ∷ p.front) p.rest (w ∷ []) in
    let Q : ℕ → Type 0 = λ n. StandsAt n (length (b ∷ p.front)) w in
    record {
      gap = [];
      bytes = b ∷ p.front;
      rest = p.rest;
      parts = ap (λ t. b ∷ t) p.parts;
      gap_cut = λ ys sames. ap (λ n. lexemes 0 n ys) (sym z);
      cut = subst P (sym z) (λ ys sames. p.cut ys sames ∙ ap (λ t. t ++ lexemes 0 (at + length (b ∷ p.front)) ys) (alone_is ∙ ap (λ t. t ∷ []) same));
      left = ap (λ n. lexemes 0 (n + length (b ∷ p.front)) p.rest) z ∙ left;
      stands = subst Q (sym z) (subst (StandsAt at (length (b ∷ p.front))) same stands.1);
    }

by_word : (at b : ℕ) (bytes : List ℕ) (w : Lexeme) (ws : List Lexeme) (p : Piece at b bytes) (word : List Lexeme) → p.word ≡ word → StandAt at (length (b ∷ p.front)) word →
    lexemes 0 at (b ∷ bytes) ≡ w ∷ ws → (lexemes 0 (at + length (b ∷ p.front)) p.rest ≡ w ∷ ws → FirstWord (at + length (b ∷ p.front)) p.rest w ws) → FirstWord at (b ∷ bytes) w ws
by_word at b bytes w ws p [] is stands e go =
    behind_gap at b bytes w ws p is (go (sym (goes_on at b bytes p ∙ ap (λ t. t ++ lexemes 0 (at + length (b ∷ p.front)) p.rest) is) ∙ e))
by_word at b bytes w ws p (v ∷ vs) is stands e go = at_once at b bytes w v ws vs p is stands e

no_fault_first : (w : Lexeme) (ws : List Lexeme) (fault : PlainFault) (rest : List Lexeme) → IsWhole w → w ∷ ws ≡ faulty fault ∷ rest → ⊥
no_fault_first w ws fault rest is e = let same : w ≡ faulty fault = cc in subst IsWhole same is

first_word : (fuel at : ℕ) (text : List ℕ) (w : Lexeme) (ws : List Lexeme) → length text ≤ fuel → IsWhole w → lexemes 0 at text ≡ w ∷ ws → FirstWord at text w ws
first_word fuel at [] w ws small is e = let clash : [] ≡ w ∷ ws = sym (no_words at) ∙ e in absurd (cc)
first_word zero at (b ∷ bytes) w ws small is e = absurd (omega arith)
first_word (suc fuel) at (b ∷ bytes) w ws small is e =
    elim (piece at b bytes) [
      | inl p ↦
          let fewer : length p.rest ≤ fuel = omega (arith, ap length p.parts, length-append p.front p.rest) in
          by_word at b bytes w ws p p.word refl p.stands e (λ f. first_word fuel (at + length (b ∷ p.front)) p.rest w ws fewer is f)
      | inr f ↦
          absurd (no_fault_first w ws f.0 (lexemes 0 (at + 1 + (beginning at b bytes).more) (drop (beginning at b bytes).more bytes)) is
          (sym e ∙ lexemes-begin at b bytes ∙ ap (λ t. t ++ lexemes 0 (at + 1 + (beginning at b bytes).more) (drop (beginning at b bytes).more bytes)) f.1))
    ]

-- the slice at the span spells the form
slice_spelled : (text before bytes rest : List ℕ) (at : ℕ) (form : PlainSexpr) → at ≡ length before → text ≡ before
    ++ (bytes ++ rest) → span_of form ≡ span_from at (length bytes) → Cut at bytes rest (words form) →
    IsSpelledAtSpan text form
slice_spelled text before bytes rest at form place parts span cut =
    let start : (span_of form).start ≡ at = ap (λ s. s.start) span in
    let end : (span_of form).end ≡ at + length bytes = ap (λ s. s.end) span in
    let whole : length text ≡ length before + (length bytes + length rest) = ap length parts ∙ length-append before (bytes ++ rest) ∙ ap (λ n. length before + n) (length-append bytes rest) in
    let count : at + length bytes - at ≡ length bytes = omega arith in
    let slice : bytes_at text (span_of form) ≡ bytes =
    ap (λ s. bytes_at text s) span ∙ ap (λ n. take n (drop at text)) count ∙ ap (λ n. take (length bytes) (drop n text)) place ∙ ap (λ t. take (length bytes) (drop (length before) t)) parts
    ∙ ap (take (length bytes)) (drop-append_seam before (bytes ++ rest)) ∙ take-append_seam bytes rest in
    record {
      ordered = omega (arith, start, end);
      inside = omega (arith, end, whole, place);
      spelled =
          ap (λ t. lexemes 0 (span_of form).start t) slice ∙ ap (λ n. lexemes 0 n bytes) start ∙ ap (lexemes 0 at) (sym (append-nil bytes)) ∙ cut [] tt
          ∙ ap (λ t. words form ++ t) (no_words (at + length bytes)) ∙ append-nil (words form);
    }

-- a form at the front of a text, and the gap in front of it
record FoundForm (whole : List ℕ) (at : ℕ) (text : List ℕ) (form : PlainSexpr) (ws : List Lexeme) : Type 0 where
  gap : List ℕ
  bytes : List ℕ
  rest : List ℕ
  parts : text ≡ gap ++ (bytes ++ rest)
  gap_cut : Cut at gap (bytes ++ rest) []
  cut : Cut (at + length gap) bytes rest (words form)
  left : lexemes 0 (at + length gap + length bytes) rest ≡ ws
  inside : IsAtSpan whole form

-- forms at the front of a text, with the gaps in front of them
record FoundForms (whole : List ℕ) (at : ℕ) (text : List ℕ) (forms : PlainForms) (ws : List Lexeme) : Type 0 where
  bytes : List ℕ
  rest : List ℕ
  parts : text ≡ bytes ++ rest
  cut : Cut at bytes rest (words_of forms)
  left : lexemes 0 (at + length bytes) rest ≡ ws
  inside : AreAtSpans whole forms

-- a form of one lexeme
found_leaf : (whole before text : List ℕ) (at : ℕ) (form : PlainSexpr) (ws : List Lexeme) → at ≡ length before → whole ≡ before ++ text → words form ≡ leaf form ∷ [] →
    (IsSpelledAtSpan whole form → IsAtSpan whole form) → lexemes 0 at text ≡ leaf form ∷ ws → FoundForm whole at text form ws
found_leaf whole before text at form ws place parts one inside e =
    let f = first_word (length text) at text (leaf form) ws (omega arith) tt e in
    let cut : Cut (at + length f.gap) f.bytes f.rest (words form) = λ ys same. f.cut ys same ∙ ap (λ t. t ++ lexemes 0 (at + length f.gap + length f.bytes) ys) (sym one) in
    record {
      gap = f.gap;
      bytes = f.bytes;
      rest = f.rest;
      parts = f.parts;
      gap_cut = f.gap_cut;
      cut = cut;
      left = f.left;
      inside = inside (slice_spelled whole (before ++ f.gap) f.bytes f.rest (at + length f.gap) form (omega (arith, place, length-append before f.gap))
          (parts ∙ ap (λ t. before ++ t) f.parts ∙ sym (append_assoc before f.gap (f.bytes ++ f.rest))) f.stands cut);
    }

-- a list, given its opening parenthesis, its members and its closing parenthesis
found_list : (whole before text : List ℕ) (at : ℕ) (span : Span) (forms : PlainForms) (ws : List Lexeme) → at ≡ length before → whole ≡ before ++ text →
    (f : FirstWord at text (opening span.start) ((words_of forms ++ closing span.end ∷ []) ++ ws)) →
    (m : FoundForms whole (at + length f.gap + length f.bytes) f.rest forms (closing span.end ∷ ws)) →
    (g : FirstWord (at + length f.gap + length f.bytes + length m.bytes) m.rest (closing span.end) ws) →
    FoundForm whole at text (plain_list span forms) ws
found_list whole before text at span forms ws place parts f m g =
    let tail_parts : m.rest ≡ (g.gap ++ g.bytes) ++ g.rest = g.parts ∙ sym (append_assoc g.gap g.bytes g.rest) in
    let mid_parts : f.rest ≡ (m.bytes ++ (g.gap ++ g.bytes)) ++ g.rest = m.parts ∙ ap (λ t. m.bytes ++ t) tail_parts ∙ sym (append_assoc m.bytes (g.gap ++ g.bytes) g.rest) in
    let all_parts : text ≡ f.gap ++ ((f.bytes ++ (m.bytes ++ (g.gap ++ g.bytes))) ++ g.rest) =
    f.parts ∙ ap (λ t. f.gap ++ (f.bytes ++ t)) mid_parts ∙ ap (λ t. f.gap ++ t) (sym (append_assoc f.bytes (m.bytes ++ (g.gap ++ g.bytes)) g.rest)) in
    let tail_cut : Cut (at + length f.gap + length f.bytes + length m.bytes) (g.gap ++ g.bytes) g.rest (closing span.end ∷ []) =
    cut_both (at + length f.gap + length f.bytes + length m.bytes) g.gap g.bytes g.rest [] (closing span.end ∷ []) g.gap_cut g.cut in
    let m_cut : Cut (at + length f.gap + length f.bytes) m.bytes ((g.gap ++ g.bytes) ++ g.rest) (words_of forms) = λ ys same. m.cut ys (subst (SameFront ys) (sym tail_parts) same) in
    let mid_cut : Cut (at + length f.gap + length f.bytes) (m.bytes ++ (g.gap ++ g.bytes)) g.rest (words_of forms ++ closing span.end ∷ []) =
    cut_both (at + length f.gap + length f.bytes) m.bytes (g.gap ++ g.bytes) g.rest (words_of forms) (closing span.end ∷ []) m_cut tail_cut in
    let f_cut : Cut (at + length f.gap) f.bytes ((m.bytes ++ (g.gap ++ g.bytes)) ++ g.rest) (opening span.start ∷ []) = λ ys same. f.cut ys (subst (SameFront ys) (sym mid_parts) same) in
    let cut : Cut (at + length f.gap) (f.bytes ++ (m.bytes ++ (g.gap ++ g.bytes))) g.rest (words (plain_list span forms)) =
    cut_both (at + length f.gap) f.bytes (m.bytes ++ (g.gap ++ g.bytes)) g.rest (opening span.start ∷ []) (words_of forms ++ closing span.end ∷ []) f_cut mid_cut in
    let count : length (f.bytes ++ (m.bytes ++ (g.gap ++ g.bytes))) ≡ length f.bytes + (length m.bytes + (length g.gap + length g.bytes)) =
    length-append f.bytes (m.bytes ++ (g.gap ++ g.bytes)) ∙ ap (λ n. length f.bytes + n) (length-append m.bytes (g.gap ++ g.bytes) ∙ ap (λ n. length m.bytes + n) (length-append g.gap g.bytes)) in
    let ends : span.end ≡ at + length f.gap + length (f.bytes ++ (m.bytes ++ (g.gap ++ g.bytes))) = omega (arith, g.stands, count) in
    let spans : span ≡ span_from (at + length f.gap) (length (f.bytes ++ (m.bytes ++ (g.gap ++ g.bytes)))) = span_same
    span (span_from (at + length f.gap) (length (f.bytes ++ (m.bytes ++ (g.gap ++ g.bytes))))) f.stands ends in
    let here : length (before ++ f.gap) ≡ length before + length f.gap = length-append before f.gap in
    let last : at + length f.gap + length (f.bytes ++ (m.bytes ++ (g.gap ++ g.bytes))) ≡ at + length f.gap + length f.bytes + length m.bytes + length g.gap + length g.bytes = omega (arith, count) in
    record {
      gap = f.gap;
      bytes = f.bytes ++ (m.bytes ++ (g.gap ++ g.bytes));
      rest = g.rest;
      parts = all_parts;
      gap_cut = λ ys same. f.gap_cut ys (subst (SameFront ys) (append_assoc f.bytes (m.bytes ++ (g.gap ++ g.bytes)) g.rest ∙ sym (ap (λ t. f.bytes ++ t) mid_parts)) same);
      cut = cut;
      left = ap (λ n. lexemes 0 n g.rest) last ∙ g.left;
      inside = (
        slice_spelled whole (before ++ f.gap) (f.bytes ++ (m.bytes ++ (g.gap ++ g.bytes))) g.rest (at + length f.gap) (plain_list span forms) (omega (arith, place, here))
            (parts ∙ ap (λ t. before ++ t) all_parts ∙ sym (append_assoc before f.gap ((f.bytes ++ (m.bytes ++ (g.gap ++ g.bytes))) ++ g.rest))) spans cut,
        m.inside,
      );
    }

-- a form, and the forms after it
found_both : (whole : List ℕ) (at : ℕ) (text : List ℕ) (form : PlainSexpr) (forms : PlainForms) (ws : List Lexeme) (f : FoundForm whole at text form (words_of forms ++ ws)) →
    (m : FoundForms whole (at + length f.gap + length f.bytes) f.rest forms ws) → FoundForms whole at text (forms_and form forms) ws
found_both whole at text form forms ws f m =
    let first : Cut at (f.gap ++ f.bytes) f.rest (words form) = cut_both at f.gap f.bytes f.rest [] (words form) f.gap_cut f.cut in
    let count : at + length f.gap + length f.bytes ≡ at + length (f.gap ++ f.bytes) = omega (arith, length-append f.gap f.bytes) in
    let P : ℕ → Type 0 = λ n. Cut n m.bytes m.rest (words_of forms) in
    let second : Cut (at + length (f.gap ++ f.bytes)) m.bytes m.rest (words_of forms) = subst P count m.cut in
    let first' : Cut at (f.gap ++ f.bytes) (m.bytes ++ m.rest) (words form) = λ ys same. first ys (subst (SameFront ys) (sym m.parts) same) in
    let last : at + length ((f.gap ++ f.bytes) ++ m.bytes)
    ≡ at + length f.gap + length f.bytes + length m.bytes = omega
    (arith, length-append (f.gap ++ f.bytes) m.bytes, length-append f.gap f.bytes) in
    record {
      bytes = (f.gap ++ f.bytes) ++ m.bytes;
      rest = m.rest;
      parts = f.parts ∙ sym (append_assoc f.gap f.bytes f.rest) ∙ ap (λ t. (f.gap ++ f.bytes) ++ t) m.parts ∙ sym (append_assoc (f.gap ++ f.bytes) m.bytes m.rest);
      cut = cut_both at (f.gap ++ f.bytes) m.bytes m.rest (words form) (words_of forms) first' second;
      left = ap (λ n. lexemes 0 n m.rest) last ∙ m.left;
      inside = (f.inside, m.inside);
    }

mutual
  find_form : (form : PlainSexpr) (whole before text : List ℕ) (at : ℕ) (ws : List Lexeme) → at ≡ length before → whole
      ≡ before ++ text → lexemes 0 at text ≡ words form ++ ws → FoundForm whole at text form ws
  find_form (plain_name span bytes) whole before text at ws place parts e = found_leaf whole before text at (plain_name span bytes) ws place parts refl (λ h. h) e
  find_form (plain_int span value) whole before text at ws place parts e = found_leaf whole before text at (plain_int span value) ws place parts refl (λ h. h) e
  find_form (plain_text span content) whole before text at ws place parts e = found_leaf whole before text at (plain_text span content) ws place parts refl (λ h. h) e
  find_form (plain_list span forms) whole before text at ws place parts e =
      let f = first_word (length text) at text (opening span.start) ((words_of forms ++ closing span.end ∷ []) ++ ws) (omega arith) tt e in
      let m = find_forms forms whole (before ++ (f.gap ++ f.bytes)) f.rest (at + length f.gap + length f.bytes) (closing span.end ∷ ws)
      (omega (arith, place, length-append before (f.gap ++ f.bytes), length-append f.gap f.bytes))
      (parts ∙ ap (λ t. before ++ t) (f.parts ∙ sym (append_assoc f.gap f.bytes f.rest)) ∙ sym (append_assoc before (f.gap ++ f.bytes) f.rest))
      (f.left ∙ append_assoc (words_of forms) (closing span.end ∷ []) ws) in
      let g = first_word (length m.rest) (at + length f.gap + length f.bytes + length m.bytes) m.rest (closing span.end) ws (omega arith) tt m.left in
      found_list whole before text at span forms ws place parts f m g

  find_forms : (forms : PlainForms) (whole before text : List ℕ) (at : ℕ) (ws : List Lexeme) → at ≡ length before → whole ≡ before ++ text → lexemes 0 at text ≡ words_of forms ++ ws →
      FoundForms whole at text forms ws
  find_forms no_forms whole before text at ws place parts e =
      let z : at + 0 ≡ at = omega arith in
      record {
        bytes = [];
        rest = text;
        parts = refl;
        cut = λ ys same. ap (λ n. lexemes 0 n ys) (sym z);
        left = ap (λ n. lexemes 0 n text) z ∙ e;
        inside = tt;
      }
  find_forms (forms_and form forms) whole before text at ws place parts e =
      let f = find_form form whole before text at (words_of forms ++ ws) place parts (e ∙ append_assoc (words form) (words_of forms) ws) in
      let m = find_forms forms whole (before ++ (f.gap ++ f.bytes)) f.rest (at + length f.gap + length f.bytes) ws
      (omega (arith, place, length-append before (f.gap ++ f.bytes), length-append f.gap f.bytes))
      (parts ∙ ap (λ t. before ++ t) (f.parts ∙ sym (append_assoc f.gap f.bytes f.rest)) ∙ sym (append_assoc before (f.gap ++ f.bytes) f.rest)) f.left in
      found_both whole at text form forms ws f m

pub each_at_its_span : EachAtItsSpan
each_at_its_span text forms spells =
    (find_forms (plain_forms forms) text [] text 0 [] refl refl (spells.spelled ∙ sym (append-nil (words_of (plain_forms forms))))).inside
