-- What stands before a lexeme is read by itself.
use Rattle.std.proofs.Common.{◌≡◌, ℕ, zero, suc, ◌+◌, ◌<◌, ◌≤◌, true, false, eqb, leb, List, [], ◌∷◌, ◌++◌, length}
use Rattle.std.proofs.Common.{take, drop, refl, ap, sym, ◌∙◌, subst, arith, Option, Some, None, append_assoc, inl}
use Rattle.std.proofs.Common.{inr, ◌⊎◌, ℤ}
use Rattle.std.specs.List.{list_all, prefix_len}
use Rattle.std.proofs.lemmas.Bool.Decides.{nat_tests}
use Rattle.std.proofs.lemmas.List.{length-append}
use Rattle.std.proofs.Math.Seq.{drop-append-add}
use Rattle.cml_text.specs.declared.fault.FaultKind.TheVariants.{Unclosed, Escape, Long}
use Rattle.cml_text.specs.Faults.{PlainFault}
use Rattle.cml_text.specs.FirstFaults.{IsAtFault}
use Rattle.cml_text.specs.Lexemes.{is_separator, is_comment_byte, is_token_byte, is_number, is_name, number_value}
use Rattle.cml_text.specs.Lexemes.{number_lexeme, Literal, closed, endless, no_escape, literal, Lexeme, opening}
use Rattle.cml_text.specs.Lexemes.{closing, leaf, faulty, token_lexeme, literal_lexeme, literal_more, beginning}
use Rattle.cml_text.specs.Lexemes.{lexemes}
use Rattle.cml_text.proofs.WordLemmas.{cases_test}
use Rattle.cml_text.proofs.BeginLemmas.{begin_separator, begin_opening, begin_closing, begin_text, begin_token}
use Rattle.cml_text.proofs.PrintedLemmas.{Stops}
use Rattle.cml_text.proofs.LexPrintedLemmas.{begins, begins_alone, lex_token}
use Rattle.cml_text.proofs.CutLemmas.{Run, run_of}
use Rattle.cml_text.proofs.SpanLemmas.{no_words}
use Rattle.cml_text.proofs.GrammarLemmas.{lex_comment, literal_read}
use Rattle.cml_text.proofs.GrammarFindLemmas.{line_feed, ClosedAt, closed_at}

-- no fault is among the lexemes
abbrev pub AreSound : List Lexeme → Type 0
AreSound [] = Unit {0}
AreSound (opening at ∷ ws) = AreSound ws
AreSound (closing end ∷ ws) = AreSound ws
AreSound (leaf form ∷ ws) = AreSound ws
AreSound (faulty fault ∷ ws) = ⊥

-- The text is cut before the byte at which this lexeme begins; what stands before it are these lexemes, whatever follows that ends a token.
pub record Cut (at : ℕ) (text : List ℕ) (before : List Lexeme) (word : Lexeme) : Type 0 where
  pub front : List ℕ
  pub first : ℕ
  pub behind : List ℕ
  pub parts : text ≡ front ++ first ∷ behind
  pub goes_on : (tail : List ℕ) → Stops is_token_byte tail → lexemes 0 at (front ++ tail) ≡ before ++ lexemes 0 (at + length front) tail
  pub begun : (beginning (at + length front) first behind).word ≡ word ∷ []

-- a piece in front
join : (at : ℕ) (text piece rest : List ℕ) (emits before : List Lexeme) (word : Lexeme) → text ≡ piece ++ rest → (r : Cut (at + length piece) rest before word) →
    ((tail : List ℕ) → Stops is_token_byte tail → lexemes 0 at (piece ++ (r.front ++ tail)) ≡ emits ++ lexemes 0 (at + length piece) (r.front ++ tail)) → Cut at text (emits ++ before) word
join at text piece rest emits before word parts r step =
    let place : at + length piece + length r.front ≡ at + length (piece ++ r.front) = omega (arith, length-append piece r.front) in
    record {
      front = piece ++ r.front;
      first = r.first;
      behind = r.behind;
      parts = parts ∙ ap (λ t. piece ++ t) r.parts ∙ sym (append_assoc piece r.front (r.first ∷ r.behind));
      goes_on = λ tail stop.
          ap (lexemes 0 at) (append_assoc piece r.front tail) ∙ step tail stop ∙ ap (λ ls. emits ++ ls) (r.goes_on tail stop)
          ∙ sym (append_assoc emits before (lexemes 0 (at + length piece + length r.front) tail)) ∙ ap (λ n. (emits ++ before) ++ lexemes 0 n tail) place;
      begun = subst (λ (n : ℕ). (beginning n r.first r.behind).word ≡ word ∷ []) place r.begun;
    }

abbrev Cutter : ℕ → Type 0
Cutter fuel =
    (at : ℕ) (text : List ℕ) (before : List Lexeme) (word : Lexeme) (after : List Lexeme) → length text ≤ fuel → AreSound before → lexemes 0 at text ≡ before ++ word ∷ after → Cut at text before word

sound_behind : (w : Lexeme) (ws : List Lexeme) → AreSound (w ∷ ws) → AreSound ws
sound_behind (opening at) ws h = h
sound_behind (closing end) ws h = h
sound_behind (leaf form) ws h = h
sound_behind (faulty fault) ws h = absurd h

front_stops : (front tail other rest : List ℕ) → rest ≡ front ++ other → Stops is_token_byte rest → Stops is_token_byte tail → Stops is_token_byte (front ++ tail)
front_stops [] tail other rest e stop end = end
front_stops (c ∷ front) tail other [] e stop end = absurd (cc)
front_stops (c ∷ front) tail other (d ∷ rest) e stop end = let same : d ≡ c = cc in subst (λ (k : ℕ). is_token_byte k ≡ false) same stop

-- a lexeme begins here: it is the lexeme, or one before it
worded : (fuel : ℕ) (cut : Cutter fuel) (at b : ℕ) (bytes piece rest : List ℕ) (found : Lexeme) (before : List Lexeme) (word : Lexeme) (after : List Lexeme) → length rest ≤ fuel → AreSound before →
    b ∷ bytes ≡ piece ++ rest → (beginning at b bytes).word ≡ found ∷ [] → lexemes 0 at (b ∷ bytes) ≡ found ∷ lexemes 0 (at + length piece) rest →
    ((front tail other : List ℕ) → rest ≡ front ++ other → Stops is_token_byte tail → lexemes 0 at (piece ++ (front ++ tail)) ≡ found ∷ lexemes 0 (at + length piece) (front ++ tail)) →
    lexemes 0 at (b ∷ bytes) ≡ before ++ word ∷ after → Cut at (b ∷ bytes) before word
worded fuel cut at b bytes piece rest found [] word after small sound parts begun whole step e =
    let both : found ∷ lexemes 0 (at + length piece) rest ≡ word ∷ after = sym whole ∙ e in
    let same : found ≡ word = cc in
    let place : at ≡ at + 0 = omega arith in
    record {
      front = [];
      first = b;
      behind = bytes;
      parts = refl;
      goes_on = λ tail stop. ap (λ n. lexemes 0 n tail) place;
      begun = subst (λ (n : ℕ). (beginning n b bytes).word ≡ word ∷ []) place (begun ∙ ap (λ w. w ∷ []) same);
    }
worded fuel cut at b bytes piece rest found (w ∷ before) word after small sound parts begun whole step e =
    let both : found ∷ lexemes 0 (at + length piece) rest ≡ w ∷ (before ++ word ∷ after) = sym whole ∙ e in
    let same : found ≡ w = cc in
    let left : lexemes 0 (at + length piece) rest ≡ before ++ word ∷ after = cc in
    let r = cut (at + length piece) rest before word after small (sound_behind w before sound) left in
    subst (λ (k : Lexeme). Cut at (b ∷ bytes) (k ∷ before) word) same
    (join at (b ∷ bytes) piece rest (found ∷ []) before word parts r (λ tail stop. step r.front tail (r.first ∷ r.behind) r.parts stop))

fault_sound : (fault : PlainFault) (ls before : List Lexeme) (word : Lexeme) (after : List Lexeme) → AreSound before → faulty fault ∷ ls ≡ before ++ word ∷ after → word ≡ faulty fault
fault_sound fault ls [] word after sound e = cc
fault_sound fault ls (opening at ∷ before) word after sound e = absurd (cc)
fault_sound fault ls (closing end ∷ before) word after sound e = absurd (cc)
fault_sound fault ls (leaf form ∷ before) word after sound e = absurd (cc)
fault_sound fault ls (faulty other ∷ before) word after sound e = absurd sound

fault_alone : (fault : PlainFault) (ls before : List Lexeme) (word : Lexeme) (after : List Lexeme) → AreSound before → faulty fault ∷ ls ≡ before ++ word ∷ after → before ≡ []
fault_alone fault ls [] word after sound e = refl
fault_alone fault ls (opening at ∷ before) word after sound e = absurd (cc)
fault_alone fault ls (closing end ∷ before) word after sound e = absurd (cc)
fault_alone fault ls (leaf form ∷ before) word after sound e = absurd (cc)
fault_alone fault ls (faulty other ∷ before) word after sound e = absurd sound

-- a fault begins here: it is the lexeme
faulted : (at b more : ℕ) (bytes : List ℕ) (fault : PlainFault) (before : List Lexeme) (word : Lexeme) (after : List Lexeme) → AreSound before →
    beginning at b bytes ≡ record { word = faulty fault ∷ []; more = more } → lexemes 0 at (b ∷ bytes) ≡ before ++ word ∷ after → Cut at (b ∷ bytes) before word
faulted at b more bytes fault before word after sound begin e =
    let words : faulty fault ∷ lexemes 0 (at + 1 + more) (drop more bytes) ≡ before ++ word ∷ after = sym (begins at b more bytes (faulty fault ∷ []) begin) ∙ e in
    let none : before ≡ [] = fault_alone fault (lexemes 0 (at + 1 + more) (drop more bytes)) before word after sound words in
    let same : word ≡ faulty fault = fault_sound fault (lexemes 0 (at + 1 + more) (drop more bytes)) before word after sound words in
    let place : at ≡ at + 0 = omega arith in
    subst (λ (ws : List Lexeme). Cut at (b ∷ bytes) ws word) (sym none)
    (record {
      front = [];
      first = b;
      behind = bytes;
      parts = refl;
      goes_on = λ tail stop. ap (λ n. lexemes 0 n tail) place;
      begun = subst (λ (n : ℕ). (beginning n b bytes).word ≡ word ∷ []) place (ap (λ g. g.word) begin ∙ ap (λ w. w ∷ []) (sym same));
    })

feed_step : (at : ℕ) (bytes rest : List ℕ) → list_all is_comment_byte bytes ≡ true →
    lexemes 0 at ((59 ∷ (bytes ++ 10 ∷ [])) ++ rest) ≡ lexemes 0 (at + length (59 ∷ (bytes ++ 10 ∷ []))) rest
feed_step at bytes rest none =
    let place : at + 1 + length bytes + 1 ≡ at + length (59 ∷ (bytes ++ 10 ∷ [])) = omega (arith, length-append bytes (10 ∷ [])) in
    ap (λ t. lexemes 0 at (59 ∷ t)) (append_assoc bytes (10 ∷ []) rest) ∙ lex_comment at bytes (10 ∷ rest) none refl
    ∙ begins_alone (at + 1 + length bytes) 10 rest [] (begin_separator (at + 1 + length bytes) 10 rest refl) ∙ ap (λ n. lexemes 0 n rest) place

cut_comment : (fuel : ℕ) (cut : Cutter fuel) (at : ℕ) (text bytes rest : List ℕ) (before : List Lexeme) (word : Lexeme) (after : List Lexeme) → length text ≤ suc fuel → AreSound before →
    text ≡ 59 ∷ (bytes ++ rest) → list_all is_comment_byte bytes ≡ true → Stops is_comment_byte rest → lexemes 0 at text ≡ before ++ word ∷ after → Cut at text before word
cut_comment fuel cut at text bytes [] [] word after small sound parts none stop e =
    let empty : [] ≡ word ∷ after = sym (ap (lexemes 0 at) parts ∙ lex_comment at bytes [] none tt ∙ no_words (at + 1 + length bytes)) ∙ e in absurd (cc)
cut_comment fuel cut at text bytes [] (w ∷ before) word after small sound parts none stop e =
    let empty : [] ≡ w ∷ (before ++ word ∷ after) = sym (ap (lexemes 0 at) parts ∙ lex_comment at bytes [] none tt ∙ no_words (at + 1 + length bytes)) ∙ e in absurd (cc)
cut_comment fuel cut at text bytes (c ∷ rest) before word after small sound parts none stop e =
    let is : c ≡ 10 = line_feed c stop in
    let piece : List ℕ = 59 ∷ (bytes ++ 10 ∷ []) in
    let parts' : text ≡ piece ++ rest = parts ∙ ap (λ k. 59 ∷ (bytes ++ k ∷ rest)) is ∙ ap (λ t. 59 ∷ t) (sym (append_assoc bytes (10 ∷ []) rest)) in
    let left : lexemes 0 (at + length piece) rest ≡ before ++ word ∷ after = sym (ap (lexemes 0 at) parts' ∙ feed_step at bytes rest none) ∙ e in
    let fewer : length rest ≤ fuel = omega (arith, ap length parts', length-append piece rest) in
    let r = cut (at + length piece) rest before word after fewer sound left in
    join at text piece rest [] before word parts' r (λ tail stops. feed_step at bytes (r.front ++ tail) none)

literal_step : (at : ℕ) (spelling content rest : List ℕ) → leb (length content) 4096 ≡ true → literal (spelling ++ 34 ∷ rest) ≡ closed content (length spelling + 1) →
    lexemes 0 at ((34 ∷ (spelling ++ 34 ∷ [])) ++ rest) ≡ literal_lexeme at (closed content (length spelling + 1)) ∷ lexemes 0 (at + length (34 ∷ (spelling ++ 34 ∷ []))) rest
literal_step at spelling content rest fits found =
    let n : ℕ = length spelling + 1 in
    let place : at + 1 + n ≡ at + length (34 ∷ (spelling ++ 34 ∷ [])) = omega (arith, length-append spelling (34 ∷ [])) in
    let word : Lexeme = literal_lexeme at (closed content n) in
    let begin : beginning at 34 (spelling ++ 34 ∷ rest) ≡ record { word = word ∷ []; more = n } =
    begin_text at 34 (spelling ++ 34 ∷ rest) refl ∙ ap (λ l. record { word = literal_lexeme at l ∷ []; more = literal_more l }) found in
    ap (λ t. lexemes 0 at (34 ∷ t)) (append_assoc spelling (34 ∷ []) rest) ∙ begins at 34 n (spelling ++ 34 ∷ rest) (word ∷ []) begin
    ∙ ap (λ r. word ∷ lexemes 0 (at + 1 + n) r) (drop-append-add spelling (34 ∷ rest) 1) ∙ ap (λ k. word ∷ lexemes 0 k rest) place

cut_closed : (fuel : ℕ) (cut : Cutter fuel) (at : ℕ) (bytes content : List ℕ) (more : ℕ) (before : List Lexeme)
    (word : Lexeme) (after : List Lexeme) → length (34 ∷ bytes) ≤ suc fuel → AreSound before →
    literal bytes ≡ closed content more → leb (length content) 4096 ≡ true → lexemes 0 at (34 ∷ bytes) ≡ before ++ word ∷ after → Cut at (34 ∷ bytes) before word
cut_closed fuel cut at bytes content more before word after small sound found fits e =
    let l : ClosedAt bytes content more = closed_at bytes content more found in
    let piece : List ℕ = 34 ∷ (l.spelling ++ 34 ∷ []) in
    let parts : 34 ∷ bytes ≡ piece ++ l.rest = ap (λ t. 34 ∷ t) (l.parts ∙ sym (append_assoc l.spelling (34 ∷ []) l.rest)) in
    let fewer : length l.rest ≤ fuel = omega (arith, ap length l.parts, length-append l.spelling (34 ∷ l.rest)) in
    let whole : lexemes 0 at (34 ∷ bytes) ≡ literal_lexeme at (closed content (length l.spelling + 1)) ∷ lexemes 0 (at + length piece) l.rest =
    ap (lexemes 0 at) parts ∙ literal_step at l.spelling content l.rest fits (literal_read l.spelling content l.rest l.stands) in
    let begun : (beginning at 34 bytes).word ≡ literal_lexeme at (closed content (length l.spelling + 1)) ∷ [] =
    ap (λ g. g.word) (begin_text at 34 bytes refl) ∙ ap (λ k. literal_lexeme at k ∷ []) (found ∙ ap (closed content) l.count) in
    worded fuel cut at 34 bytes piece l.rest (literal_lexeme at (closed content (length l.spelling + 1))) before word after fewer sound parts begun whole
    (λ front tail other same stop. literal_step at l.spelling content (front ++ tail) fits (literal_read l.spelling content (front ++ tail) l.stands)) e

cut_quote : (fuel : ℕ) (cut : Cutter fuel) (at : ℕ) (bytes : List ℕ) (l : Literal) (before : List Lexeme) (word : Lexeme) (after : List Lexeme) → length (34 ∷ bytes) ≤ suc fuel → AreSound before →
    literal bytes ≡ l → lexemes 0 at (34 ∷ bytes) ≡ before ++ word ∷ after → Cut at (34 ∷ bytes) before word
cut_quote fuel cut at bytes (closed content more) before word after small sound found e =
    elim (cases_test (leb (length content) 4096)) [
      | inl fits ↦ cut_closed fuel cut at bytes content more before word after small sound found fits e
      | inr long ↦
          faulted at 34 more bytes (record { kind = Long; at = at }) before word after sound
          (begin_text at 34 bytes refl ∙ ap (λ k. record { word = literal_lexeme at k ∷ []; more = literal_more k }) found ∙ rw long refl) e
    ]
cut_quote fuel cut at bytes endless before word after small sound found e =
    faulted at 34 0 bytes (record { kind = Unclosed; at = at }) before word after sound
    (begin_text at 34 bytes refl ∙ ap (λ k. record { word = literal_lexeme at k ∷ []; more = literal_more k }) found) e
cut_quote fuel cut at bytes (no_escape place) before word after small sound found e =
    faulted at 34 0 bytes (record { kind = Escape; at = at + 1 + place }) before word after sound
    (begin_text at 34 bytes refl ∙ ap (λ k. record { word = literal_lexeme at k ∷ []; more = literal_more k }) found) e

cut_token : (fuel : ℕ) (cut : Cutter fuel) (at b : ℕ) (bytes : List ℕ) (r : Run is_token_byte bytes)
    (before : List Lexeme) (word : Lexeme) (after : List Lexeme) → length (b ∷ bytes) ≤ suc fuel → AreSound before →
    is_token_byte b ≡ true → lexemes 0 at (b ∷ bytes) ≡ before ++ word ∷ after → Cut at (b ∷ bytes) before word
cut_token fuel cut at b bytes r before word after small sound passes e =
    let piece : List ℕ = b ∷ r.front in
    let some : 0 < length piece = omega arith in
    let parts : b ∷ bytes ≡ piece ++ r.rest = ap (λ t. b ∷ t) r.parts in
    let all : list_all is_token_byte piece ≡ true = rw passes r.all in
    let begun : (beginning at b bytes).word ≡ token_lexeme at piece ∷ [] = ap (λ g. g.word) (begin_token at b bytes passes) ∙ ap (λ t. token_lexeme at (b ∷ t) ∷ []) r.taken in
    let whole : lexemes 0 at (b ∷ bytes) ≡ token_lexeme at piece ∷ lexemes 0 (at + length piece) r.rest = ap (lexemes 0 at) parts ∙ lex_token at piece r.rest some all r.stop in
    let fewer : length r.rest ≤ fuel = omega (arith, ap length r.parts, length-append r.front r.rest) in
    worded fuel cut at b bytes piece r.rest (token_lexeme at piece) before word after fewer sound parts begun whole
    (λ front tail other same stop. lex_token at piece (front ++ tail) some all (front_stops front tail other r.rest same r.stop stop)) e

one_step : (at b : ℕ) (bytes : List ℕ) (found : Lexeme) → beginning at b bytes ≡ record { word = found ∷ []; more = 0 } → lexemes 0 at (b ∷ bytes) ≡ found ∷ lexemes 0 (at + length (b ∷ [])) bytes
one_step at b bytes found begin = begins_alone at b bytes (found ∷ []) begin

cut_first : (fuel : ℕ) (cut : Cutter fuel) (at b : ℕ) (bytes : List ℕ) (before : List Lexeme) (word : Lexeme) (after : List Lexeme) → length (b ∷ bytes) ≤ suc fuel → AreSound before →
    lexemes 0 at (b ∷ bytes) ≡ before ++ word ∷ after → Cut at (b ∷ bytes) before word
cut_first fuel cut at b bytes before word after small sound e =
    elim (cases_test (is_separator b)) [
      | inl t ↦
          let step : (rest : List ℕ) → lexemes 0 at (b ∷ rest) ≡ lexemes 0 (at + 1) rest = λ rest. begins_alone at b rest [] (begin_separator at b rest t) in
          let r = cut (at + 1) bytes before word after (omega arith) sound (sym (step bytes) ∙ e) in
          join at (b ∷ bytes) (b ∷ []) bytes [] before word refl r (λ tail stop. step (r.front ++ tail))
      | inr t ↦
          elim (cases_test (eqb b 59)) [
            | inl t1 ↦
                let is : b ≡ 59 = grind (arith, nat_tests) in
                let r : Run is_comment_byte bytes = run_of is_comment_byte bytes in
                cut_comment fuel cut at (b ∷ bytes) r.front r.rest before word after small sound (ap (λ k. k ∷ bytes) is ∙ ap (λ t. 59 ∷ t) r.parts) r.all r.stop e
            | inr t1 ↦
                elim (cases_test (eqb b 40)) [
                  | inl t2 ↦
                      let is : b ≡ 40 = grind (arith, nat_tests) in
                      worded fuel cut at b bytes (b ∷ []) bytes (opening at) before word after (omega arith) sound refl
                      (ap (λ g. g.word) (begin_opening at b bytes is))
                      (one_step at b bytes (opening at) (begin_opening at b bytes is))
                      (λ front tail other same stop. one_step at b (front ++ tail) (opening at) (begin_opening at b (front ++ tail) is)) e
                  | inr t2 ↦
                      elim (cases_test (eqb b 41)) [
                        | inl t3 ↦
                            let is : b ≡ 41 = grind (arith, nat_tests) in
                            worded fuel cut at b bytes (b ∷ []) bytes (closing (at + 1)) before word after (omega arith)
                            sound refl (ap (λ g. g.word) (begin_closing at b bytes is))
                            (one_step at b bytes (closing (at + 1)) (begin_closing at b bytes is))
                            (λ front tail other same stop. one_step at b (front ++ tail) (closing (at + 1)) (begin_closing at b (front ++ tail) is)) e
                        | inr t3 ↦
                            elim (cases_test (eqb b 34)) [
                              | inl t4 ↦
                                  let is : 34 ≡ b = grind (arith, nat_tests) in
                                  let e' : lexemes 0 at (34 ∷ bytes) ≡ before ++ word ∷ after = ap (λ k. lexemes 0 at (k ∷ bytes)) is ∙ e in
                                  subst (λ (k : ℕ). Cut at (k ∷ bytes) before word) is (cut_quote fuel cut at bytes (literal bytes) before word after small sound refl e')
                              | inr t4 ↦
                                  let passes : is_token_byte b ≡ true = rw t (rw t2 (rw t3 (rw t4 (rw t1 refl)))) in
                                  let r : Run is_token_byte bytes = run_of is_token_byte bytes in
                                  cut_token fuel cut at b bytes r before word after small sound passes e
                            ]
                      ]
                ]
          ]
    ]

pub cut : (fuel : ℕ) → Cutter fuel
cut fuel at [] [] word after small sound e = let empty : [] ≡ word ∷ after = sym (no_words at) ∙ e in absurd (cc)
cut fuel at [] (w ∷ before) word after small sound e = let empty : [] ≡ w ∷ (before ++ word ∷ after) = sym (no_words at) ∙ e in absurd (cc)
cut zero at (b ∷ bytes) before word after small sound e = absurd (omega arith)
cut (suc fuel) at (b ∷ bytes) before word after small sound e =
    cut_first fuel (λ at' text' before' word' after' small' sound' e'. cut fuel at' text' before' word' after' small' sound' e') at b bytes before word after small sound e

-- the fault of a lexeme that begins at a place stands there, or after it in a literal
abbrev pub Place : ℕ → PlainFault → Type 0
Place at fault = (fault.at ≡ at) ⊎ ((fault.kind ≡ Escape) × (at < fault.at))

abbrev pub Places : ℕ → List Lexeme → Type 0
Places at [] = Unit {0}
Places at (w ∷ ws) = (fault : PlainFault) → IsAtFault w fault → Place at fault

number_places : (at : ℕ) (token : List ℕ) (value : Option ℤ) → Places at (number_lexeme at token value ∷ [])
number_places at token None = λ fault is. inl (ap (λ f. f.at) is)
number_places at token (Some value) = λ fault is. absurd is

token_places : (at : ℕ) (token : List ℕ) → Places at (token_lexeme at token ∷ [])
unfolding token_lexeme
token_places at token =
    elim (cases_test (is_number token)) [
      | inl e ↦ rw e (number_places at token (number_value token))
      | inr e ↦ elim (cases_test (is_name token)) [ inl e2 ↦ rw (e, e2) (λ fault is. absurd is) | inr e2 ↦ rw (e, e2) (λ fault is. inl (ap (λ f. f.at) is)) ]
    ]

literal_places : (at : ℕ) (l : Literal) → Places at (literal_lexeme at l ∷ [])
literal_places at (closed content more) = elim (cases_test (leb (length content) 4096)) [ inl e ↦ rw e (λ fault is. absurd is) | inr e ↦ rw e (λ fault is. inl (ap (λ f. f.at) is)) ]
literal_places at endless = λ fault is. inl (ap (λ f. f.at) is)
literal_places at (no_escape place) = λ fault is. inr (ap (λ f. f.kind) is, omega (arith, ap (λ f. f.at) is))

pub beginning_places : (at b : ℕ) (bytes : List ℕ) → Places at (beginning at b bytes).word
unfolding beginning
beginning_places at b bytes =
    elim (cases_test (is_separator b)) [
      | inl e ↦ rw e tt
      | inr e ↦
          elim (cases_test (eqb b 59)) [
            | inl e1 ↦ rw (e, e1) tt
            | inr e1 ↦
                elim (cases_test (eqb b 40)) [
                  | inl e2 ↦ rw (e, e1, e2) (λ fault is. inl (ap (λ f. f.at) is))
                  | inr e2 ↦
                      elim (cases_test (eqb b 41)) [
                        | inl e3 ↦ rw (e, e1, e2, e3) (λ fault is. inl (omega (arith, ap (λ f. f.at) is)))
                        | inr e3 ↦
                            elim (cases_test (eqb b 34)) [
                              | inl e4 ↦ rw (e, e1, e2, e3, e4) (literal_places at (literal bytes))
                              | inr e4 ↦ rw (e, e1, e2, e3, e4) (token_places at (b ∷ take (prefix_len is_token_byte bytes) bytes))
                            ]
                      ]
                ]
          ]
    ]
