-- The first fault is the first lexeme that no forms are spelled with.
use Rattle.std.proofs.Common.{◌≡◌, ◌≢◌, ℕ, ◌+◌, ◌-◌, ltb, List, [], ◌∷◌, ◌++◌, length, map, refl, ap, sym, ◌∙◌, subst, arith, Some, None, append_assoc, inl, inr, ◌⊎◌}
use Rattle.cml_text.specs.declared.fault.FaultKind.TheVariants.{Unclosed, Deep, Stray}
use Rattle.cml_text.specs.Faults.{PlainFault}
use Rattle.cml_text.specs.FirstFaults.{CanBeClosed, CannotGoOn, IsAtFault, IsFirstFault, CanBeCompleted, StandsBefore}
use Rattle.cml_text.specs.Lexemes.{is_token_byte, Lexeme, opening, closing, leaf, faulty, lexemes}
use Rattle.cml_text.specs.Texts.{words_of, first_fault}
use Rattle.cml_text.specs.Laws.{FaultIsFirst, BeforeFaultIsBegun}
use Rattle.cml_text.proofs.WordLemmas.{cases_test}
use Rattle.cml_text.proofs.TextLemmas.{no_fault, not_deep}
use Rattle.cml_text.proofs.AnswerLemmas.{fault_left, fault_clash}
use Rattle.cml_text.proofs.BeginLemmas.{begin_closing}
use Rattle.cml_text.proofs.PrintedLemmas.{Stops}
use Rattle.cml_text.proofs.LexPrintedLemmas.{begins_alone}
use Rattle.cml_text.proofs.SpanLemmas.{no_words}
use Rattle.cml_text.proofs.GrammarFindLemmas.{given_forms}
use Rattle.cml_text.proofs.PrefixLemmas.{AreSound, cut, Place, Places, beginning_places}
use Rattle.cml_text.proofs.WholeLemmas.{AreLeaves, leaves-append, lexemes_leaves, Closes, closes}

-- where the fault was met, and which lists were open there
record Met (opens : List ℕ) (ws : List Lexeme) (fault : PlainFault) : Type 0 where
  before : List Lexeme
  word : Lexeme
  behind : List Lexeme
  still : List ℕ
  parts : ws ≡ before ++ word ∷ behind
  passes : (rest : List Lexeme) → first_fault (before ++ rest) opens ≡ first_fault rest still
  fails : (rest : List Lexeme) → first_fault (word ∷ rest) still ≡ Some fault
  is : IsAtFault word fault
  sound : AreSound before

-- or it was met at the end
record MetLast (opens : List ℕ) (ws : List Lexeme) (fault : PlainFault) : Type 0 where
  still : List ℕ
  passes : (rest : List Lexeme) → first_fault (ws ++ rest) opens ≡ first_fault rest still
  kind : fault.kind ≡ Unclosed

abbrev Meets : List ℕ → List Lexeme → PlainFault → Type 0
Meets opens ws fault = Met opens ws fault ⊎ MetLast opens ws fault

here : (opens : List ℕ) (word : Lexeme) (ws : List Lexeme) (fault : PlainFault)
    → ((rest : List Lexeme) → first_fault (word ∷ rest) opens ≡ Some fault) → IsAtFault word fault
    → Meets opens (word ∷ ws) fault
here opens word ws fault fails is =
    inl (record { before = []; word = word; behind = ws; still = opens; parts = refl; passes = λ rest. refl; fails = fails; is = is; sound = tt })

later : (opens mid : List ℕ) (word : Lexeme) (ws : List Lexeme) (fault : PlainFault)
    → ((before : List Lexeme) → AreSound before → AreSound (word ∷ before))
    → ((rest : List Lexeme) → first_fault (word ∷ rest) opens ≡ first_fault rest mid) → Meets mid ws fault
    → Meets opens (word ∷ ws) fault
later opens mid word ws fault keeps step (inl m) =
    inl (record {
      before = word ∷ m.before;
      word = m.word;
      behind = m.behind;
      still = m.still;
      parts = ap (λ t. word ∷ t) m.parts;
      passes = λ rest. step (m.before ++ rest) ∙ m.passes rest;
      fails = m.fails;
      is = m.is;
      sound = keeps m.before m.sound;
    })
later opens mid word ws fault keeps step (inr m) = inr (record { still = m.still; passes = λ rest. step (ws ++ rest) ∙ m.passes rest; kind = m.kind })

same_fault : (found fault : PlainFault) → Some found ≡ Some fault → fault ≡ found
same_fault found fault e = cc

meets : (ws : List Lexeme) (opens : List ℕ) (fault : PlainFault) → first_fault ws opens ≡ Some fault → Meets opens ws fault
meets [] [] fault e = let clash : None ≡ Some fault = e in absurd (cc)
meets [] (start ∷ opens) fault e =
    let same : fault ≡ record { kind = Unclosed; at = start } = same_fault (record { kind = Unclosed; at = start }) fault e in
    inr (record { still = start ∷ opens; passes = λ rest. refl; kind = ap (λ f. f.kind) same })
meets (opening at ∷ ws) opens fault e =
    elim (cases_test (ltb (length opens) 256)) [
      | inl t ↦
          let e' : first_fault ws (at ∷ opens) ≡ Some fault = rw t at e in
          later opens (at ∷ opens) (opening at) ws fault (λ before h. h) (λ rest. rw t refl) (meets ws (at ∷ opens) fault e')
      | inr t ↦
          let e' : Some (record { kind = Deep; at = at }) ≡ Some fault = rw t at e in
          here opens (opening at) ws fault (λ rest. rw t e') (same_fault (record { kind = Deep; at = at }) fault e')
    ]
meets (closing end ∷ ws) [] fault e = here [] (closing end) ws fault (λ rest. e) (same_fault (record { kind = Stray; at = end - 1 }) fault e)
meets (closing end ∷ ws) (start ∷ opens) fault e = later (start ∷ opens) opens (closing end) ws fault (λ before h. h) (λ rest. refl) (meets ws opens fault e)
meets (leaf form ∷ ws) opens fault e = later opens opens (leaf form) ws fault (λ before h. h) (λ rest. refl) (meets ws opens fault e)
meets (faulty found ∷ ws) opens fault e = here opens (faulty found) ws fault (λ rest. e) (same_fault found fault e)

-- closing parentheses for the lists that are open
closed_all : (opens : List ℕ) → first_fault (map closing opens) opens ≡ None
closed_all [] = refl
closed_all (start ∷ opens) = closed_all opens

closing_leaves : (ends : List ℕ) → AreLeaves (map closing ends)
closing_leaves [] = tt
closing_leaves (end ∷ ends) = closing_leaves ends

leaves_front : (front back : List Lexeme) → AreLeaves (front ++ back) → AreLeaves front
leaves_front [] back h = tt
leaves_front (opening at ∷ front) back h = leaves_front front back h
leaves_front (closing end ∷ front) back h = leaves_front front back h
leaves_front (leaf form ∷ front) back h = (h.0, leaves_front front back h.1)
leaves_front (faulty fault ∷ front) back h = leaves_front front back h

can_be_closed : (before : List Lexeme) (still : List ℕ) → AreLeaves before → ((rest : List Lexeme) → first_fault (before ++ rest) [] ≡ first_fault rest still) → CanBeClosed before
can_be_closed before still leaves passes =
    let none : first_fault (before ++ map closing still) [] ≡ None = passes (map closing still) ∙ closed_all still in
    let c : Closes [] (before ++ map closing still) = closes (before ++ map closing still) [] (leaves-append before (map closing still) leaves (closing_leaves still)) none in
    record { ends = still; forms = c.0; spelled = c.1; shallow = not_deep c.0 (ap (λ ws. first_fault ws []) (sym c.1) ∙ none) }

cannot_go_on : (before : List Lexeme) (word : Lexeme) (still : List ℕ) (fault : PlainFault) → ((rest : List Lexeme) → first_fault (before ++ rest) [] ≡ first_fault rest still) →
    ((rest : List Lexeme) → first_fault (word ∷ rest) still ≡ Some fault) → CannotGoOn (before ++ word ∷ [])
cannot_go_on before word still fault passes fails rest forms shallow e =
    let met : first_fault (words_of forms) [] ≡ Some fault =
    ap (λ ws. first_fault ws []) (sym e ∙ append_assoc before (word ∷ []) rest) ∙ passes (word ∷ rest) ∙ fails rest in
    fault_clash (first_fault (words_of forms) []) fault (no_fault forms shallow) met

first_or_last : (ws : List Lexeme) (fault : PlainFault) → AreLeaves ws → Meets [] ws fault → IsFirstFault ws fault ⊎ (CanBeClosed ws × (fault.kind ≡ Unclosed))
first_or_last ws fault leaves (inl m) =
    inl (record {
      before = m.before;
      word = m.word;
      behind = m.behind;
      parts = m.parts;
      begun = can_be_closed m.before m.still (leaves_front m.before (m.word ∷ m.behind) (subst AreLeaves m.parts leaves)) m.passes;
      refused = cannot_go_on m.before m.word m.still fault m.passes m.fails;
      is = m.is;
    })
first_or_last ws fault leaves (inr m) = inr (can_be_closed ws m.still leaves m.passes, m.kind)

pub fault_is_first : FaultIsFirst
fault_is_first text fault short utf8 is =
    first_or_last (lexemes 0 0 text) fault (lexemes_leaves 0 0 text) (meets (lexemes 0 0 text) [] fault (sym (fault_left text short utf8) ∙ is))

-- The bytes before the lexeme at fault.

abbrev ends_from : ℕ → List ℕ → List ℕ
ends_from at [] = []
ends_from at (start ∷ opens) = (at + 1) ∷ ends_from (at + 1) opens

lex_closings : (at : ℕ) (opens : List ℕ) → lexemes 0 at (map (λ start. 41) opens) ≡ map closing (ends_from at opens)
lex_closings at [] = no_words at
lex_closings at (start ∷ opens) =
    begins_alone at 41 (map (λ start. 41) opens) (closing (at + 1) ∷ []) (begin_closing at 41 (map (λ start. 41) opens) refl) ∙ ap (λ ls. closing (at + 1) ∷ ls) (lex_closings (at + 1) opens)

ends_close : (at : ℕ) (opens : List ℕ) → first_fault (map closing (ends_from at opens)) opens ≡ None
ends_close at [] = refl
ends_close at (start ∷ opens) = ends_close (at + 1) opens

closings_stop : (opens : List ℕ) → Stops is_token_byte (map (λ start. 41) opens)
closings_stop [] = tt
closings_stop (start ∷ opens) = refl

completed : (front : List ℕ) (before : List Lexeme) (still : List ℕ) → AreLeaves before → ((rest : List Lexeme) → first_fault (before ++ rest) [] ≡ first_fault rest still) →
    ((tail : List ℕ) → Stops is_token_byte tail → lexemes 0 0 (front ++ tail) ≡ before ++ lexemes 0 (0 + length front) tail) → CanBeCompleted front
completed front before still leaves passes goes_on =
    let at : ℕ = 0 + length front in
    let ws : List Lexeme = before ++ map closing (ends_from at still) in
    let read : lexemes 0 0 (front ++ map (λ start. 41) still) ≡ ws = goes_on (map (λ start. 41) still) (closings_stop still) ∙ ap (λ ls. before ++ ls) (lex_closings at still) in
    let none : first_fault ws [] ≡ None = passes (map closing (ends_from at still)) ∙ ends_close at still in
    let c : Closes [] ws = closes ws [] (leaves-append before (map closing (ends_from at still)) leaves (closing_leaves (ends_from at still))) none in
    record {
      opens = still;
      forms = c.0;
      given = given_forms (front ++ map (λ start. 41) still) c.0 (read ∙ c.1);
      shallow = not_deep c.0 (ap (λ ls. first_fault ls []) (sym c.1) ∙ none);
    }

before_by : (text : List ℕ) (fault : PlainFault) → AreLeaves (lexemes 0 0 text) → fault.kind ≢ Unclosed → Meets [] (lexemes 0 0 text) fault → StandsBefore text fault
before_by text fault leaves not_last (inr m) = absurd (not_last m.kind)
before_by text fault leaves not_last (inl m) =
    let c = cut (length text) 0 text m.before m.word m.behind (omega arith) m.sound m.parts in
    let placed : Places (0 + length c.front) (m.word ∷ []) = subst (Places (0 + length c.front)) c.begun (beginning_places (0 + length c.front) c.first c.behind) in
    let none : 0 + length c.front ≡ length c.front = omega arith in
    record {
      front = c.front;
      behind = c.first ∷ c.behind;
      parts = c.parts;
      begun = completed c.front m.before m.still (leaves_front m.before (m.word ∷ m.behind) (subst AreLeaves m.parts leaves)) m.passes c.goes_on;
      place = subst (λ (n : ℕ). Place n fault) none (placed fault m.is);
    }

pub before_fault_is_begun : BeforeFaultIsBegun
before_fault_is_begun text fault short utf8 is not_last =
    before_by text fault (lexemes_leaves 0 0 text) not_last (meets (lexemes 0 0 text) [] fault (sym (fault_left text short utf8) ∙ is))
