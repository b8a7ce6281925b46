-- What the lexemes of a text spell is what the grammar gives it.
use Rattle.std.proofs.Common.{◌≡◌, ◌≢◌, ℕ, zero, suc, ◌+◌, ◌<◌, ◌≤◌, Bool, true, false, not, eqb, leb, List, []}
use Rattle.std.proofs.Common.{◌∷◌, ◌++◌, length, drop, refl, ap, sym, ◌∙◌, subst, arith, Option, Some, None}
use Rattle.std.proofs.Common.{append_assoc, inl, inr, ℤ}
use Rattle.std.specs.List.{list_all}
use Rattle.std.proofs.lemmas.Bool.{false≢true}
use Rattle.std.proofs.lemmas.Bool.Decides.{nat_tests}
use Rattle.std.proofs.lemmas.List.{append-nil, length-append}
use Rattle.std.proofs.Math.Seq.{drop-append-add}
use Rattle.cml_text.specs.declared.sexpr.Span.{Span}
use Rattle.cml_text.specs.declared.fault.FaultKind.TheVariants.{Long, Character}
use Rattle.cml_text.specs.Faults.{PlainFault}
use Rattle.cml_text.specs.Forms.{PlainSexpr, plain_name, plain_int, plain_text, plain_list, PlainForms, no_forms, forms_and, plain_forms}
use Rattle.cml_text.specs.Lexemes.{is_separator, is_delimiter, is_comment_byte, is_token_byte, is_number}
use Rattle.cml_text.specs.Lexemes.{number_value, is_name, is_plain, unescaped, number_lexeme, Literal, closed}
use Rattle.cml_text.specs.Lexemes.{endless, no_escape, literal, Lexeme, opening, closing, leaf, faulty, span_from}
use Rattle.cml_text.specs.Lexemes.{token_lexeme, literal_lexeme, literal_more, beginning, lexemes}
use Rattle.cml_text.specs.Texts.{words_of}
use Rattle.cml_text.specs.Grammar.{Ending, whole_text, inside_list, EndsOrDelimits, StandsFor, Gives}
use Rattle.cml_text.specs.Laws.{SpellsByTheGrammar}
use Rattle.cml_text.proofs.WordLemmas.{cases_test}
use Rattle.cml_text.proofs.ClassLemmas.{test_separates, test_delimits, test_undivided, test_numeral, test_name, test_escape}
use Rattle.cml_text.proofs.LiteralLemmas.{literal_plain, literal_quote, literal_end, literal_lone}
use Rattle.cml_text.proofs.BeginLemmas.{lexemes-begin, begin_separator, begin_opening, begin_closing, begin_text}
use Rattle.cml_text.proofs.PrintedLemmas.{Stops}
use Rattle.cml_text.proofs.LexPrintedLemmas.{begins, begins_alone, lex_token}
use Rattle.cml_text.proofs.TextLemmas.{span_same}
use Rattle.cml_text.proofs.CutLemmas.{Run, run_of, front_inverse, escape_inverse, literal_backslash}
use Rattle.cml_text.proofs.SpanLemmas.{no_words}
use Rattle.cml_text.proofs.GrammarLemmas.{StandsBehind, lex_comment, lex_given}

-- what comes after the lexemes of a text
abbrev EndsAs : Ending → List Lexeme → Type 0
EndsAs whole_text ws = ws ≡ []
EndsAs inside_list ws = (end : ℕ) × ((more : List Lexeme) × (ws ≡ closing end ∷ more))

-- the text begins with one to which the grammar gives these forms
record Found (ending : Ending) (at : ℕ) (text : List ℕ) (forms : PlainForms) (ws : List Lexeme) : Type 0 where
  front : List ℕ
  rest : List ℕ
  parts : text ≡ front ++ rest
  given : Gives ending at front forms
  left : lexemes 0 (at + length front) rest ≡ ws
  stands : StandsBehind ending rest

abbrev Finder : ℕ → Type 0
Finder fuel =
    (ending : Ending) (at : ℕ) (text : List ℕ) (forms : PlainForms) (ws : List Lexeme) → length text ≤ fuel
    → EndsAs ending ws → lexemes 0 at text ≡ words_of forms ++ ws → Found ending at text forms ws

-- Which forms the lexemes begin with.

no_words_first : (ending : Ending) (forms : PlainForms) (ws : List Lexeme) → EndsAs ending ws → [] ≡ words_of forms ++ ws → (forms ≡ no_forms) × ((ending ≡ whole_text) × (ws ≡ []))
no_words_first whole_text no_forms ws end e = (refl, (refl, end))
no_words_first inside_list no_forms ws end e = let clash : [] ≡ closing end.0 ∷ end.1.0 = e ∙ end.1.1 in absurd (cc)
no_words_first ending (forms_and (plain_name s b) forms) ws end e = absurd (cc)
no_words_first ending (forms_and (plain_int s b) forms) ws end e = absurd (cc)
no_words_first ending (forms_and (plain_text s b) forms) ws end e = absurd (cc)
no_words_first ending (forms_and (plain_list s b) forms) ws end e = absurd (cc)

leaf_behind : (ending : Ending) (form : PlainSexpr) (ls ws : List Lexeme) → EndsAs ending ws → leaf form ∷ ls ≡ ws → ⊥
leaf_behind whole_text form ls ws end e = let clash : leaf form ∷ ls ≡ [] = e ∙ end in absurd (cc)
leaf_behind inside_list form ls ws end e = let clash : leaf form ∷ ls ≡ closing end.0 ∷ end.1.0 = e ∙ end.1.1 in absurd (cc)

leaf_first : (ending : Ending) (form : PlainSexpr) (ls : List Lexeme) (forms : PlainForms) (ws : List Lexeme) → EndsAs ending ws → leaf form ∷ ls ≡ words_of forms ++ ws →
    (others : PlainForms) × ((forms ≡ forms_and form others) × (ls ≡ words_of others ++ ws))
leaf_first ending form ls no_forms ws end e = absurd (leaf_behind ending form ls ws end e)
leaf_first ending form ls (forms_and (plain_name s b) forms) ws end e = (forms, (cc, cc))
leaf_first ending form ls (forms_and (plain_int s b) forms) ws end e = (forms, (cc, cc))
leaf_first ending form ls (forms_and (plain_text s b) forms) ws end e = (forms, (cc, cc))
leaf_first ending form ls (forms_and (plain_list s b) forms) ws end e = absurd (cc)

fault_behind : (ending : Ending) (fault : PlainFault) (ls ws : List Lexeme) → EndsAs ending ws → faulty fault ∷ ls ≡ ws → ⊥
fault_behind whole_text fault ls ws end e = let clash : faulty fault ∷ ls ≡ [] = e ∙ end in absurd (cc)
fault_behind inside_list fault ls ws end e = let clash : faulty fault ∷ ls ≡ closing end.0 ∷ end.1.0 = e ∙ end.1.1 in absurd (cc)

no_fault_first : (ending : Ending) (fault : PlainFault) (ls : List Lexeme) (forms : PlainForms) (ws : List Lexeme) → EndsAs ending ws → faulty fault ∷ ls ≡ words_of forms ++ ws → ⊥
no_fault_first ending fault ls no_forms ws end e = fault_behind ending fault ls ws end e
no_fault_first ending fault ls (forms_and (plain_name s b) forms) ws end e = absurd (cc)
no_fault_first ending fault ls (forms_and (plain_int s b) forms) ws end e = absurd (cc)
no_fault_first ending fault ls (forms_and (plain_text s b) forms) ws end e = absurd (cc)
no_fault_first ending fault ls (forms_and (plain_list s b) forms) ws end e = absurd (cc)

closing_first : (end : ℕ) (ls : List Lexeme) (forms : PlainForms) (ws : List Lexeme) → closing end ∷ ls ≡ words_of forms ++ ws → (forms ≡ no_forms) × (closing end ∷ ls ≡ ws)
closing_first end ls no_forms ws e = (refl, e)
closing_first end ls (forms_and (plain_name s b) forms) ws e = absurd (cc)
closing_first end ls (forms_and (plain_int s b) forms) ws e = absurd (cc)
closing_first end ls (forms_and (plain_text s b) forms) ws e = absurd (cc)
closing_first end ls (forms_and (plain_list s b) forms) ws e = absurd (cc)

opening_behind : (ending : Ending) (at : ℕ) (ls ws : List Lexeme) → EndsAs ending ws → opening at ∷ ls ≡ ws → ⊥
opening_behind whole_text at ls ws end e = let clash : opening at ∷ ls ≡ [] = e ∙ end in absurd (cc)
opening_behind inside_list at ls ws end e = let clash : opening at ∷ ls ≡ closing end.0 ∷ end.1.0 = e ∙ end.1.1 in absurd (cc)

-- a list comes first
record ListFirst (at : ℕ) (ls : List Lexeme) (forms : PlainForms) (ws : List Lexeme) : Type 0 where
  span : Span
  members : PlainForms
  others : PlainForms
  is : forms ≡ forms_and (plain_list span members) others
  start : span.start ≡ at
  inner : ls ≡ words_of members ++ closing span.end ∷ (words_of others ++ ws)

opening_first : (ending : Ending) (at : ℕ) (ls : List Lexeme) (forms : PlainForms) (ws : List Lexeme) → EndsAs ending ws → opening at ∷ ls ≡ words_of forms ++ ws → ListFirst at ls forms ws
opening_first ending at ls no_forms ws end e = absurd (opening_behind ending at ls ws end e)
opening_first ending at ls (forms_and (plain_name s b) forms) ws end e = absurd (cc)
opening_first ending at ls (forms_and (plain_int s b) forms) ws end e = absurd (cc)
opening_first ending at ls (forms_and (plain_text s b) forms) ws end e = absurd (cc)
opening_first ending at ls (forms_and (plain_list s members) forms) ws end e =
    let starts : s.start ≡ at = cc in
    let all : ls ≡ ((words_of members ++ closing s.end ∷ []) ++ words_of forms) ++ ws = cc in
    record {
      span = s;
      members = members;
      others = forms;
      is = refl;
      start = starts;
      inner = all ∙ append_assoc (words_of members ++ closing s.end ∷ []) (words_of forms) ws ∙ append_assoc (words_of members) (closing s.end ∷ []) (words_of forms ++ ws);
    }

-- A text by what its first byte begins.

found_separator : (ending : Ending) (at b : ℕ) (bytes : List ℕ) (forms : PlainForms) (ws : List Lexeme) → is_separator b
    ≡ true → Found ending (at + 1) bytes forms ws → Found ending at (b ∷ bytes) forms ws
found_separator ending at b bytes forms ws is f =
    let place : at + length (b ∷ f.front) ≡ at + 1 + length f.front = omega arith in
    record {
      front = b ∷ f.front;
      rest = f.rest;
      parts = ap (λ t. b ∷ t) f.parts;
      given = Gives.separator ending at b f.front forms (test_separates b is) f.given;
      left = ap (λ n. lexemes 0 n f.rest) place ∙ f.left;
      stands = f.stands;
    }

pub line_feed : (b : ℕ) → is_comment_byte b ≡ false → b ≡ 10
line_feed b e = grind (arith, nat_tests)

found_last_comment : (ending : Ending) (at : ℕ) (text bytes : List ℕ) (forms : PlainForms) (ws : List Lexeme) → text ≡ 59 ∷ (bytes ++ []) → list_all is_comment_byte bytes ≡ true →
    forms ≡ no_forms → ending ≡ whole_text → ws ≡ [] → Found ending at text forms ws
found_last_comment ending at text bytes forms ws parts none empty whole left =
    let P : PlainForms → Type 0 = λ fs. Gives whole_text at (59 ∷ bytes) fs in
    let given : Gives whole_text at (59 ∷ bytes) forms = subst P (sym empty) (Gives.last_comment at bytes none) in
    let Q : Ending → Type 0 = λ e. Found e at text forms ws in
    let found : Found whole_text at text forms ws =
    record { front = 59 ∷ bytes; rest = []; parts = parts; given = given; left = no_words (at + length (59 ∷ bytes)) ∙ sym left; stands = refl } in
    subst Q (sym whole) found

found_comment : (fuel : ℕ) (find : Finder fuel) (ending : Ending) (at : ℕ) (text bytes rest : List ℕ) (forms : PlainForms) (ws : List Lexeme) → length text ≤ suc fuel → EndsAs ending ws →
    text ≡ 59 ∷ (bytes ++ rest) → list_all is_comment_byte bytes ≡ true → Stops is_comment_byte rest → lexemes 0 at text ≡ words_of forms ++ ws → Found ending at text forms ws
found_comment fuel find ending at text bytes [] forms ws small end parts none stop e =
    let empty : [] ≡ words_of forms ++ ws = sym (ap (lexemes 0 at) parts ∙ lex_comment at bytes [] none tt ∙ no_words (at + 1 + length bytes)) ∙ e in
    let first = no_words_first ending forms ws end empty in
    found_last_comment ending at text bytes forms ws parts none first.0 first.1.0 first.1.1
found_comment fuel find ending at text bytes (c ∷ rest) forms ws small end parts none stop e =
    let is : c ≡ 10 = line_feed c stop in
    let parts' : text ≡ 59 ∷ (bytes ++ 10 ∷ rest) = parts ∙ ap (λ k. 59 ∷ (bytes ++ k ∷ rest)) is in
    let p : ℕ = at + 1 + length bytes in
    let words : lexemes 0 (p + 1) rest ≡ words_of forms ++ ws =
    sym (ap (lexemes 0 at) parts' ∙ lex_comment at bytes (10 ∷ rest) none refl ∙ begins_alone p 10 rest [] (begin_separator p 10 rest refl)) ∙ e in
    let fewer : length rest ≤ fuel = omega (arith, ap length parts', length-append bytes (10 ∷ rest)) in
    let f = find ending (p + 1) rest forms ws fewer end words in
    let place : at + length (59 ∷ (bytes ++ 10 ∷ f.front)) ≡ p + 1 + length f.front = omega (arith, length-append bytes (10 ∷ f.front)) in
    record {
      front = 59 ∷ (bytes ++ 10 ∷ f.front);
      rest = f.rest;
      parts = parts' ∙ ap (λ t. 59 ∷ (bytes ++ 10 ∷ t)) f.parts ∙ ap (λ t. 59 ∷ t) (sym (append_assoc bytes (10 ∷ f.front) f.rest));
      given = Gives.comment ending at bytes f.front forms none f.given;
      left = ap (λ n. lexemes 0 n f.rest) place ∙ f.left;
      stands = f.stands;
    }

found_closing : (ending : Ending) (at : ℕ) (text bytes : List ℕ) (forms : PlainForms) (ws : List Lexeme) → text ≡ 41
    ∷ bytes → EndsAs ending ws → lexemes 0 at text ≡ words_of forms ++ ws → Found ending at text forms ws
found_closing whole_text at text bytes forms ws is end e =
    let words : closing (at + 1) ∷ lexemes 0 (at + 1) bytes ≡ words_of forms
    ++ ws = sym (ap (lexemes 0 at) is
    ∙ begins_alone at 41 bytes (closing (at + 1) ∷ []) (begin_closing at 41 bytes refl)) ∙ e in
    let clash : closing (at + 1) ∷ lexemes 0 (at + 1) bytes ≡ [] = (closing_first (at + 1) (lexemes 0 (at + 1) bytes) forms ws words).1 ∙ end in absurd (cc)
found_closing inside_list at text bytes forms ws is end e =
    let here : lexemes 0 at text ≡ closing (at + 1) ∷ lexemes 0 (at + 1) bytes = ap (lexemes 0 at) is ∙ begins_alone at 41 bytes (closing (at + 1) ∷ []) (begin_closing at 41 bytes refl) in
    let first = closing_first (at + 1) (lexemes 0 (at + 1) bytes) forms ws (sym here ∙ e) in
    let P : PlainForms → Type 0 = λ fs. Gives inside_list at [] fs in
    let z : at + 0 ≡ at = omega arith in
    record {
      front = [];
      rest = text;
      parts = refl;
      given = subst P (sym first.0) (Gives.nothing inside_list at);
      left = ap (λ n. lexemes 0 n text) z ∙ here ∙ first.1;
      stands = (bytes, is);
    }

-- a lexeme, and the text after it
found_word : (ending : Ending) (at n : ℕ) (text word behind : List ℕ) (form : PlainSexpr) (forms others : PlainForms) (ws : List Lexeme) → text ≡ word ++ behind → n ≡ at + length word →
    forms ≡ forms_and form others → (f : Found ending n behind others ws) → Gives ending at (word ++ f.front) (forms_and form others) → Found ending at text forms ws
found_word ending at n text word behind form forms others ws parts place is f given =
    let P : PlainForms → Type 0 = λ fs. Gives ending at (word ++ f.front) fs in
    let count : at + length (word ++ f.front) ≡ n + length f.front = omega (arith, place, length-append word f.front) in
    record {
      front = word ++ f.front;
      rest = f.rest;
      parts = parts ∙ ap (λ t. word ++ t) f.parts ∙ sym (append_assoc word f.front f.rest);
      given = subst P (sym is) given;
      left = ap (λ k. lexemes 0 k f.rest) count ∙ f.left;
      stands = f.stands;
    }

found_list : (fuel : ℕ) (find : Finder fuel) (ending : Ending) (at : ℕ) (text bytes : List ℕ) (forms : PlainForms) (ws : List Lexeme) → length text ≤ suc fuel → EndsAs ending ws → text ≡ 40 ∷ bytes →
    lexemes 0 at text ≡ words_of forms ++ ws → Found ending at text forms ws
found_list fuel find ending at text bytes forms ws small end is e =
    let l = opening_first ending at (lexemes 0 (at + 1) bytes) forms ws end (sym (ap (lexemes 0 at) is ∙ begins_alone at 40 bytes (opening at ∷ []) (begin_opening at 40 bytes refl)) ∙ e) in
    let fewer : length bytes ≤ fuel = omega (arith, ap length is) in
    let m = find inside_list (at + 1) bytes l.members (closing l.span.end ∷ (words_of l.others ++ ws)) fewer (l.span.end, (words_of l.others ++ ws, refl)) l.inner in
    let behind : List ℕ = m.stands.0 in
    let p : ℕ = at + 1 + length m.front in
    let closes : closing (p + 1) ∷ lexemes 0 (p + 1) behind ≡ closing l.span.end ∷ (words_of l.others ++ ws) =
    sym (ap (lexemes 0 p) m.stands.1 ∙ begins_alone p 41 behind (closing (p + 1) ∷ []) (begin_closing p 41 behind refl)) ∙ m.left in
    let ends : p + 1 ≡ l.span.end = cc in
    let left : lexemes 0 (p + 1) behind ≡ words_of l.others ++ ws = cc in
    let inner : bytes ≡ m.front ++ 41 ∷ behind = m.parts ∙ ap (λ t. m.front ++ t) m.stands.1 in
    let fewer' : length behind ≤ fuel = omega (arith, ap length is, ap length inner, length-append m.front (41 ∷ behind)) in
    let f = find ending (p + 1) behind l.others ws fewer' end left in
    let spans : l.span ≡ span_from at (1 + length m.front + 1) = span_same l.span (span_from at (1 + length m.front + 1)) l.start (omega (arith, ends)) in
    let same : forms ≡ forms_and (plain_list (span_from at (1 + length m.front + 1)) l.members) l.others = l.is ∙ ap (λ s. forms_and (plain_list s l.members) l.others) spans in
    let word : List ℕ = 40 ∷ (m.front ++ 41 ∷ []) in
    let parts : text ≡ word ++ behind = is ∙ ap (λ t. 40 ∷ t) (inner ∙ sym (append_assoc m.front (41 ∷ []) behind)) in
    let P : List ℕ → Type 0 = λ t. Gives ending at (40 ∷ t) (forms_and (plain_list (span_from at (1 + length m.front + 1)) l.members) l.others) in
    found_word ending at (p + 1) text word behind (plain_list (span_from at (1 + length m.front + 1)) l.members) forms l.others ws parts (omega (arith, length-append m.front (41 ∷ []))) same f
    (subst P (sym (append_assoc m.front (41 ∷ []) f.front)) (Gives.list ending at m.front f.front l.members l.others m.given f.given))

-- What a closed literal stands for.
pub record ClosedAt (bytes content : List ℕ) (more : ℕ) : Type 0 where
  pub spelling : List ℕ
  pub rest : List ℕ
  pub parts : bytes ≡ spelling ++ 34 ∷ rest
  pub count : more ≡ length spelling + 1
  pub stands : StandsFor spelling content

closed_quote : (b : ℕ) (bytes content : List ℕ) (more : ℕ) → eqb b 34 ≡ true → literal (b ∷ bytes) ≡ closed content more → ClosedAt (b ∷ bytes) content more
closed_quote b bytes content more is e =
    let same : b ≡ 34 = grind (arith, nat_tests) in
    let both : closed [] 1 ≡ closed content more = sym (literal_quote (b ∷ bytes) (omega arith) same) ∙ e in
    let none : [] ≡ content = cc in
    let one : 1 ≡ more = cc in
    record { spelling = []; rest = bytes; parts = ap (λ k. k ∷ bytes) same; count = sym one; stands = subst (StandsFor []) none StandsFor.ended }

closed_behind : (b : ℕ) (bytes content : List ℕ) (more : ℕ) → eqb b 34 ≡ false → eqb b 92 ≡ false → literal (b ∷ bytes) ≡ closed content more →
    ((inner : List ℕ) (less : ℕ) → literal bytes ≡ closed inner less → ClosedAt bytes inner less) → ClosedAt (b ∷ bytes) content more
closed_behind b bytes content more t t2 e go =
    let plain : is_plain b ≡ true = rw t (rw t2 refl) in
    let quote : b ≢ 34 = λ s. absurd (false≢true (sym t ∙ ap (λ k. eqb k 34) s)) in
    let backslash : b ≢ 92 = λ s. absurd (false≢true (sym t2 ∙ ap (λ k. eqb k 92) s)) in
    let i = front_inverse (b ∷ []) 1 (literal bytes) content more (sym (literal_plain b bytes plain) ∙ e) in
    let l = go i.0 i.1.0 i.1.1.0 in
    record {
      spelling = b ∷ l.spelling;
      rest = l.rest;
      parts = ap (λ r. b ∷ r) l.parts;
      count = omega (arith, l.count, i.1.1.1.1);
      stands = subst (StandsFor (b ∷ l.spelling)) (sym i.1.1.1.0) (StandsFor.itself b l.spelling i.0 quote backslash l.stands);
    }

pub closed_at : (bytes content : List ℕ) (more : ℕ) → literal bytes ≡ closed content more → ClosedAt bytes content more
closed_at [] content more e = let clash : endless ≡ closed content more = sym (literal_end [] refl) ∙ e in absurd (cc)
closed_at (b ∷ []) content more e =
    elim (cases_test (eqb b 34)) [
      | inl t ↦ closed_quote b [] content more t e
      | inr t ↦ let clash : endless ≡ closed content more = sym (literal_lone (b ∷ []) refl (grind (arith, nat_tests))) ∙ e in absurd (cc)
    ]
closed_at (b ∷ c ∷ bytes) content more e =
    elim (cases_test (eqb b 34)) [
      | inl t ↦ closed_quote b (c ∷ bytes) content more t e
      | inr t ↦
          elim (cases_test (eqb b 92)) [
            | inl t2 ↦
                let same : b ≡ 92 = grind (arith, nat_tests) in
                let o = escape_inverse (unescaped c) (literal bytes) content more (sym (literal_backslash b c bytes t t2) ∙ e) in
                let i = front_inverse (o.0 ∷ []) 2 (literal bytes) content more o.1.1 in
                let l = closed_at bytes i.0 i.1.0 i.1.1.0 in
                record {
                  spelling = 92 ∷ c ∷ l.spelling;
                  rest = l.rest;
                  parts = ap (λ k. k ∷ c ∷ bytes) same ∙ ap (λ r. 92 ∷ c ∷ r) l.parts;
                  count = omega (arith, l.count, i.1.1.1.1);
                  stands = subst (StandsFor (92 ∷ c ∷ l.spelling)) (sym i.1.1.1.0) (StandsFor.escape c o.0 l.spelling i.0 (test_escape c o.0 o.1.0) l.stands);
                }
            | inr t2 ↦ closed_behind b (c ∷ bytes) content more t t2 e (λ inner less is. closed_at (c ∷ bytes) inner less is)
          ]
    ]

found_literal : (fuel : ℕ) (find : Finder fuel) (ending : Ending) (at : ℕ) (text bytes content : List ℕ) (more : ℕ)
    (forms : PlainForms) (ws : List Lexeme) → length text ≤ suc fuel → EndsAs ending ws →
    text ≡ 34 ∷ bytes → literal bytes ≡ closed content more → length content ≤ 4096 → lexemes 0 at text ≡ words_of forms ++ ws → Found ending at text forms ws
found_literal fuel find ending at text bytes content more forms ws small end is found fits e =
    let l : ClosedAt bytes content more = closed_at bytes content more found in
    let leq : leb (length content) 4096 ≡ true = grind (arith, nat_tests) in
    let n : ℕ = 1 + length l.spelling + 1 in
    let p : ℕ = at + 1 + length l.spelling + 1 in
    let count : 1 + more ≡ n = omega (arith, l.count) in
    let place : at + 1 + more ≡ p = omega (arith, l.count) in
    let form : PlainSexpr = plain_text (span_from at n) content in
    let word : literal_lexeme at (closed content more) ≡ leaf form = rw leq (ap (λ k. leaf (plain_text (span_from at k) content)) count) in
    let behind : drop more bytes ≡ l.rest = ap (λ k. drop k bytes) l.count ∙ ap (drop (length l.spelling + 1)) l.parts ∙ drop-append-add l.spelling (34 ∷ l.rest) 1 in
    let begin : beginning at 34 bytes ≡ record { word = leaf form ∷ []; more = more } =
    begin_text at 34 bytes refl ∙ ap (λ k. record { word = literal_lexeme at k ∷ []; more = literal_more k }) found ∙ ap (λ w. record { word = w ∷ []; more = more }) word in
    let words : leaf form ∷ lexemes 0 p l.rest ≡ words_of forms ++ ws =
    sym (ap (lexemes 0 at) is ∙ begins at 34 more bytes (leaf form ∷ []) begin ∙ ap (λ k. leaf form ∷ lexemes 0 k (drop more bytes)) place ∙ ap (λ t. leaf form ∷ lexemes 0 p t) behind) ∙ e in
    let first = leaf_first ending form (lexemes 0 p l.rest) forms ws end words in
    let fewer : length l.rest ≤ fuel = omega (arith, ap length is, ap length l.parts, length-append l.spelling (34 ∷ l.rest)) in
    let f = find ending p l.rest first.0 ws fewer end first.1.1 in
    let front : List ℕ = 34 ∷ (l.spelling ++ 34 ∷ []) in
    let parts : text ≡ front ++ l.rest = is ∙ ap (λ t. 34 ∷ t) (l.parts ∙ sym (append_assoc l.spelling (34 ∷ []) l.rest)) in
    let P : List ℕ → Type 0 = λ t. Gives ending at (34 ∷ t) (forms_and form first.0) in
    found_word ending at p text front l.rest form forms first.0 ws parts (omega (arith, length-append l.spelling (34 ∷ []))) first.1.0 f
    (subst P (sym (append_assoc l.spelling (34 ∷ []) f.front)) (Gives.literal ending at l.spelling content f.front first.0 l.stands fits f.given))

literal_at : (at : ℕ) (bytes : List ℕ) → beginning at 34 bytes ≡ record { word = literal_lexeme at (literal bytes) ∷ []; more = literal_more (literal bytes) }
literal_at at bytes = begin_text at 34 bytes refl

-- a lexeme that is a fault
fault_word : (ending : Ending) (at b : ℕ) (bytes : List ℕ) (fault : PlainFault) (forms : PlainForms) (ws : List Lexeme) → EndsAs ending ws → (beginning at b bytes).word ≡ faulty fault ∷ [] →
    lexemes 0 at (b ∷ bytes) ≡ words_of forms ++ ws → ⊥
fault_word ending at b bytes fault forms ws end is e =
    let behind : List Lexeme = lexemes 0 (at + 1 + (beginning at b bytes).more) (drop (beginning at b bytes).more bytes) in
    no_fault_first ending fault behind forms ws end (sym (lexemes-begin at b bytes ∙ ap (λ t. t ++ behind) is) ∙ e)

found_text : (fuel : ℕ) (find : Finder fuel) (ending : Ending) (at : ℕ) (text bytes : List ℕ) (l : Literal) (forms : PlainForms) (ws : List Lexeme) → length text ≤ suc fuel → EndsAs ending ws →
    text ≡ 34 ∷ bytes → literal bytes ≡ l → lexemes 0 at text ≡ words_of forms ++ ws → Found ending at text forms ws
found_text fuel find ending at text bytes (closed content more) forms ws small end is found e =
    elim (cases_test (leb (length content) 4096)) [
      | inl fits ↦ found_literal fuel find ending at text bytes content more forms ws small end is found (grind (arith, nat_tests)) e
      | inr long ↦
          absurd (fault_word ending at 34 bytes (record { kind = Long; at = at }) forms ws end
          (ap (λ g. g.word) (literal_at at bytes) ∙ ap (λ k. literal_lexeme at k ∷ []) found ∙ rw long refl)
          (sym (ap (lexemes 0 at) is) ∙ e))
    ]
found_text fuel find ending at text bytes endless forms ws small end is found e =
    absurd (fault_word ending at 34 bytes _ forms ws end (ap (λ g. g.word) (literal_at at bytes) ∙ ap (λ k. literal_lexeme at k ∷ []) found) (sym (ap (lexemes 0 at) is) ∙ e))
found_text fuel find ending at text bytes (no_escape place) forms ws small end is found e =
    absurd (fault_word ending at 34 bytes _ forms ws end (ap (λ g. g.word) (literal_at at bytes) ∙ ap (λ k. literal_lexeme at k ∷ []) found) (sym (ap (lexemes 0 at) is) ∙ e))

-- what a token is
data TokenIs (at : ℕ) (token : List ℕ) : Type 0 where
  a_number : (value : ℤ) → is_number token ≡ true → number_value token ≡ Some value → token_lexeme at token ≡ leaf (plain_int (span_from at (length token)) value) → TokenIs at token
  a_name : is_name token ≡ true → token_lexeme at token ≡ leaf (plain_name (span_from at (length token)) token) → TokenIs at token
  a_fault : (fault : PlainFault) → token_lexeme at token ≡ faulty fault → TokenIs at token

number_token_is : (at : ℕ) (token : List ℕ) (value : Option ℤ) → is_number token ≡ true → number_value token ≡ value → token_lexeme at token ≡ number_lexeme at token value → TokenIs at token
number_token_is at token None num worth is = a_fault _ is
number_token_is at token (Some value) num worth is = a_number value num worth is

token_is : (at : ℕ) (token : List ℕ) → TokenIs at token
unfolding token_lexeme
token_is at token =
    elim (cases_test (is_number token)) [
      | inl e ↦ number_token_is at token (number_value token) e refl (rw e refl)
      | inr e ↦ elim (cases_test (is_name token)) [ inl e2 ↦ a_name e2 (rw e (rw e2 refl)) | inr e2 ↦ a_fault (record { kind = Character; at = at }) (rw e (rw e2 refl)) ]
    ]

negated : (x : Bool) → not x ≡ false → x ≡ true
negated true e = refl
negated false e = absurd (false≢true (sym e))

stops_front : (front behind rest : List ℕ) → front ++ rest ≡ behind → Stops is_token_byte behind → EndsOrDelimits front
stops_front [] behind rest e stop = tt
stops_front (b ∷ front) [] rest e stop = absurd (cc)
stops_front (b ∷ front) (c ∷ behind) rest e stop = let same : b ≡ c = cc in test_delimits b (negated (is_delimiter b) (ap is_token_byte same ∙ stop))

found_token : (fuel : ℕ) (find : Finder fuel) (ending : Ending) (at : ℕ) (text token behind : List ℕ) (forms : PlainForms) (ws : List Lexeme) → length text ≤ suc fuel → EndsAs ending ws →
    text ≡ token ++ behind → 0 < length token → list_all is_token_byte token ≡ true → Stops is_token_byte behind
    → TokenIs at token → lexemes 0 at text ≡ words_of forms ++ ws → Found ending at text forms ws
found_token fuel find ending at text token behind forms ws small end parts some all stop (a_number value num worth is) e =
    let form : PlainSexpr = plain_int (span_from at (length token)) value in
    let words : leaf form ∷ lexemes 0 (at + length token) behind ≡ words_of forms ++ ws =
    sym (ap (lexemes 0 at) parts ∙ lex_token at token behind some all stop ∙ ap (λ w. w ∷ lexemes 0 (at + length token) behind) is) ∙ e in
    let first = leaf_first ending form (lexemes 0 (at + length token) behind) forms ws end words in
    let fewer : length behind ≤ fuel = omega (arith, ap length parts, length-append token behind) in
    let f = find ending (at + length token) behind first.0 ws fewer end first.1.1 in
    found_word ending at (at + length token) text token behind form forms first.0 ws parts refl first.1.0 f
    (Gives.number ending at token f.front value first.0 (record {
      undivided = test_undivided token all;
      ends =
          stops_front f.front behind f.rest (sym f.parts) stop;
    }) (test_numeral token value num worth) f.given)
found_token fuel find ending at text token behind forms ws small end parts some all stop (a_name named is) e =
    let form : PlainSexpr = plain_name (span_from at (length token)) token in
    let words : leaf form ∷ lexemes 0 (at + length token) behind ≡ words_of forms ++ ws =
    sym (ap (lexemes 0 at) parts ∙ lex_token at token behind some all stop ∙ ap (λ w. w ∷ lexemes 0 (at + length token) behind) is) ∙ e in
    let first = leaf_first ending form (lexemes 0 (at + length token) behind) forms ws end words in
    let fewer : length behind ≤ fuel = omega (arith, ap length parts, length-append token behind) in
    let f = find ending (at + length token) behind first.0 ws fewer end first.1.1 in
    found_word ending at (at + length token) text token behind form forms first.0 ws parts refl first.1.0 f
    (Gives.name ending at token f.front first.0 (record { undivided = test_undivided token all; ends = stops_front f.front behind f.rest (sym f.parts) stop }) (test_name token named) f.given)
found_token fuel find ending at text token behind forms ws small end parts some all stop (a_fault fault is) e =
    let words : faulty fault ∷ lexemes 0 (at + length token) behind ≡ words_of forms ++ ws =
    sym (ap (lexemes 0 at) parts ∙ lex_token at token behind some all stop ∙ ap (λ w. w ∷ lexemes 0 (at + length token) behind) is) ∙ e in
    absurd (no_fault_first ending fault (lexemes 0 (at + length token) behind) forms ws end words)

-- what stands at the front of a text that is not empty
found_first : (fuel : ℕ) (find : Finder fuel) (ending : Ending) (at b : ℕ) (bytes : List ℕ) (forms : PlainForms) (ws : List Lexeme) → length (b ∷ bytes) ≤ suc fuel → EndsAs ending ws →
    lexemes 0 at (b ∷ bytes) ≡ words_of forms ++ ws → Found ending at (b ∷ bytes) forms ws
found_first fuel find ending at b bytes forms ws small end e =
    elim (cases_test (is_separator b)) [
      | inl t ↦
          found_separator ending at b bytes forms ws t (find ending (at + 1) bytes forms ws (omega arith) end (sym (begins_alone at b bytes [] (begin_separator at b bytes t)) ∙ e))
      | inr t ↦
          elim (cases_test (eqb b 59)) [
            | inl t1 ↦
                let is : b ≡ 59 = grind (arith, nat_tests) in
                let r : Run is_comment_byte bytes = run_of is_comment_byte bytes in
                found_comment fuel find ending at (b ∷ bytes) r.front r.rest forms ws small end (ap (λ k. k ∷ bytes) is ∙ ap (λ t. 59 ∷ t) r.parts) r.all r.stop e
            | inr t1 ↦
                elim (cases_test (eqb b 40)) [
                  | inl t2 ↦ let is : b ≡ 40 = grind (arith, nat_tests) in found_list fuel find ending at (b ∷ bytes) bytes forms ws small end (ap (λ k. k ∷ bytes) is) e
                  | inr t2 ↦
                      elim (cases_test (eqb b 41)) [
                        | inl t3 ↦ let is : b ≡ 41 = grind (arith, nat_tests) in found_closing ending at (b ∷ bytes) bytes forms ws (ap (λ k. k ∷ bytes) is) end e
                        | inr t3 ↦
                            elim (cases_test (eqb b 34)) [
                              | inl t4 ↦ let is : b ≡ 34 = grind (arith, nat_tests) in found_text fuel find ending at
                                  (b ∷ bytes) bytes (literal bytes) forms ws small end (ap (λ k. k ∷ bytes) is) refl e
                              | inr t4 ↦
                                  let passes : is_token_byte b ≡ true = rw t (rw t2 (rw t3 (rw t4 (rw t1 refl)))) in
                                  let r : Run is_token_byte bytes = run_of is_token_byte bytes in
                                  found_token fuel find ending at (b ∷ bytes) (b ∷ r.front) r.rest forms ws small end
                                  (ap (λ t. b ∷ t) r.parts) (omega arith) (rw passes r.all) r.stop
                                  (token_is at (b ∷ r.front)) e
                            ]
                      ]
                ]
          ]
    ]

-- nothing is left
found_nothing : (ending : Ending) (at : ℕ) (forms : PlainForms) (ws : List Lexeme) → forms ≡ no_forms → ending ≡ whole_text → ws ≡ [] → Found ending at [] forms ws
found_nothing ending at forms ws empty whole left =
    let P : PlainForms → Type 0 = λ fs. Gives whole_text at [] fs in
    let Q : Ending → Type 0 = λ e. Found e at [] forms ws in
    let found : Found whole_text at [] forms ws =
    record { front = []; rest = []; parts = refl; given = subst P (sym empty) (Gives.nothing whole_text at); left = no_words (at + 0) ∙ sym left; stands = refl } in
    subst Q (sym whole) found

find : (fuel : ℕ) → Finder fuel
find fuel ending at [] forms ws small end e =
    let first = no_words_first ending forms ws end (sym (no_words at) ∙ e) in found_nothing ending at forms ws first.0 first.1.0 first.1.1
find zero ending at (b ∷ bytes) forms ws small end e = absurd (omega arith)
find (suc fuel) ending at (b ∷ bytes) forms ws small end e =
    found_first fuel (λ ending' at' text' forms' ws' small' end' e'. find fuel ending' at' text' forms' ws' small' end' e') ending at b bytes forms ws small end e

pub given_forms : (text : List ℕ) (forms : PlainForms) → lexemes 0 0 text ≡ words_of forms → Gives whole_text 0 text forms
given_forms text forms e =
    let f = find (length text) whole_text 0 text forms [] (omega arith) refl (e ∙ sym (append-nil (words_of forms))) in
    let P : List ℕ → Type 0 = λ t. Gives whole_text 0 t forms in
    subst P (sym (f.parts ∙ ap (λ t. f.front ++ t) f.stands ∙ append-nil f.front)) f.given

pub spells_by_the_grammar : SpellsByTheGrammar
spells_by_the_grammar text forms = (
  λ spells. record { short = spells.short; utf8 = spells.utf8; given = given_forms text (plain_forms forms) spells.spelled; shallow = spells.shallow },
  λ is.
      let none : words_of (plain_forms forms) ++ lexemes 0 (0 + length text) [] ≡ words_of (plain_forms forms) =
      ap (λ ls. words_of (plain_forms forms) ++ ls) (no_words (0 + length text)) ∙ append-nil (words_of (plain_forms forms)) in
      let spelled : lexemes 0 0 text ≡ words_of (plain_forms forms) = ap (lexemes 0 0) (sym (append-nil text)) ∙ lex_given [] whole_text 0 text (plain_forms forms) is.given is.utf8 refl ∙ none in
      record { short = is.short; utf8 = is.utf8; spelled = spelled; shallow = is.shallow },
)
