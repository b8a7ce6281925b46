-- A text in parentheses spells the list of what it spells alone.
use Rattle.std.proofs.Common.{◌≡◌, ◌≢◌, ℕ, ◌+◌, ◌<◌, ◌≤◌, false, max, List, [], ◌∷◌, ◌++◌, length, refl, ap, sym, ◌∙◌, subst, arith, append_assoc, inl, inr, ◌⊎◌}
use Rattle.std.specs.List.{All}
use Rattle.std.specs.Str.{IsUtf8}
use Rattle.std.proofs.lemmas.Bool.{false≢true}
use Rattle.std.proofs.lemmas.List.{length-append}
use Rattle.std.proofs.lemmas.List.Elements.{All-head, All-tail}
use Rattle.std.proofs.lemmas.Str.{IsUtf8-append}
use Rattle.cml_text.specs.declared.sexpr.Span.{Span}
use Rattle.cml_text.specs.Forms.{PlainSexpr, plain_name, plain_int, plain_text, plain_list, PlainForms, no_forms}
use Rattle.cml_text.specs.Forms.{forms_and, plain_forms, forms_list, nesting, nesting_of, nowhere, without_spans}
use Rattle.cml_text.specs.Forms.{all_without_spans}
use Rattle.cml_text.specs.Grammar.{Separates, Delimits, Ending, whole_text, inside_list, HaveNoLineFeed, EndsOrDelimits, Gives, IsGrammatical}
use Rattle.cml_text.specs.Lexemes.{is_separator, span_from}
use Rattle.cml_text.specs.Lines.{line}
use Rattle.cml_text.specs.Laws.{SpellsAside, in_parentheses, AListIsItsForms}
use Rattle.cml_text.proofs.ClassLemmas.{separates_test, numeral_some, name_some}
use Rattle.cml_text.proofs.LineLemmas.{first_none, behind_none}
use Rattle.cml_text.proofs.RoundLemmas.{one_ascii}
use Rattle.cml_text.proofs.WholeLemmas.{plain_forms-forms_list}
use Rattle.cml_text.proofs.GrammarLemmas.{utf8_front, utf8_behind}
use Rattle.cml_text.proofs.GrammarFindLemmas.{spells_by_the_grammar}

-- the grammar gives the text these forms, spans aside
record GivesAside (ending : Ending) (at : ℕ) (text : List ℕ) (forms : PlainForms) : Type 0 where
  found : PlainForms
  given : Gives ending at text found
  same : all_without_spans found ≡ forms

-- the same text at another place
moved : (ending : Ending) (at place : ℕ) (text : List ℕ) (forms : PlainForms) → Gives ending at text forms → GivesAside ending place text (all_without_spans forms)
moved ending at place text forms (Gives.nothing e n) = record { found = no_forms; given = Gives.nothing e place; same = refl }
moved ending at place text forms (Gives.separator e n b bytes fs sep more) =
    let r = moved e (n + 1) (place + 1) bytes fs more in record { found = r.found; given = Gives.separator e place b bytes r.found sep r.given; same = r.same }
moved ending at place text forms (Gives.comment e n bytes behind fs none more) =
    let r = moved e (n + 1 + length bytes + 1) (place + 1 + length bytes + 1) behind fs more in
    record { found = r.found; given = Gives.comment e place bytes behind r.found none r.given; same = r.same }
moved ending at place text forms (Gives.last_comment n bytes none) = record { found = no_forms; given = Gives.last_comment place bytes none; same = refl }
moved ending at place text forms (Gives.list e n inside behind members fs within more) =
    let m = moved inside_list (n + 1) (place + 1) inside members within in
    let r = moved e (n + 1 + length inside + 1) (place + 1 + length inside + 1) behind fs more in
    record {
      found = forms_and (plain_list (span_from place (1 + length inside + 1)) m.found) r.found;
      given = Gives.list e place inside behind m.found r.found m.given r.given;
      same = ap (λ ms. forms_and (plain_list nowhere ms) (all_without_spans r.found)) m.same ∙ ap (forms_and (plain_list nowhere (all_without_spans members))) r.same;
    }
moved ending at place text forms (Gives.literal e n spelling content behind fs stands small more) =
    let r = moved e (n + 1 + length spelling + 1) (place + 1 + length spelling + 1) behind fs more in
    record {
      found = forms_and (plain_text (span_from place (1 + length spelling + 1)) content) r.found;
      given = Gives.literal e place spelling content behind r.found stands small r.given;
      same = ap (forms_and (plain_text nowhere content)) r.same;
    }
moved ending at place text forms (Gives.number e n token behind value fs tok num more) =
    let r = moved e (n + length token) (place + length token) behind fs more in
    record {
      found = forms_and (plain_int (span_from place (length token)) value) r.found;
      given = Gives.number e place token behind value r.found tok num r.given;
      same = ap (forms_and (plain_int nowhere value)) r.same;
    }
moved ending at place text forms (Gives.name e n token behind fs tok named more) =
    let r = moved e (n + length token) (place + length token) behind fs more in
    record {
      found = forms_and (plain_name (span_from place (length token)) token) r.found;
      given = Gives.name e place token behind r.found tok named r.given;
      same = ap (forms_and (plain_name nowhere token)) r.same;
    }

-- A text on a line of its own inside a list.

ends_line : (text : List ℕ) → EndsOrDelimits text → EndsOrDelimits (line text)
ends_line [] ends = Delimits.separating 10 Separates.line_feed
ends_line (b ∷ text) ends = ends

line_behind : (place : ℕ) (front behind : List ℕ) (forms : PlainForms) → GivesAside inside_list place (front ++ line behind) forms → GivesAside inside_list place (line (front ++ behind)) forms
line_behind place front behind forms g = subst (λ (t : List ℕ). GivesAside inside_list place t forms) (sym (append_assoc front behind (10 ∷ []))) g

inside : (ending : Ending) (at place : ℕ) (text : List ℕ) (forms : PlainForms) → Gives ending at text forms → GivesAside inside_list place (line text) (all_without_spans forms)
inside ending at place text forms (Gives.nothing e n) =
    record { found = no_forms; given = Gives.separator inside_list place 10 [] no_forms Separates.line_feed (Gives.nothing inside_list (place + 1)); same = refl }
inside ending at place text forms (Gives.separator e n b bytes fs sep more) =
    let r = inside e (n + 1) (place + 1) bytes fs more in record { found = r.found; given = Gives.separator inside_list place b (line bytes) r.found sep r.given; same = r.same }
inside ending at place text forms (Gives.comment e n bytes behind fs none more) =
    let r = inside e (n + 1 + length bytes + 1) (place + 1 + length bytes + 1) behind fs more in
    line_behind place (59 ∷ bytes) (10 ∷ behind) (all_without_spans fs) (record { found = r.found; given = Gives.comment inside_list place bytes (line behind) r.found none r.given; same = r.same })
inside ending at place text forms (Gives.last_comment n bytes none) =
    record { found = no_forms; given = Gives.comment inside_list place bytes [] no_forms none (Gives.nothing inside_list (place + 1 + length bytes + 1)); same = refl }
inside ending at place text forms (Gives.list e n within behind members fs given more) =
    let m = moved inside_list (n + 1) (place + 1) within members given in
    let r = inside e (n + 1 + length within + 1) (place + 1 + length within + 1) behind fs more in
    line_behind place (40 ∷ within) (41 ∷ behind) (all_without_spans forms)
    (record {
      found = forms_and (plain_list (span_from place (1 + length within + 1)) m.found) r.found;
      given = Gives.list inside_list place within (line behind) m.found r.found m.given r.given;
      same = ap (λ ms. forms_and (plain_list nowhere ms) (all_without_spans r.found)) m.same ∙ ap (forms_and (plain_list nowhere (all_without_spans members))) r.same;
    })
inside ending at place text forms (Gives.literal e n spelling content behind fs stands small more) =
    let r = inside e (n + 1 + length spelling + 1) (place + 1 + length spelling + 1) behind fs more in
    line_behind place (34 ∷ spelling) (34 ∷ behind) (all_without_spans forms)
    (record {
      found = forms_and (plain_text (span_from place (1 + length spelling + 1)) content) r.found;
      given = Gives.literal inside_list place spelling content (line behind) r.found stands small r.given;
      same = ap (forms_and (plain_text nowhere content)) r.same;
    })
inside ending at place text forms (Gives.number e n token behind value fs tok num more) =
    let r = inside e (n + length token) (place + length token) behind fs more in
    line_behind place token behind (all_without_spans forms)
    (record {
      found = forms_and (plain_int (span_from place (length token)) value) r.found;
      given = Gives.number inside_list place token (line behind) value r.found (record { undivided = tok.undivided; ends = ends_line behind tok.ends }) num r.given;
      same = ap (forms_and (plain_int nowhere value)) r.same;
    })
inside ending at place text forms (Gives.name e n token behind fs tok named more) =
    let r = inside e (n + length token) (place + length token) behind fs more in
    line_behind place token behind (all_without_spans forms)
    (record {
      found = forms_and (plain_name (span_from place (length token)) token) r.found;
      given = Gives.name inside_list place token (line behind) r.found (record { undivided = tok.undivided; ends = ends_line behind tok.ends }) named r.given;
      same = ap (forms_and (plain_name nowhere token)) r.same;
    })

-- Back: the text without its line feed, and outside a list.

no_line : (text : List ℕ) → [] ≡ line text → ⊥
no_line [] e = absurd (cc)
no_line (b ∷ text) e = absurd (cc)

heads : {x y : ℕ} {xs ys : List ℕ} → x ∷ xs ≡ y ∷ ys → (x ≡ y) × (xs ≡ ys)
heads e = (cc, cc)

-- a byte that is no line feed does not end a line
cut_at : (b : ℕ) (front behind text : List ℕ) → b ≢ 10 → front ++ b ∷ behind ≡ line text → (more : List ℕ) × ((behind ≡ line more) × (text ≡ front ++ b ∷ more))
cut_at b [] behind [] ne e = let h = heads e in absurd (ne h.0)
cut_at b [] behind (y ∷ text) ne e = let h = heads e in (text, (h.1, ap (λ k. k ∷ text) (sym h.0)))
cut_at b (x ∷ []) behind [] ne e = let h = heads e in let bad : b ∷ behind ≡ [] = h.1 in absurd (cc)
cut_at b (x ∷ y ∷ front) behind [] ne e = let h = heads e in let bad : y ∷ (front ++ b ∷ behind) ≡ [] = h.1 in absurd (cc)
cut_at b (x ∷ front) behind (y ∷ text) ne e =
    let h = heads e in
    let r = cut_at b front behind text ne h.1 in
    (r.0, (r.1.0, ap (λ k. k ∷ text) (sym h.0) ∙ ap (λ t. x ∷ t) r.1.1))

-- a line feed ends it, or stands before its end
cut_feed : (front behind text : List ℕ) → front ++ 10 ∷ behind ≡ line text → ((behind ≡ []) × (text ≡ front)) ⊎ ((more : List ℕ) × ((behind ≡ line more) × (text ≡ front ++ 10 ∷ more)))
cut_feed [] behind [] e = let h = heads e in inl (h.1, refl)
cut_feed [] behind (y ∷ text) e = let h = heads e in inr (text, (h.1, ap (λ k. k ∷ text) (sym h.0)))
cut_feed (x ∷ []) behind [] e = let h = heads e in let bad : 10 ∷ behind ≡ [] = h.1 in absurd (cc)
cut_feed (x ∷ y ∷ front) behind [] e = let h = heads e in let bad : y ∷ (front ++ 10 ∷ behind) ≡ [] = h.1 in absurd (cc)
cut_feed (x ∷ front) behind (y ∷ text) e =
    let h = heads e in
    elim (cut_feed front behind text h.1) [
      | inl last ↦ inl (last.0, ap (λ k. k ∷ text) (sym h.0) ∙ ap (λ t. x ∷ t) last.1)
      | inr part ↦ inr (part.0, (part.1.0, ap (λ k. k ∷ text) (sym h.0) ∙ ap (λ t. x ∷ t) part.1.1))
    ]

-- nothing spells no forms
empty_token : (token behind : List ℕ) → 0 < length token → token ++ behind ≡ [] → ⊥
empty_token [] behind some e = absurd (omega arith)
empty_token (b ∷ token) behind some e = absurd (cc)

nothing_left : (ending : Ending) (at : ℕ) (text : List ℕ) (forms : PlainForms) → Gives ending at text forms → text ≡ [] → no_forms ≡ forms
nothing_left ending at text forms (Gives.nothing e n) none = refl
nothing_left ending at text forms (Gives.separator e n b bytes fs sep more) none = absurd (cc)
nothing_left ending at text forms (Gives.comment e n bytes behind fs feed more) none = absurd (cc)
nothing_left ending at text forms (Gives.last_comment n bytes feed) none = refl
nothing_left ending at text forms (Gives.list e n within behind members fs given more) none = absurd (cc)
nothing_left ending at text forms (Gives.literal e n spelling content behind fs stands small more) none = absurd (cc)
nothing_left ending at text forms (Gives.number e n token behind value fs tok num more) none = absurd (empty_token token behind (numeral_some token value num) none)
nothing_left ending at text forms (Gives.name e n token behind fs tok named more) none = absurd (empty_token token behind (name_some token named) none)

line_ends : (behind text : List ℕ) → behind ≡ line text → EndsOrDelimits behind → EndsOrDelimits text
line_ends behind [] e ends = tt
line_ends [] (y ∷ text) e ends = absurd (cc)
line_ends (x ∷ behind) (y ∷ text) e ends = let h = heads e in subst Delimits h.0 ends

of_text : (place : ℕ) (text other : List ℕ) (forms : PlainForms) → text ≡ other → GivesAside whole_text place other forms → GivesAside whole_text place text forms
of_text place text other forms same g = subst (λ (t : List ℕ). GivesAside whole_text place t forms) (sym same) g

none_aside : (place : ℕ) (text : List ℕ) (forms : PlainForms) → no_forms ≡ forms → Gives whole_text place text no_forms → GivesAside whole_text place text (all_without_spans forms)
none_aside place text forms none given = record { found = no_forms; given = given; same = ap all_without_spans none }

-- a token cut off: the line goes on after it
cut_token : (token behind text : List ℕ) → All (λ b. Delimits b → ⊥) token → token ++ behind ≡ line text → (more : List ℕ) × ((behind ≡ line more) × (text ≡ token ++ more))
cut_token [] behind text none e = (text, (e, refl))
cut_token (x ∷ token) behind [] none e = let h = heads e in absurd (All-head (λ b. Delimits b → ⊥) x token none (subst Delimits (sym h.0) (Delimits.separating 10 Separates.line_feed)))
cut_token (x ∷ token) behind (y ∷ text) none e =
    let h = heads e in
    let r = cut_token token behind text (All-tail (λ b. Delimits b → ⊥) x token none) h.1 in
    (r.0, (r.1.0, ap (λ k. k ∷ text) (sym h.0) ∙ ap (λ t. x ∷ t) r.1.1))

outside : (ending : Ending) (at place : ℕ) (all text : List ℕ) (forms : PlainForms) → Gives ending at all forms → ending
    ≡ inside_list → all ≡ line text → GivesAside whole_text place text (all_without_spans forms)
outside ending at place all text forms (Gives.nothing e n) inner is = absurd (no_line text is)
outside ending at place all [] forms (Gives.separator e n b bytes fs sep more) inner is =
    let h = heads is in none_aside place [] fs (nothing_left e (n + 1) bytes fs more h.1) (Gives.nothing whole_text place)
outside ending at place all (y ∷ text) forms (Gives.separator e n b bytes fs sep more) inner is =
    let h = heads is in
    let r = outside e (n + 1) (place + 1) bytes text fs more inner h.1 in
    of_text place (y ∷ text) (b ∷ text) (all_without_spans fs) (ap (λ k. k ∷ text) (sym h.0)) (record {
      found = r.found;
      given = Gives.separator whole_text place b text r.found sep r.given;
      same = r.same;
    })
outside ending at place all text forms (Gives.comment e n bytes behind fs none more) inner is =
    elim (cut_feed (59 ∷ bytes) behind text is) [
      | inl last ↦
          of_text place text (59 ∷ bytes) (all_without_spans fs) last.1
          (none_aside place (59 ∷ bytes) fs (nothing_left e (n + 1 + length bytes + 1) behind fs more last.0) (Gives.last_comment place bytes none))
      | inr part ↦
          let r = outside e (n + 1 + length bytes + 1) (place + 1 + length bytes + 1) behind part.0 fs more inner part.1.0 in
          of_text place text (59 ∷ (bytes ++ 10 ∷ part.0)) (all_without_spans fs) part.1.1
          (record { found = r.found; given = Gives.comment whole_text place bytes part.0 r.found none r.given; same = r.same })
    ]
outside ending at place all text forms (Gives.last_comment n bytes none) inner is = absurd (cc)
outside ending at place all text forms (Gives.list e n within behind members fs given more) inner is =
    let part = cut_at 41 (40 ∷ within) behind text (λ same. absurd (omega (arith, same))) is in
    let m = moved inside_list (n + 1) (place + 1) within members given in
    let r = outside e (n + 1 + length within + 1) (place + 1 + length within + 1) behind part.0 fs more inner part.1.0 in
    of_text place text (40 ∷ (within ++ 41 ∷ part.0)) (all_without_spans (forms_and (plain_list (span_from n (1 + length within + 1)) members) fs)) part.1.1
    (record {
      found = forms_and (plain_list (span_from place (1 + length within + 1)) m.found) r.found;
      given = Gives.list whole_text place within part.0 m.found r.found m.given r.given;
      same = ap (λ ms. forms_and (plain_list nowhere ms) (all_without_spans r.found)) m.same ∙ ap (forms_and (plain_list nowhere (all_without_spans members))) r.same;
    })
outside ending at place all text forms (Gives.literal e n spelling content behind fs stands small more) inner is =
    let part = cut_at 34 (34 ∷ spelling) behind text (λ same. absurd (omega (arith, same))) is in
    let r = outside e (n + 1 + length spelling + 1) (place + 1 + length spelling + 1) behind part.0 fs more inner part.1.0 in
    of_text place text (34 ∷ (spelling ++ 34 ∷ part.0)) (all_without_spans (forms_and (plain_text (span_from n (1 + length spelling + 1)) content) fs)) part.1.1
    (record {
      found = forms_and (plain_text (span_from place (1 + length spelling + 1)) content) r.found;
      given = Gives.literal whole_text place spelling content part.0 r.found stands small r.given;
      same = ap (forms_and (plain_text nowhere content)) r.same;
    })
outside ending at place all text forms (Gives.number e n token behind value fs tok num more) inner is =
    let part = cut_token token behind text tok.undivided is in
    let r = outside e (n + length token) (place + length token) behind part.0 fs more inner part.1.0 in
    of_text place text (token ++ part.0) (all_without_spans (forms_and (plain_int (span_from n (length token)) value) fs)) part.1.1
    (record {
      found = forms_and (plain_int (span_from place (length token)) value) r.found;
      given = Gives.number whole_text place token part.0 value r.found (record { undivided = tok.undivided; ends = line_ends behind part.0 part.1.0 tok.ends }) num r.given;
      same = ap (forms_and (plain_int nowhere value)) r.same;
    })
outside ending at place all text forms (Gives.name e n token behind fs tok named more) inner is =
    let part = cut_token token behind text tok.undivided is in
    let r = outside e (n + length token) (place + length token) behind part.0 fs more inner part.1.0 in
    of_text place text (token ++ part.0) (all_without_spans (forms_and (plain_name (span_from n (length token)) token) fs)) part.1.1
    (record {
      found = forms_and (plain_name (span_from place (length token)) token) r.found;
      given = Gives.name whole_text place token part.0 r.found (record { undivided = tok.undivided; ends = line_ends behind part.0 part.1.0 tok.ends }) named r.given;
      same = ap (forms_and (plain_name nowhere token)) r.same;
    })

-- The list that a text in parentheses is.

-- no token begins with a delimiter
token_front : (b : ℕ) (token behind rest : List ℕ) → 0 < length token → All (λ k. Delimits k → ⊥) token → Delimits b → token ++ behind ≡ b ∷ rest → ⊥
token_front b [] behind rest some none is e = absurd (omega arith)
token_front b (x ∷ token) behind rest some none is e = let h = heads e in All-head (λ k. Delimits k → ⊥) x token none (subst Delimits (sym h.0) is)

no_separator : (b c : ℕ) → is_separator c ≡ false → Separates b → b ≡ c → ⊥
no_separator b c fails sep same = absurd (false≢true (sym fails ∙ ap is_separator (sym same) ∙ separates_test b sep))

-- nothing is given that begins with a closing parenthesis
no_closing : (ending : Ending) (at : ℕ) (text rest : List ℕ) (forms : PlainForms) → Gives ending at text forms → text ≡ 41 ∷ rest → ⊥
no_closing ending at text rest forms (Gives.nothing e n) is = absurd (cc)
no_closing ending at text rest forms (Gives.separator e n b bytes fs sep more) is = no_separator b 41 refl sep (heads is).0
no_closing ending at text rest forms (Gives.comment e n bytes behind fs none more) is = let h = heads is in absurd (omega (arith, h.0))
no_closing ending at text rest forms (Gives.last_comment n bytes none) is = let h = heads is in absurd (omega (arith, h.0))
no_closing ending at text rest forms (Gives.list e n within behind members fs given more) is = let h = heads is in absurd (omega (arith, h.0))
no_closing ending at text rest forms (Gives.literal e n spelling content behind fs stands small more) is = let h = heads is in absurd (omega (arith, h.0))
no_closing ending at text rest forms (Gives.number e n token behind value fs tok num more) is = token_front 41 token
    behind rest (numeral_some token value num) tok.undivided Delimits.closing_parenthesis is
no_closing ending at text rest forms (Gives.name e n token behind fs tok named more) is = token_front 41 token behind rest (name_some token named) tok.undivided Delimits.closing_parenthesis is

-- a line feed and a closing parenthesis at the end are after the comment, or end it
comment_end : (bytes behind front : List ℕ) → HaveNoLineFeed bytes → bytes ++ 10 ∷ behind ≡ front ++ 10 ∷ 41 ∷ [] → (behind ≡ 41 ∷ []) ⊎ ((more : List ℕ) × (behind ≡ more ++ 10 ∷ 41 ∷ []))
comment_end [] behind [] none e = inl (heads e).1
comment_end [] behind (y ∷ front) none e = inr (front, (heads e).1)
comment_end (b ∷ bytes) behind [] none e = absurd (first_none b bytes none (heads e).0)
comment_end (b ∷ bytes) behind (y ∷ front) none e = comment_end bytes behind front (behind_none b bytes none) (heads e).1

no_feed_inside : (bytes front : List ℕ) → HaveNoLineFeed bytes → bytes ≡ front ++ 10 ∷ 41 ∷ [] → ⊥
no_feed_inside [] [] none e = absurd (cc)
no_feed_inside [] (y ∷ front) none e = absurd (cc)
no_feed_inside (b ∷ bytes) [] none e = first_none b bytes none (heads e).0
no_feed_inside (b ∷ bytes) (y ∷ front) none e = no_feed_inside bytes front (behind_none b bytes none) (heads e).1

-- no forms are not given by what ends with a line feed and a closing parenthesis
no_end : (ending : Ending) (at : ℕ) (text front : List ℕ) (forms : PlainForms) → Gives ending at text forms → forms ≡ no_forms → text ≡ front ++ 10 ∷ 41 ∷ [] → ⊥
no_end ending at text [] forms (Gives.nothing e n) empty is = absurd (cc)
no_end ending at text (y ∷ front) forms (Gives.nothing e n) empty is = absurd (cc)
no_end ending at text [] forms (Gives.separator e n b bytes fs sep more) empty is = no_closing e (n + 1) bytes [] fs more (heads is).1
no_end ending at text (y ∷ front) forms (Gives.separator e n b bytes fs sep more) empty is = no_end e (n + 1) bytes front fs more empty (heads is).1
no_end ending at text [] forms (Gives.comment e n bytes behind fs none more) empty is = let h = heads is in absurd (omega (arith, h.0))
no_end ending at text (y ∷ front) forms (Gives.comment e n bytes behind fs none more) empty is =
    elim (comment_end bytes behind front none (heads is).1) [
      | inl last ↦ no_closing e (n + 1 + length bytes + 1) behind [] fs more last
      | inr part ↦ no_end e (n + 1 + length bytes + 1) behind part.0 fs more empty part.1
    ]
no_end ending at text [] forms (Gives.last_comment n bytes none) empty is = let h = heads is in absurd (omega (arith, h.0))
no_end ending at text (y ∷ front) forms (Gives.last_comment n bytes none) empty is = no_feed_inside bytes front none (heads is).1
no_end ending at text front forms (Gives.list e n within behind members fs given more) empty is = absurd (cc)
no_end ending at text front forms (Gives.literal e n spelling content behind fs stands small more) empty is = absurd (cc)
no_end ending at text front forms (Gives.number e n token behind value fs tok num more) empty is = absurd (cc)
no_end ending at text front forms (Gives.name e n token behind fs tok named more) empty is = absurd (cc)

-- the text inside is the whole line, or what stands after the list ends with a line feed and a closing parenthesis
inside_end : (within behind text : List ℕ) → within ++ 41 ∷ behind ≡ line text ++ 41 ∷ [] → (within ≡ line text) ⊎ ((front : List ℕ) × (behind ≡ front ++ 10 ∷ 41 ∷ []))
inside_end [] behind [] e = absurd (omega (arith, (heads e).0))
inside_end [] behind (y ∷ text) e = inr (text, (heads e).1 ∙ append_assoc text (10 ∷ []) (41 ∷ []))
inside_end (x ∷ []) behind [] e = inl (ap (λ k. k ∷ []) (heads e).0)
inside_end (x ∷ y ∷ []) behind [] e = let bad : 41 ∷ behind ≡ [] = (heads (heads e).1).1 in absurd (cc)
inside_end (x ∷ y ∷ z ∷ within) behind [] e = let bad : z ∷ (within ++ 41 ∷ behind) ≡ [] = (heads (heads e).1).1 in absurd (cc)
inside_end (x ∷ within) behind (y ∷ text) e =
    elim (inside_end within behind text (heads e).1) [
      | inl whole ↦ inl (ap (λ k. k ∷ within) (heads e).0 ∙ ap (λ t. y ∷ t) whole)
      | inr part ↦ inr part
    ]

list_members : (span : Span) (members others forms : PlainForms) → all_without_spans (forms_and (plain_list span members) others) ≡ forms_and (plain_list nowhere forms) no_forms →
    (all_without_spans members ≡ forms) × (all_without_spans others ≡ no_forms)
list_members span members others forms e = (cc, cc)

none_without : (forms : PlainForms) → all_without_spans forms ≡ no_forms → forms ≡ no_forms
none_without no_forms e = refl
none_without (forms_and form forms) e = absurd (cc)

listed : (ending : Ending) (at place : ℕ) (all text : List ℕ) (found forms : PlainForms) → Gives ending at all found → all ≡ in_parentheses text →
    all_without_spans found ≡ forms_and (plain_list nowhere forms) no_forms → GivesAside whole_text place text forms
listed ending at place all text found forms (Gives.nothing e n) is same = absurd (cc)
listed ending at place all text found forms (Gives.separator e n b bytes fs sep more) is same = absurd (no_separator b 40 refl sep (heads is).0)
listed ending at place all text found forms (Gives.comment e n bytes behind fs none more) is same = absurd (omega (arith, (heads is).0))
listed ending at place all text found forms (Gives.last_comment n bytes none) is same = absurd (omega (arith, (heads is).0))
listed ending at place all text found forms (Gives.list e n within behind members fs given more) is same =
    let both = list_members (span_from n (1 + length within + 1)) members fs forms same in
    elim (inside_end within behind text (heads is).1) [
      | inl whole ↦
          let r = outside inside_list (n + 1) place within text members given refl whole in
          record { found = r.found; given = r.given; same = r.same ∙ both.0 }
      | inr part ↦ absurd (no_end e (n + 1 + length within + 1) behind part.0 fs more (none_without fs both.1) part.1)
    ]
listed ending at place all text found forms (Gives.literal e n spelling content behind fs stands small more) is same = absurd (omega (arith, (heads is).0))
listed ending at place all text found forms (Gives.number e n token behind value fs tok num more) is same =
    absurd (token_front 40 token behind (line text ++ 41 ∷ []) (numeral_some token value num) tok.undivided Delimits.opening_parenthesis is)
listed ending at place all text found forms (Gives.name e n token behind fs tok named more) is same =
    absurd (token_front 40 token behind (line text ++ 41 ∷ []) (name_some token named) tok.undivided Delimits.opening_parenthesis is)

-- The law.

mutual
  nesting_aside : (form : PlainSexpr) → nesting (without_spans form) ≡ nesting form
  nesting_aside (plain_name span bytes) = refl
  nesting_aside (plain_int span value) = refl
  nesting_aside (plain_text span content) = refl
  nesting_aside (plain_list span forms) = ap (λ n. n + 1) (all_nesting_aside forms)

  all_nesting_aside : (forms : PlainForms) → nesting_of (all_without_spans forms) ≡ nesting_of forms
  all_nesting_aside no_forms = refl
  all_nesting_aside (forms_and form forms) = let a = nesting_aside form in let b = all_nesting_aside forms in cc

length_inside : (text : List ℕ) → length (in_parentheses text) ≡ length text + 3
length_inside text = omega (arith, length-append (line text) (41 ∷ []), length-append text (10 ∷ []))

utf8_inside : (text : List ℕ) → IsUtf8 text → IsUtf8 (in_parentheses text)
utf8_inside text utf8 =
    IsUtf8-append (40 ∷ []) (line text ++ 41 ∷ []) (one_ascii 40 (omega arith))
    (IsUtf8-append (line text) (41 ∷ []) (IsUtf8-append text (10 ∷ []) utf8 (one_ascii 10 (omega arith))) (one_ascii 41 (omega arith)))

utf8_outside : (text : List ℕ) → IsUtf8 (in_parentheses text) → IsUtf8 text
utf8_outside text utf8 =
    let low : 10 < 128 = omega arith in
    let low' : 41 < 128 = omega arith in
    utf8_front text (10 ∷ []) low (utf8_front (line text) (41 ∷ []) low' (utf8_behind 40 (line text ++ 41 ∷ []) (omega arith) utf8))

spells_aside : (text : List ℕ) (forms : PlainForms) → length text ≤ 1048576 → IsUtf8 text → nesting_of forms ≤ 256 → GivesAside whole_text 0 text forms → SpellsAside text forms
spells_aside text forms short utf8 shallow g =
    let same : plain_forms (forms_list g.found) ≡ g.found = plain_forms-forms_list g.found in
    let is : IsGrammatical text (forms_list g.found) =
    record {
      short = short;
      utf8 = utf8;
      given = subst (λ (fs : PlainForms). Gives whole_text 0 text fs) (sym same) g.given;
      shallow = omega (arith, ap nesting_of same, ap nesting_of g.same, all_nesting_aside g.found, shallow);
    } in
    (forms_list g.found, (spells_by_the_grammar text (forms_list g.found)).1 is, ap all_without_spans same ∙ g.same)

list_shallow : (forms : PlainForms) → nesting_of forms < 256 → nesting_of (forms_and (plain_list nowhere forms) no_forms) ≤ 256
list_shallow forms h = omega arith

list_deep : (forms found : PlainForms) → all_without_spans found ≡ forms_and (plain_list nowhere forms) no_forms → nesting_of found ≤ 256 → nesting_of forms < 256
list_deep forms found same h =
    let is : nesting_of found ≡ max (nesting_of forms + 1) 0 = sym (all_nesting_aside found) ∙ ap nesting_of same in omega (arith, is, h)

pub a_list_is_its_forms : AListIsItsForms
a_list_is_its_forms text forms room = (
  λ alone.
      let is : IsGrammatical text alone.0.0 = (spells_by_the_grammar text alone.0.0).0 alone.0.1 in
      let m = inside whole_text 0 1 text (plain_forms alone.0.0) is.given in
      let same : all_without_spans m.found ≡ forms = m.same ∙ alone.0.2 in
      spells_aside (in_parentheses text) (forms_and (plain_list nowhere forms) no_forms) (omega (arith, length_inside text, room)) (utf8_inside text is.utf8) (list_shallow forms alone.1)
      (record {
        found = forms_and (plain_list (span_from 0 (1 + length (line text) + 1)) m.found) no_forms;
        given = Gives.list whole_text 0 (line text) [] m.found no_forms m.given (Gives.nothing whole_text (0 + 1 + length (line text) + 1));
        same = ap (λ ms. forms_and (plain_list nowhere ms) no_forms) same;
      }),
  λ listed_so.
      let is : IsGrammatical (in_parentheses text) listed_so.0 = (spells_by_the_grammar (in_parentheses text) listed_so.0).0 listed_so.1 in
      let g = listed whole_text 0 0 (in_parentheses text) text (plain_forms listed_so.0) forms is.given refl listed_so.2 in
      let deep = list_deep forms (plain_forms listed_so.0) listed_so.2 is.shallow in
      (spells_aside text forms (omega (arith, room)) (utf8_outside text is.utf8) (omega (arith, deep)) g, deep),
)
