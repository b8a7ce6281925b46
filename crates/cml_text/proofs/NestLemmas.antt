-- The lexemes so far, as others are opened and closed.
use Rattle.std.proofs.Common.{◌≡◌, ℕ, ◌+◌, ◌-◌, ◌<◌, ◌≤◌, true, ltb, List, [], ◌∷◌, ◌++◌, length, refl, ap, sym, ◌∙◌, arith, append_assoc}
use Rattle.std.specs.Prelude.{map, reverse}
use Rattle.std.proofs.lemmas.List.{append-nil, map-append, reverse-append, length-reverse, length-map}
use Rattle.std.proofs.lemmas.Bool.Decides.{nat_tests}
use Rattle.cml_text.specs.declared.nest.OpenList.{OpenList}
use Rattle.cml_text.specs.declared.sexpr.Span.{Span}
use Rattle.cml_text.specs.Forms.{PlainSexpr, plain_list, plain_forms}
use Rattle.cml_text.specs.Lexemes.{opening, closing, leaf}
use Rattle.cml_text.specs.Texts.{words, first_fault}
use Rattle.cml_text.specs.Steps.{IsLeaf}
use Rattle.cml_text.specs.Nests.{words_in, words_before, words_so_far, starts, TakesWord}

pub words_in-push : (forms : List PlainSexpr) (form : PlainSexpr) → words_in (forms ++ form ∷ []) ≡ words_in forms ++ words form
words_in-push [] form = append-nil (words form)
words_in-push (first ∷ forms) form = ap (λ ws. words first ++ ws) (words_in-push forms form) ∙ sym (append_assoc (words first) (words_in forms) (words form))

pub words_before-push : (lists : List OpenList) (list : OpenList) → words_before (lists ++ list ∷ []) ≡ words_before lists ++ (words_in list.before.items ++ opening list.start ∷ [])
words_before-push [] list = refl
words_before-push (first ∷ lists) list =
    ap (λ ws. words_in first.before.items ++ opening first.start ∷ ws) (words_before-push lists list)
    ∙ sym (append_assoc (words_in first.before.items) (opening first.start ∷ words_before lists) (words_in list.before.items ++ opening list.start ∷ []))

pub starts-push : (lists : List OpenList) (list : OpenList) → starts (lists ++ list ∷ []) ≡ list.start ∷ starts lists
starts-push lists list = ap reverse (map-append (λ l. l.start) lists (list ∷ [])) ∙ reverse-append (map (λ l. l.start) lists) (list.start ∷ [])

pub length-starts : (lists : List OpenList) → length (starts lists) ≡ length lists
length-starts lists = length-reverse (map (λ l. l.start) lists) ∙ length-map lists (λ l. l.start)

-- a list was opened
pub takes_opening : (lists lists' : List OpenList) (forms forms' : List PlainSexpr) (list : OpenList) (at : ℕ)
    → length lists < 256 → lists' ≡ lists ++ list ∷ [] → list.start ≡ at → list.before.items ≡ forms → forms' ≡ [] →
    TakesWord (opening at) lists forms lists' forms'
takes_opening lists lists' forms forms' list at room is starts_at before none =
    record {
      taken =
          ap (λ o. words_so_far o forms') is ∙ ap (λ f. words_so_far (lists ++ list ∷ []) f) none ∙ append-nil (words_before (lists ++ list ∷ [])) ∙ words_before-push lists list
          ∙ ap (λ f. words_before lists ++ (words_in f ++ opening list.start ∷ [])) before ∙ ap (λ n. words_before lists ++ (words_in forms ++ opening n ∷ [])) starts_at
          ∙ sym (append_assoc (words_before lists) (words_in forms) (opening at ∷ []));
      goes_on = λ rest.
          let few : length (starts lists) < 256 = omega (arith, length-starts lists) in
          let test : ltb (length (starts lists)) 256 ≡ true = grind (arith, nat_tests) in
          let next : starts lists' ≡ at ∷ starts lists = ap starts is ∙ starts-push lists list ∙ ap (λ n. n ∷ starts lists) starts_at in
          rw test (ap (first_fault rest) (sym next));
    }

-- a list was closed
pub takes_closing : (lists lists' : List OpenList) (forms forms' : List PlainSexpr) (list : OpenList) (at : ℕ)
    (span : Span) → lists ≡ lists' ++ list ∷ [] → span.start ≡ list.start → span.end ≡ at + 1 →
    forms' ≡ list.before.items ++ plain_list span (plain_forms forms) ∷ [] → TakesWord (closing (at + 1)) lists forms lists' forms'
takes_closing lists lists' forms forms' list at span is starts_at ends_at made =
    record {
      taken =
          ap (λ f. words_so_far lists' f) made ∙ ap (λ ws. words_before lists' ++ ws) (words_in-push list.before.items (plain_list span (plain_forms forms)))
          ∙ ap (λ n. words_before lists' ++ (words_in list.before.items ++ opening n ∷ (words_in forms ++ closing span.end ∷ []))) starts_at
          ∙ ap (λ n. words_before lists' ++ (words_in list.before.items ++ opening list.start ∷ (words_in forms ++ closing n ∷ []))) ends_at
          ∙ sym (ap (λ o. words_so_far o forms ++ closing (at + 1) ∷ []) is ∙ ap (λ ws. (ws ++ words_in forms) ++ closing (at + 1) ∷ []) (words_before-push lists' list) ∙ simp append_assoc);
      goes_on = λ rest.
          let next : starts lists ≡ list.start ∷ starts lists' = ap starts is ∙ starts-push lists' list in
          rw next refl;
    }

-- a form that is no list was taken
pub takes_leaf : (lists : List OpenList) (forms forms' : List PlainSexpr) (form : PlainSexpr) → IsLeaf form → forms' ≡ forms ++ form ∷ [] → TakesWord (leaf form) lists forms lists forms'
takes_leaf lists forms forms' form one made =
    record {
      taken =
          ap (λ f. words_so_far lists f) made ∙ ap (λ ws. words_before lists ++ ws) (words_in-push forms form ∙ ap (λ ws. words_in forms ++ ws) one)
          ∙ sym (append_assoc (words_before lists) (words_in forms) (leaf form ∷ []));
      goes_on = λ rest. refl;
    }
