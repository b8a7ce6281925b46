-- The walk to the form that starts at a byte.
use Rattle.std.proofs.Common.{◌≡◌, ◌≢◌, ℕ, ℤ, ◌+◌, ◌-◌, ◌<◌, ◌≤◌, List, ◌∷◌, length, get_or, drop, Option}
use Rattle.std.proofs.Common.{Some, None, sym, ap, ◌∙◌, arith, nat_eq, true, false, suc, add-one, drop-cons, cond}
use Rattle.std.proofs.Math.ListN.{drop_of_length-le}
use Rattle.std.proofs.lemmas.Bool.{lt-ltb, le-ltb}
use Rattle.std.proofs.lemmas.Bool.Decides.{nat_tests}
use Rattle.cml_text.specs.declared.sexpr.Span.{Span}
use Rattle.cml_text.specs.Forms.{PlainSexpr, plain_name, plain_int, plain_text, plain_list, forms_and, plain_forms, forms_list, span_of}
use Rattle.cml_check.specs.declared.word.Word.{Word}
use Rattle.cml_explain.specs.declared.keyword.Role.{Role}
use Rattle.cml_explain.specs.Stands.{PlainStand, first_word, part_role, standing_in, stand_among}
use Rattle.cml_explain.proofs.PieceLemmas.{forms_back}

same : (a b : ℕ) → a ≡ b → nat_eq a b ≡ true
same a b h = grind (arith, nat_tests)

other : (a b : ℕ) → a ≢ b → nat_eq a b ≡ false
other a b h = grind (arith, nat_tests)

pub drop-at : {A : Type 0} (xs : List A) (i : ℕ) (x : A) → i < length xs → x ≡ get_or xs i x → drop i xs ≡ x ∷ drop (i + 1) xs
drop-at xs i x lt is = rw (add-one) (drop-cons xs i x lt ∙ ap (λ y. y ∷ drop (suc i) xs) (sym is))

pub stand_here : (at : ℕ) (role : Role) (word : Option Word) (given : ℕ) (form : PlainSexpr) → (span_of form).start ≡ at →
    standing_in at role word given form ≡ Some (record { role = role; word = word; given = given; form = form })
unfolding standing_in
stand_here at role word given (plain_name span name) h = rw (same span.start at h)
stand_here at role word given (plain_int span z) h = rw (same span.start at h)
stand_here at role word given (plain_text span bytes) h = rw (same span.start at h)
stand_here at role word given (plain_list span forms) h = rw (same span.start at h)

pub stand_below : (at : ℕ) (role : Role) (word : Option Word) (given : ℕ) (form : PlainSexpr) (forms : List PlainSexpr) →
    form ≡ plain_list (span_of form) (plain_forms forms) → (span_of form).start ≢ at →
    standing_in at role word given form ≡ stand_among at role (first_word (plain_forms forms)) (length forms - 1) 0 (plain_forms forms)
unfolding standing_in
stand_below at role word given form forms is h =
    ap (standing_in at role word given) is
    ∙ ap (λ test. cond test (Some (record { role = role; word = word; given = given; form = plain_list (span_of form) (plain_forms forms) }))
    (stand_among at role (first_word (plain_forms forms)) (length (forms_list (plain_forms forms)) - 1) 0 (plain_forms forms))) (other (span_of form).start at h)
    ∙ ap (λ fs. stand_among at role (first_word (plain_forms forms)) (length fs - 1) 0 (plain_forms forms)) (forms_back forms)

pub stand_name : (at : ℕ) (role : Role) (word : Option Word) (given : ℕ) (form : PlainSexpr) (name : List ℕ) →
    form ≡ plain_name (span_of form) name → (span_of form).start ≢ at → standing_in at role word given form ≡ None
unfolding standing_in
stand_name at role word given form name is h =
    ap (standing_in at role word given) is
    ∙ ap (λ test. cond test (Some (record { role = role; word = word; given = given; form = plain_name (span_of form) name })) None) (other (span_of form).start at h)

pub stand_int : (at : ℕ) (role : Role) (word : Option Word) (given : ℕ) (form : PlainSexpr) (z : ℤ) →
    form ≡ plain_int (span_of form) z → (span_of form).start ≢ at → standing_in at role word given form ≡ None
unfolding standing_in
stand_int at role word given form z is h =
    ap (standing_in at role word given) is
    ∙ ap (λ test. cond test (Some (record { role = role; word = word; given = given; form = plain_int (span_of form) z })) None) (other (span_of form).start at h)

pub stand_text : (at : ℕ) (role : Role) (word : Option Word) (given : ℕ) (form : PlainSexpr) (text : List ℕ) →
    form ≡ plain_text (span_of form) text → (span_of form).start ≢ at → standing_in at role word given form ≡ None
unfolding standing_in
stand_text at role word given form text is h =
    ap (standing_in at role word given) is
    ∙ ap (λ test. cond test (Some (record { role = role; word = word; given = given; form = plain_text (span_of form) text })) None) (other (span_of form).start at h)

-- from one part to the next
step : (at : ℕ) (role : Role) (word : Option Word) (given i : ℕ) (forms : List PlainSexpr) (form : PlainSexpr) (all : Option PlainStand) →
    i < length forms → form ≡ get_or forms i form → stand_among at role word given i (plain_forms (drop i forms)) ≡ all →
    stand_among at role word given i (forms_and form (plain_forms (drop (i + 1) forms))) ≡ all
step at role word given i forms form all lt is inv = ap (λ fs. stand_among at role word given i (plain_forms fs)) (sym (drop-at forms i form lt is)) ∙ inv

pub stand-taken : (at : ℕ) (role : Role) (word : Option Word) (given i : ℕ) (forms : List PlainSexpr) (form : PlainSexpr) (all : Option PlainStand) (span : Span) →
    i < length forms → form ≡ get_or forms i form → span ≡ span_of form → at < span.end → stand_among at role word given i (plain_forms (drop i forms)) ≡ all →
    standing_in at (part_role i role word) word given form ≡ all
unfolding stand_among
stand-taken at role word given i forms form all span lt is e before inv =
    let ends : span.end ≡ (span_of form).end = ap (λ s. s.end) e in
    let below : at < (span_of form).end = omega arith in
    let s : stand_among at role word given i (forms_and form (plain_forms (drop (i + 1) forms))) ≡ all = step at role word given i forms form all lt is inv in
    rw (lt-ltb at (span_of form).end below) at s

pub stand-skipped : (at : ℕ) (role : Role) (word : Option Word) (given i : ℕ) (forms : List PlainSexpr) (form : PlainSexpr) (all : Option PlainStand) (span : Span) →
    i < length forms → form ≡ get_or forms i form → span ≡ span_of form → span.end ≤ at → stand_among at role word given i (plain_forms (drop i forms)) ≡ all →
    stand_among at role word given (i + 1) (plain_forms (drop (i + 1) forms)) ≡ all
unfolding stand_among
stand-skipped at role word given i forms form all span lt is e behind inv =
    let ends : span.end ≡ (span_of form).end = ap (λ s. s.end) e in
    let above : (span_of form).end ≤ at = omega arith in
    let s : stand_among at role word given i (forms_and form (plain_forms (drop (i + 1) forms))) ≡ all = step at role word given i forms form all lt is inv in
    rw (le-ltb at (span_of form).end above) at s

pub stand-end : (at : ℕ) (role : Role) (word : Option Word) (given i : ℕ) (forms : List PlainSexpr) (all : Option PlainStand) →
    length forms ≤ i → stand_among at role word given i (plain_forms (drop i forms)) ≡ all → None ≡ all
unfolding stand_among
stand-end at role word given i forms all le inv = ap (λ fs. stand_among at role word given i (plain_forms fs)) (sym (drop_of_length-le forms le)) ∙ inv
