-- How texts and lists are printed from their front.
use Rattle.std.proofs.Common.{◌≡◌, ℕ, suc, ◌+◌, ◌-◌, ◌<◌, true, false, eqb, List, [], ◌∷◌, ◌++◌, length, get_or, take, drop, refl, ap, sym, ◌∙◌, arith, append_assoc}
use Rattle.std.specs.Prelude.{flat_map}
use Rattle.std.specs.List.{prefix_len}
use Rattle.std.proofs.lemmas.Bool.Decides.{nat_tests}
use Rattle.std.proofs.lemmas.List.{length-drop, get_or-drop, append-nil, take_more, length-take-le}
use Rattle.std.proofs.lemmas.List.Sums.{prefix_len_stops}
use Rattle.cml_text.specs.Forms.{PlainSexpr, plain_forms}
use Rattle.cml_text.specs.Printed.{escaped, needs_no_escape, printed_form, printed_members, printed_behind, printed}
use Rattle.cml_text.proofs.WordLemmas.{cases_test}
use Rattle.std.proofs.Common.{inl, inr}

pub escaped_plain : (b : ℕ) → needs_no_escape b ≡ true → escaped b ≡ b ∷ []
escaped_plain b h =
    let e0 : eqb b 34 ≡ false = grind (arith, nat_tests) in
    let e1 : eqb b 92 ≡ false = grind (arith, nat_tests) in
    let e2 : eqb b 10 ≡ false = grind (arith, nat_tests) in
    rw e0 (rw e1 (rw e2 refl))

-- the bytes up to the first that needs an escape are printed as they are
pub escaped_run : (bytes : List ℕ) → flat_map escaped bytes ≡ take (prefix_len needs_no_escape bytes) bytes ++ flat_map escaped (drop (prefix_len needs_no_escape bytes) bytes)
escaped_run [] = refl
escaped_run (b ∷ bytes) =
    elim (cases_test (needs_no_escape b)) [
      | inl e ↦
          let k : 1 + prefix_len needs_no_escape bytes ≡ suc (prefix_len needs_no_escape bytes) = omega arith in
          rw e (rw k (ap (λ e. e ++ flat_map escaped bytes) (escaped_plain b e) ∙ ap (λ r. b ∷ r) (escaped_run bytes)))
      | inr e ↦ rw e refl
    ]

-- the bytes up to the first escape were appended
pub appended_run : (old new rest plain special bytes : List ℕ) (n : ℕ) → n ≡ prefix_len needs_no_escape bytes → bytes ≡ rest → plain ≡ take n rest → special ≡ drop n rest → new ≡ old ++ plain →
    new ++ flat_map escaped special ≡ old ++ flat_map escaped rest
appended_run old new rest plain special bytes n count is front back added =
    let m : n ≡ prefix_len needs_no_escape rest = count ∙ ap (prefix_len needs_no_escape) is in
    ap (λ t. t ++ flat_map escaped special) added ∙ append_assoc old plain (flat_map escaped special)
    ∙ ap (λ t. old ++ t)
    (ap (λ p. p ++ flat_map escaped special) front ∙ ap (λ s. take n rest ++ flat_map escaped s) back ∙ ap (λ k. take k rest ++ flat_map escaped (drop k rest)) m ∙ sym (escaped_run rest))

-- what follows them needs an escape, if anything follows
pub run_needs_escape : (rest special bytes : List ℕ) (n : ℕ) → n ≡ prefix_len needs_no_escape bytes → bytes ≡ rest
    → special ≡ drop n rest → 0 < length special → needs_no_escape (get_or special 0 0) ≡ false
run_needs_escape rest special bytes n count is cut more =
    let m : n ≡ prefix_len needs_no_escape rest = count ∙ ap (prefix_len needs_no_escape) is in
    let shrunk : length special ≡ length rest - n = ap length cut ∙ length-drop n rest in
    let z : n + 0 ≡ prefix_len needs_no_escape rest = omega arith in
    let here : get_or special 0 0 ≡ get_or rest (prefix_len needs_no_escape rest) 0 = ap (λ r. get_or r 0 0) cut ∙ get_or-drop n rest 0 0 ∙ ap (λ k. get_or rest k 0) z in
    rw here (prefix_len_stops needs_no_escape rest 0 (omega arith))

-- one more member of a list
printed_behind-push : (forms : List PlainSexpr) (form : PlainSexpr) → printed_behind (plain_forms (forms ++ form ∷ [])) ≡ printed_behind (plain_forms forms) ++ 32 ∷ printed_form form
printed_behind-push [] form = ap (λ t. 32 ∷ t) (append-nil (printed_form form))
printed_behind-push (first ∷ forms) form =
    ap (λ t. 32 ∷ (printed_form first ++ t)) (printed_behind-push forms form) ∙ ap (λ t. 32 ∷ t) (sym (append_assoc (printed_form first) (printed_behind (plain_forms forms)) (32 ∷ printed_form form)))

pub printed_members-first : (form : PlainSexpr) → printed_members (plain_forms (form ∷ [])) ≡ printed_form form
printed_members-first form = append-nil (printed_form form)

pub printed_members-push : (forms : List PlainSexpr) (form : PlainSexpr) → 0 < length forms
    → printed_members (plain_forms (forms ++ form ∷ [])) ≡ printed_members (plain_forms forms) ++ 32 ∷ printed_form form
printed_members-push [] form some = absurd (omega arith)
printed_members-push (first ∷ forms) form some =
    ap (λ t. printed_form first ++ t) (printed_behind-push forms form) ∙ sym (append_assoc (printed_form first) (printed_behind (plain_forms forms)) (32 ∷ printed_form form))

pub printed-push : (forms : List PlainSexpr) (form : PlainSexpr) → printed (forms ++ form ∷ []) ≡ printed forms ++ (printed_form form ++ 10 ∷ [])
printed-push [] form = refl
printed-push (first ∷ forms) form =
    ap (λ t. printed_form first ++ 10 ∷ t) (printed-push forms form) ∙ sym (append_assoc (printed_form first) (10 ∷ printed forms) (printed_form form ++ 10 ∷ []))

-- the members up to one more
first_of_list : (start text new : List ℕ) (forms : List PlainSexpr) (i : ℕ) (form : PlainSexpr) → i ≡ 0 → i < length forms → form ≡ get_or forms i form →
    text ≡ start ++ printed_members (plain_forms (take i forms)) → new ≡ text ++ printed_form form → new ≡ start ++ printed_members (plain_forms (take (i + 1) forms))
first_of_list start text new forms i form none inside is before added =
    let next : take (i + 1) forms ≡ take i forms ++ form ∷ [] = take_more forms i form inside ∙ ap (λ f. take i forms ++ f ∷ []) (sym is) in
    let empty : take i forms ≡ [] = ap (λ k. take k forms) none in
    added ∙ ap (λ t. t ++ printed_form form) (before ∙ ap (λ fs. start ++ printed_members (plain_forms fs)) empty ∙ append-nil start)
    ∙ ap (λ t. start ++ t) (sym (printed_members-first form)) ∙ ap (λ fs. start ++ printed_members (plain_forms (fs ++ form ∷ []))) (sym empty)
    ∙ ap (λ fs. start ++ printed_members (plain_forms fs)) (sym next)

pub first_member : (start text new : List ℕ) (forms : List PlainSexpr) (i : ℕ) (form : PlainSexpr) → eqb i 0 ≡ true → i < length forms → form ≡ get_or forms i form →
    text ≡ start ++ printed_members (plain_forms (take i forms)) → new ≡ text ++ printed_form form → new ≡ start ++ printed_members (plain_forms (take (i + 1) forms))
first_member start text new forms i form none inside is before added = first_of_list start text new forms i form (grind (arith, nat_tests)) inside is before added

pub later_member : (start text mid new : List ℕ) (forms : List PlainSexpr) (i : ℕ) (form : PlainSexpr) → eqb i 0 ≡ false → i < length forms → form ≡ get_or forms i form →
    text ≡ start ++ printed_members (plain_forms (take i forms)) → mid ≡ text ++ 32 ∷ [] → new ≡ mid ++ printed_form form → new ≡ start ++ printed_members (plain_forms (take (i + 1) forms))
later_member start text mid new forms i form some inside is before space added =
    let next : take (i + 1) forms ≡ take i forms ++ form ∷ [] = take_more forms i form inside ∙ ap (λ f. take i forms ++ f ∷ []) (sym is) in
    let more : 0 < i = grind (arith, nat_tests) in
    let nonempty : 0 < length (take i forms) = omega (arith, length-take-le i forms (omega arith)) in
    added ∙ ap (λ t. t ++ printed_form form) space ∙ append_assoc text (32 ∷ []) (printed_form form) ∙ ap (λ t. t ++ 32 ∷ printed_form form) before
    ∙ append_assoc start (printed_members (plain_forms (take i forms))) (32 ∷ printed_form form)
    ∙ ap (λ t. start ++ t) (sym (printed_members-push (take i forms) form nonempty)) ∙ ap (λ fs. start ++ printed_members (plain_forms fs)) (sym next)

pub form_next : (text mid new : List ℕ) (forms : List PlainSexpr) (i : ℕ) (form : PlainSexpr) → i < length forms → form ≡ get_or forms i form →
    text ≡ printed (take i forms) → mid ≡ text ++ printed_form form → new ≡ mid ++ 10 ∷ [] → new ≡ printed (take (i + 1) forms)
form_next text mid new forms i form inside is before added line =
    let next : take (i + 1) forms ≡ take i forms ++ form ∷ [] = take_more forms i form inside ∙ ap (λ f. take i forms ++ f ∷ []) (sym is) in
    line ∙ ap (λ t. t ++ 10 ∷ []) (added ∙ ap (λ t. t ++ printed_form form) before) ∙ append_assoc (printed (take i forms)) (printed_form form) (10 ∷ [])
    ∙ sym (printed-push (take i forms) form) ∙ ap printed (sym next)
