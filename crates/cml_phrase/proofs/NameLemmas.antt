-- The names that forms give.
use Rattle.std.proofs.Common.{◌≡◌, ℕ, ◌+◌, ◌<◌, ◌≤◌, ◌≢◌, List, [], ◌∷◌, ◌++◌, length, get_or, take, map, Bor, refl, sym, ap, ◌∙◌, arith, append-nil}
use Rattle.std.specs.List.{fold}
use Rattle.std.proofs.lemmas.List.{take_more, map_push}
use Rattle.std.proofs.lemmas.List.Sums.{fold-append}
use Rattle.cml_text.specs.Forms.{PlainSexpr, plain_forms, forms_list}
use Rattle.cml_check.specs.Syntax.{Name}
use Rattle.cml_check.specs.Names.{with_name}
use Rattle.cml_phrase.specs.declared.keyword.Keyword.TheVariants as keyword
use Rattle.cml_phrase.specs.Statements.{parts_of}
use Rattle.cml_phrase.specs.Names.{form_name, name_among, let_by, parameters_among}

pub no_name : (forms : List PlainSexpr) → length forms < 2 → [] ≡ name_among (plain_forms forms)
no_name [] h = refl
no_name (a ∷ []) h = refl
no_name (a ∷ b ∷ forms) h = absurd (omega arith)

pub name_of : (forms : List PlainSexpr) (name : PlainSexpr) → 2 ≤ length forms → name ≡ get_or forms 1 name → form_name name ≡ name_among (plain_forms forms)
name_of [] name le is = absurd (omega arith)
name_of (a ∷ []) name le is = absurd (omega arith)
name_of (a ∷ b ∷ forms) name le is = ap form_name is

pub no_let : (old : List Name) (behind : List PlainSexpr) → length behind ≢ 2 → old ≡ old ++ let_by keyword.Let (plain_forms behind)
no_let old [] h = sym (append-nil old)
no_let old (x ∷ []) h = sym (append-nil old)
no_let old (x ∷ r ∷ []) h = absurd (h refl)
no_let old (x ∷ r ∷ y ∷ behind) h = sym (append-nil old)

pub let_of : (behind : List PlainSexpr) (name : PlainSexpr) → 2 ≤ length behind → length behind < 3 → name ≡ get_or behind 0 name → form_name name ∷ [] ≡ let_by keyword.Let (plain_forms behind)
let_of [] name lo hi is = absurd (omega arith)
let_of (x ∷ []) name lo hi is = absurd (omega arith)
let_of (x ∷ r ∷ []) name lo hi is = ap (λ f. form_name f ∷ []) is
let_of (x ∷ r ∷ y ∷ behind) name lo hi is = absurd (omega arith)

pub no_parameters : (old : List Name) (forms : List PlainSexpr) → length forms < 3 → old ≡ old ++ map form_name (forms_list (parameters_among (plain_forms forms)))
no_parameters old [] h = sym (append-nil old)
no_parameters old (a ∷ []) h = sym (append-nil old)
no_parameters old (a ∷ b ∷ []) h = sym (append-nil old)
no_parameters old (a ∷ b ∷ c ∷ forms) h = absurd (omega arith)

listed : (forms : List PlainSexpr) → forms_list (plain_forms forms) ≡ forms
listed [] = refl
listed (form ∷ forms) = ap (λ fs. form ∷ fs) (listed forms)

pub parameters_of : (forms parts : List PlainSexpr) (list : PlainSexpr) → 3 ≤ length forms → list ≡ get_or forms 2 list
    → plain_forms parts ≡ parts_of list → parts ≡ forms_list (parameters_among (plain_forms forms))
parameters_of [] parts list le is are = absurd (omega arith)
parameters_of (a ∷ []) parts list le is are = absurd (omega arith)
parameters_of (a ∷ b ∷ []) parts list le is are = absurd (omega arith)
parameters_of (a ∷ b ∷ c ∷ forms) parts list le is are = sym (listed parts) ∙ ap forms_list are ∙ ap (λ f. forms_list (parts_of f)) is

-- one name more was seen
pub each_next : (old new : List Name) (names : List (Bor (List ℕ))) (i : ℕ) (name : Bor (List ℕ)) → i < length names → name ≡ get_or names i name →
    new ≡ with_name old name.now → old ≡ fold with_name [] (map (λ n. n.now) (take i names)) → new ≡ fold with_name [] (map (λ n. n.now) (take (i + 1) names))
each_next old new names i name lt is added h =
    let more : take (i + 1) names ≡ take i names ++ name ∷ [] = take_more names i name lt ∙ ap (λ x. take i names ++ x ∷ []) (sym is) in
    added
    ∙ ap (λ l. with_name l name.now) h
    ∙ sym (fold-append with_name [] (map (λ n. n.now) (take i names)) (name.now ∷ []))
    ∙ ap (fold with_name []) (sym (map_push (λ (n : Bor (List ℕ)). n.now) (take i names) name))
    ∙ ap (λ l. fold with_name [] (map (λ (n : Bor (List ℕ)). n.now) l)) (sym more)
