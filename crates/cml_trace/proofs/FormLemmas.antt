-- What lists of forms are.
use Rattle.std.proofs.Common.{◌≡◌, ℕ, ◌<◌, ◌≤◌, List, [], ◌∷◌, map, drop, length, get_or, Option, Some, None, option_map, IfSome, refl, ap, sym, subst, ◌∙◌, arith, suc, zero}
use Rattle.std.specs.Borrow.{Bor}
use Rattle.cml_text.specs.Forms.{PlainSexpr, plain_list, plain_forms, forms_list, nesting, nesting_of}
use Rattle.cml_text.specs.declared.sexpr.Span.{Span}
use Rattle.cml_trace.specs.declared.keyword.Keyword.{Keyword}
use Rattle.cml_trace.specs.Keywords.{head_of, keyword_from}
use Rattle.cml_trace.specs.ValueForms.{value_from}
use Rattle.cml_trace.specs.GroupForms.{group_from, groups_from, group_by, list_by}

pub forms_list-plain : (forms : List PlainSexpr) → forms_list (plain_forms forms) ≡ forms
forms_list-plain [] = refl
forms_list-plain (form ∷ forms) = ap (λ fs. form ∷ fs) (forms_list-plain forms)

pub groups_from-plain : (forms : List PlainSexpr) → groups_from (plain_forms forms) ≡ map group_from forms
groups_from-plain [] = refl
groups_from-plain (form ∷ forms) = ap (λ gs. group_from form ∷ gs) (groups_from-plain forms)

-- a list of 1 form, or of more than 3, is no value
pub value_from-one : (span : Span) (forms : List PlainSexpr) → length forms ≡ 1 → None ≡ value_from (plain_list span (plain_forms forms))
value_from-one span [] n = absurd (omega arith)
value_from-one span (a ∷ []) n = refl
value_from-one span (a ∷ b ∷ forms) n = absurd (omega arith)

pub value_from-long : (span : Span) (forms : List PlainSexpr) → 4 ≤ length forms → None ≡ value_from (plain_list span (plain_forms forms))
value_from-long span [] n = absurd (omega arith)
value_from-long span (a ∷ []) n = absurd (omega arith)
value_from-long span (a ∷ b ∷ []) n = absurd (omega arith)
value_from-long span (a ∷ b ∷ c ∷ []) n = absurd (omega arith)
value_from-long span (a ∷ b ∷ c ∷ d ∷ forms) n = refl

-- the group of a list, by what stands at its head
pub group_from-list : (span : Span) (forms : List PlainSexpr) → group_from (plain_list span (plain_forms forms)) ≡ list_by (head_of forms) (map group_from forms)
group_from-list span forms = ap (λ fs. list_by (head_of fs) (groups_from (plain_forms forms))) (forms_list-plain forms) ∙ ap (λ gs. list_by (head_of forms) gs) (groups_from-plain forms)

tail_of : (first : PlainSexpr) (rest : List PlainSexpr) (o : Option Keyword) (keyword : Keyword) (behind : List PlainSexpr) →
    option_map {U = Keyword × List PlainSexpr} (λ w. (w, rest)) o ≡ Some (keyword, behind) → rest ≡ behind
tail_of first rest None keyword behind e = cc
tail_of first rest (Some w) keyword behind e =
    let same : (w, rest) ≡ (keyword, behind) = cc in
    ap (λ (p : Keyword × List PlainSexpr). p.1) same

-- the groups of the forms after the head
pub groups_behind : (forms : List PlainSexpr) (keyword : Keyword) (behind : List PlainSexpr) → head_of forms ≡ Some (keyword, behind) → drop 1 (map group_from forms) ≡ map group_from behind
groups_behind [] keyword behind e = cc
groups_behind (first ∷ rest) keyword behind e = ap (λ fs. map group_from fs) (tail_of first rest (keyword_from first) keyword behind e)

-- the forms after the head are no deeper than all
pub nesting_behind : (forms : List PlainSexpr) (keyword : Keyword) (behind : List PlainSexpr) → head_of forms
    ≡ Some (keyword, behind) → nesting_of (plain_forms behind) ≤ nesting_of (plain_forms forms)
nesting_behind [] keyword behind e = cc
nesting_behind (first ∷ rest) keyword behind e =
    let same : nesting_of (plain_forms rest) ≡ nesting_of (plain_forms behind) = ap (λ fs. nesting_of (plain_forms fs)) (tail_of first rest (keyword_from first) keyword behind e) in
    omega arith

-- the group of a list with a keyword at its head
pub group_from-headed : (span : Span) (forms : List PlainSexpr) (o : Option (Keyword × Bor (List PlainSexpr))) →
    option_map (λ head. (head.0, head.1.now)) o ≡ head_of forms →
    IfSome o (λ head. group_from (plain_list span (plain_forms forms)) ≡ group_by head.0 head.1.now (map group_from head.1.now))
group_from-headed span forms None e = tt
group_from-headed span forms (Some head) e =
    group_from-list span forms
    ∙ ap (λ h. list_by h (map group_from forms)) (sym e)
    ∙ ap (λ gs. group_by head.0 head.1.now gs) (groups_behind forms head.0 head.1.now (sym e))

pub nesting-headed : (span : Span) (forms : List PlainSexpr) (o : Option (Keyword × Bor (List PlainSexpr))) →
    option_map (λ head. (head.0, head.1.now)) o ≡ head_of forms →
    IfSome o (λ head. nesting_of (plain_forms head.1.now) < nesting (plain_list span (plain_forms forms)))
nesting-headed span forms None e = tt
nesting-headed span forms (Some head) e = omega (arith, nesting_behind forms head.0 head.1.now (sym e))

-- no form lies as deep as the list of which it is a member
member_below_at : (forms : List PlainSexpr) (i : ℕ) (d : PlainSexpr) → i < length forms → nesting (get_or forms i d) ≤ nesting_of (plain_forms forms)
member_below_at [] i d lt = absurd (omega arith)
member_below_at (form ∷ forms) zero d lt = omega arith
member_below_at (form ∷ forms) (suc i) d lt =
    let deeper : i < length forms = omega arith in
    omega (arith, member_below_at forms i d deeper)

pub member_below : (forms : List PlainSexpr) (i : ℕ) (form : PlainSexpr) → i < length forms → form ≡ get_or forms i form → nesting form ≤ nesting_of (plain_forms forms)
member_below forms i form lt is = subst (λ (f : PlainSexpr). nesting f ≤ nesting_of (plain_forms forms)) (sym is) (member_below_at forms i form lt)
