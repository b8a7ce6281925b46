-- The heads of items.
use Rattle.std.proofs.Common.{◌≡◌, ℕ, ◌+◌, ◌<◌, ◌≤◌, true, false, cond, List, [], ◌∷◌, ◌++◌, length, get_or, map, drop, Option, Some, None, Ok, Err, refl, sym, ap, ◌∙◌, arith, nat_eq, inl, inr}
use Rattle.std.specs.List.{slice_get}
use Rattle.std.specs.Option.{option_map}
use Rattle.std.specs.Prelude.{unwrap_or}
use Rattle.std.proofs.Math.ListN.{drop_of_length-le}
use Rattle.std.proofs.lemmas.Bool.{lt-ltb, le-ltb}
use Rattle.std.proofs.lemmas.List.{map_push}
use Rattle.std.proofs.lemmas.Option.{slice_get-map, unwrap_or-slice_get, slice_get_read, slice_get_cases}
use mathlib.Core.Bool.{true≢false}
use Rattle.cml_text.specs.Forms.{PlainSexpr, plain_list, PlainForms, forms_and, plain_forms, span_of}
use Rattle.cml_check.specs.declared.fault.CheckFault.{CheckFault}
use Rattle.cml_check.specs.declared.fault.CheckKind.TheVariants.{Form, Double, Limit}
use Rattle.cml_check.specs.declared.head.Head.{Head}
use Rattle.cml_check.specs.Syntax.{Name}
use Rattle.cml_check.specs.Checked.{Checked, ◌>>=◌, Fails, check_fault}
use Rattle.cml_check.specs.Names.{has_name, with_name, free_name}
use Rattle.cml_check.specs.Heads.{PlainHead, arities_of, takes, is_arity, name_place, parameters_in, parameters_from, heads_from, head_in, head_by, added}
use Rattle.cml_check.specs.HeadViews.{plain_head, plain_heads, head_names}
use Rattle.cml_text.specs.declared.sexpr.Span.{Span}
use Rattle.cml_check.specs.declared.word.Word.TheVariants as word
use Rattle.cml_check.specs.Words.{word_from}
use Rattle.cml_check.specs.Parts.{is_list, is_headed}
use Rattle.cml_check.proofs.CheckedLemmas.{fails-as, drop-at}

composed : {A B C : Type 0} (f : B → C) (g : A → B) (o : Option A) → option_map f (option_map g o) ≡ option_map (λ x. f (g x)) o
composed f g None = refl
composed f g (Some x) = refl

arity-at : (heads : List Head) (n : ℕ) → slice_get (arities_of (plain_heads heads)) n ≡ option_map (λ head. length head.parameters) (slice_get heads n)
arity-at heads n =
    slice_get-map (λ (head : PlainHead). length head.parameters) (plain_heads heads) n
    ∙ ap (option_map (λ (head : PlainHead). length head.parameters)) (slice_get-map plain_head heads n)
    ∙ composed (λ (head : PlainHead). length head.parameters) plain_head (slice_get heads n)

none-past : {A : Type 0} (xs : List A) (i : ℕ) → length xs ≤ i → slice_get xs i ≡ None
none-past xs i le = elim (slice_get_cases xs i).1 [ inl h ↦ absurd (omega (arith, h.1)) | inr h ↦ h.1 ]

-- how many values the function of a number takes, by its head
pub takes-some : (heads : List Head) (n count : ℕ) (head : Head) → n < length heads → head ≡ get_or heads n head →
    takes (arities_of (plain_heads heads)) n count ≡ nat_eq (length head.parameters) count
takes-some heads n count head lt is =
    ap (λ o. is_arity o count) (arity-at heads n ∙ ap (option_map (λ head. length head.parameters)) (slice_get_read heads (length heads) n head refl lt is))

pub takes-none : (heads : List Head) (n count : ℕ) → length heads ≤ n → takes (arities_of (plain_heads heads)) n count ≡ false
takes-none heads n count le =
    ap (λ o. is_arity o count) (arity-at heads n ∙ ap (option_map (λ head. length head.parameters)) (none-past heads n le))

place-at : (heads : List Head) (n : ℕ) → name_place (plain_heads heads) n ≡ unwrap_or (option_map (λ head. head.at) (slice_get heads n)) 0
place-at heads n =
    sym (unwrap_or-slice_get (map (λ (head : PlainHead). head.at) (plain_heads heads)) n 0)
    ∙ ap (λ o. unwrap_or o 0) (slice_get-map (λ (head : PlainHead). head.at) (plain_heads heads) n
    ∙ ap (option_map (λ (head : PlainHead). head.at)) (slice_get-map plain_head heads n)
    ∙ composed (λ (head : PlainHead). head.at) plain_head (slice_get heads n))

pub place-some : (heads : List Head) (n : ℕ) (head : Head) → n < length heads → head ≡ get_or heads n head → name_place (plain_heads heads) n ≡ head.at
place-some heads n head lt is =
    place-at heads n ∙ ap (λ o. unwrap_or (option_map (λ head. head.at) o) 0) (slice_get_read heads (length heads) n head refl lt is)

-- ---- parameters

pub no_parameters : (form : PlainSexpr) → is_list form ≡ false → parameters_in form ≡ check_fault Form (span_of form)
unfolding parameters_in
no_parameters (plain_list span forms) h = absurd (true≢false h)
no_parameters form h = refl

pub list_parameters : (form : PlainSexpr) (forms : PlainForms) → form ≡ plain_list (span_of form) forms → parameters_in form ≡ parameters_from [] forms
unfolding parameters_in
list_parameters form forms h = ap parameters_in h

-- the next parameter is at fault
pub parameter-fails : (e : CheckFault) (found : List Name) (forms : List PlainSexpr) (i : ℕ) (form : PlainSexpr) (all : Checked (List Name)) →
    i < length forms → form ≡ get_or forms i form → parameters_from found (plain_forms (drop i forms)) ≡ all → Fails e (free_name form) → Fails e all
unfolding parameters_from
parameter-fails e found forms i form all lt is inv h =
    fails-as e (free_name form) _ all (ap (λ fs. parameters_from found (plain_forms fs)) (sym (drop-at forms i form lt is)) ∙ inv) h

-- the next parameter is a name
pub parameter-next : (found : List Name) (forms : List PlainSexpr) (i : ℕ) (form : PlainSexpr) (name : Name) (all : Checked (List Name)) →
    i < length forms → form ≡ get_or forms i form → parameters_from found (plain_forms (drop i forms)) ≡ all → free_name form ≡ Ok name →
    cond (has_name found name) (check_fault Form (span_of form)) (parameters_from (found ++ name ∷ []) (plain_forms (drop (i + 1) forms))) ≡ all
unfolding parameters_from
parameter-next found forms i form name all lt is inv h =
    let step : parameters_from found (plain_forms (form ∷ drop (i + 1) forms)) ≡ all = ap (λ fs. parameters_from found (plain_forms fs)) (sym (drop-at forms i form lt is)) ∙ inv in
    rw h at step

pub parameter-end : (found : List Name) (forms : List PlainSexpr) (i : ℕ) (all : Checked (List Name)) →
    length forms ≤ i → parameters_from found (plain_forms (drop i forms)) ≡ all → all ≡ Ok found
unfolding parameters_from
parameter-end found forms i all le inv = sym inv ∙ ap (λ fs. parameters_from found (plain_forms fs)) (drop_of_length-le forms le)

-- ---- heads

pub no_head : (form : PlainSexpr) → is_headed form ≡ false → head_in form ≡ check_fault Form (span_of form)
unfolding head_in
no_head (plain_list span (forms_and first behind)) h = absurd (true≢false h)
no_head form h = refl

pub headed_head : (form first : PlainSexpr) (behind : PlainForms) → form ≡ plain_list (span_of form) (forms_and first behind) → head_in form ≡ head_by (span_of form) (word_from first) behind
unfolding head_in
headed_head form first behind h = ap head_in h

pub short_head : (span : Span) (behind : List PlainSexpr) → length behind < 2 → head_by span (Some word.Fn) (plain_forms behind) ≡ check_fault Form span
unfolding head_by
short_head span (a ∷ b ∷ behind) h = absurd (omega arith)
short_head span behind h = refl

step : (found : List PlainHead) (forms : List PlainSexpr) (i : ℕ) (form : PlainSexpr) (all : Checked (List PlainHead)) →
    i < length forms → form ≡ get_or forms i form → heads_from found (drop i forms) ≡ all → heads_from found (form ∷ drop (i + 1) forms) ≡ all
step found forms i form all lt is inv = ap (heads_from found) (sym (drop-at forms i form lt is)) ∙ inv

-- where there may be one more head
roomy : (found : List PlainHead) (forms : List PlainSexpr) (i : ℕ) (form : PlainSexpr) (all : Checked (List PlainHead)) →
    i < length forms → form ≡ get_or forms i form → length found < 1024 → heads_from found (drop i forms) ≡ all →
    (head_in form >>= λ head. added found head >>= λ heads. heads_from heads (drop (i + 1) forms)) ≡ all
unfolding heads_from
roomy found forms i form all lt is few inv =
    let s : heads_from found (form ∷ drop (i + 1) forms) ≡ all = step found forms i form all lt is inv in
    rw (lt-ltb (length found) 1024 few) at s

pub head-limit : (found : List PlainHead) (forms : List PlainSexpr) (i : ℕ) (form : PlainSexpr) (all : Checked (List PlainHead)) →
    i < length forms → form ≡ get_or forms i form → 1024 ≤ length found → heads_from found (drop i forms) ≡ all → all ≡ check_fault Limit (span_of form)
unfolding heads_from
head-limit found forms i form all lt is many inv =
    let s : heads_from found (form ∷ drop (i + 1) forms) ≡ all = step found forms i form all lt is inv in
    sym (rw (le-ltb (length found) 1024 many) at s)

pub head-fails : (e : CheckFault) (found : List PlainHead) (forms : List PlainSexpr) (i : ℕ) (form : PlainSexpr) (all : Checked (List PlainHead)) →
    i < length forms → form ≡ get_or forms i form → length found < 1024 → heads_from found (drop i forms) ≡ all → Fails e (head_in form) → Fails e all
head-fails e found forms i form all lt is few inv h = fails-as e (head_in form) _ all (roomy found forms i form all lt is few inv) h

pub head-double : (found : List PlainHead) (forms : List PlainSexpr) (i : ℕ) (form : PlainSexpr) (head : PlainHead) (all : Checked (List PlainHead)) →
    i < length forms → form ≡ get_or forms i form → length found < 1024 → heads_from found (drop i forms) ≡ all → head_in form ≡ Ok head →
    has_name (head_names found) head.name ≡ true → all ≡ Err (record { kind = Double; at = head.at })
head-double found forms i form head all lt is few inv h among =
    let s : (head_in form >>= λ head. added found head >>= λ heads. heads_from heads (drop (i + 1) forms)) ≡ all = roomy found forms i form all lt is few inv in
    sym (rw (h, among) at s)

pub head-next : (found : List PlainHead) (forms : List PlainSexpr) (i : ℕ) (form : PlainSexpr) (head : PlainHead) (all : Checked (List PlainHead)) →
    i < length forms → form ≡ get_or forms i form → length found < 1024 → heads_from found (drop i forms) ≡ all → head_in form ≡ Ok head →
    has_name (head_names found) head.name ≡ false → heads_from (found ++ head ∷ []) (drop (i + 1) forms) ≡ all
head-next found forms i form head all lt is few inv h among =
    let s : (head_in form >>= λ head. added found head >>= λ heads. heads_from heads (drop (i + 1) forms)) ≡ all = roomy found forms i form all lt is few inv in
    rw (h, among) at s

pub head-end : (found : List PlainHead) (forms : List PlainSexpr) (i : ℕ) (all : Checked (List PlainHead)) →
    length forms ≤ i → heads_from found (drop i forms) ≡ all → all ≡ Ok found
unfolding heads_from
head-end found forms i all le inv = sym inv ∙ ap (heads_from found) (drop_of_length-le forms le)

-- a name more, and a head more
pub names-push : (heads : List Head) (head : Head) (names : List Name) → names ≡ head_names (plain_heads heads) → has_name names head.name.now ≡ false →
    with_name names head.name.now ≡ head_names (plain_heads (heads ++ head ∷ []))
names-push heads head names is new =
    ap (λ test. cond test names (names ++ head.name.now ∷ [])) new
    ∙ ap (λ ns. ns ++ head.name.now ∷ []) is
    ∙ sym (ap (λ hs. head_names hs) (map_push plain_head heads head) ∙ map_push (λ (h : PlainHead). h.name) (plain_heads heads) (plain_head head))
