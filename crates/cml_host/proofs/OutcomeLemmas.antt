-- How every schedule's outcome is told, one thing after another.
use Rattle.std.proofs.Common.{◌≡◌, ◌∙◌, ℕ, suc, ◌+◌, ◌<◌, true, List, [], ◌∷◌, ◌++◌, length, map, take, get_or, codes, refl, sym, ap, arith, append_assoc, append-nil, add-zero}
use Rattle.std.specs.Prelude.{Option, Some, None}
use Rattle.std.specs.Fmt.{decimal}
use Rattle.std.proofs.lemmas.List.{length-map, length-take-le, map_push, take_more}
use Rattle.cml_arguments.specs.Words.{saved_name}
use Rattle.cml_check.specs.Sizes.{size_of}
use Rattle.cml_check.specs.Syntax.{Name, PlainItem}
use Rattle.cml_schedule.specs.Written.{schedule_text}
use Rattle.cml_schedule.specs.declared.item.Item.{Item}
use Rattle.cml_json.specs.Json.{truth}
use Rattle.cml_host.specs.Outcomes.{PlainOutcomeTold, files_of, outcome_file, plain_outcome_told, search_line}
use Rattle.cml_host.specs.Replies.{File, file, plain_file}
use Rattle.cml_host.specs.declared.outcomes.OutcomeTold.{OutcomeTold}
use Rattle.cml_host.specs.declared.reply.File as code

some_same : {X : Type 0} (x y : X) → Some x ≡ Some y → x ≡ y
some_same x y h = cc

closed : (one two : List ℕ) → one ++ (two ++ 125 ∷ 10 ∷ []) ≡ ((one ++ two) ++ 125 ∷ []) ++ 10 ∷ []
closed one two = sym (append_assoc (one ++ two) (125 ∷ []) (10 ∷ []) ∙ append_assoc one two (125 ∷ 10 ∷ []))

closed_more : (one two three : List ℕ) → one ++ (two ++ (three ++ 125 ∷ 10 ∷ [])) ≡ ((one ++ (two ++ (three ++ []))) ++ 125 ∷ []) ++ 10 ∷ []
closed_more one two three = simp (append_assoc, append-nil) refl

-- the line of a search, as it is written
pub search_whole : (states : ℕ) (reach : Option ℕ) → reach ≡ None → codes "{\"states\":" ++ decimal states ++ codes ",\"whole\":true}\n" ≡ search_line states reach
unfolding truth
search_whole states None is = ap (λ t. codes "{\"states\":" ++ t) (closed (decimal states) (codes ",\"whole\":true"))
search_whole states (Some items) is = absurd (cc)

pub search_part : (states items : ℕ) (reach : Option ℕ) → reach ≡ Some items
    → codes "{\"states\":" ++ (decimal states ++ (codes ",\"whole\":false,\"items\":" ++ (decimal items ++ codes "}\n"))) ≡ search_line states reach
unfolding truth
search_part states items None is = absurd (cc)
search_part states items (Some n) is =
    ap (λ t. codes "{\"states\":" ++ t) (closed_more (decimal states) (codes ",\"whole\":false,\"items\":") (decimal items))
    ∙ ap (λ k. search_line states (Some k)) (sym (some_same n items is))

-- ---- files

files_append : (start : Name) (p : List (PlainItem ℕ)) (place : ℕ) (xs ys : List PlainOutcomeTold) → files_of start p place (xs ++ ys) ≡ files_of start p place xs ++ files_of start p
    (place + length xs) ys
files_append start p place [] ys = ap (λ (n : ℕ). files_of start p n ys) (sym (add-zero place))
files_append start p place (x ∷ xs) ys =
    let there : suc place + length xs ≡ place + suc (length xs) = omega arith in
    ap (λ (fs : List File). outcome_file start p place x ∷ fs) (files_append start p (suc place) xs ys
    ∙ ap (λ (n : ℕ). files_of start p (suc place) xs ++ files_of start p n ys) there)

-- one file more
pub outcome_next : (start : Name) (p : List (PlainItem ℕ)) (told : List OutcomeTold) (i : ℕ) (d : OutcomeTold) (items : List Item) (files all : List code.File) (f : code.File) → i < length told
    → items ≡ (get_or told i d).schedule.items → map plain_file files ≡ files_of start p 1 (map plain_outcome_told (take i told))
    → plain_file f ≡ file true (saved_name start (decimal (i + 1))) (schedule_text 1000000 (size_of p) items) → all ≡ files ++ f ∷ []
    → map plain_file all ≡ files_of start p 1 (map plain_outcome_told (take (i + 1) told))
outcome_next start p told i d items files all f within is so_far made more =
    let t = plain_outcome_told (get_or told i d) in
    let before = map plain_outcome_told (take i told) in
    let long : length before ≡ i = length-map (take i told) plain_outcome_told ∙ length-take-le i told (omega arith) in
    let place : 1 + length before ≡ i + 1 = omega (arith, long) in
    let split : map plain_outcome_told (take (i + 1) told) ≡ before ++ t ∷ [] = ap (map plain_outcome_told) (take_more told i d within) ∙ map_push plain_outcome_told (take i told) (get_or told i d) in
    let this : plain_file f ≡ outcome_file start p (i + 1) t =
    made ∙ ap (λ (xs : List Item). file true (saved_name start (decimal (i + 1))) (schedule_text 1000000 (size_of p) xs)) is in
    let out : files_of start p 1 (map plain_outcome_told (take (i + 1) told)) ≡ files_of start p 1 before ++ outcome_file start p (i + 1) t ∷ [] =
    ap (files_of start p 1) split ∙ (files_append start p 1 before (t ∷ []) ∙ ap (λ (k : ℕ). files_of start p 1 before ++ files_of start p k (t ∷ [])) place) in
    ap (map plain_file) more ∙ (map_push plain_file files f ∙ (ap (λ (fs : List File). fs ++ plain_file f ∷ []) so_far
    ∙ (ap (λ (g : File). files_of start p 1 before ++ g ∷ []) this ∙ sym out)))
