-- The functions of heads.
use Rattle.std.proofs.Common.{◌≡◌, ℕ, ◌+◌, ◌<◌, ◌≤◌, List, [], ◌∷◌, ◌++◌, map, length, get_or, drop, Ok, Err, refl, sym, ap, ◌∙◌, append_assoc, append-nil}
use Rattle.std.proofs.Math.ListN.{drop_of_length-le}
use Rattle.std.proofs.lemmas.List.{map_push}
use Rattle.cml_check.specs.declared.fault.CheckFault.{CheckFault}
use Rattle.cml_check.specs.declared.head.Head.{Head}
use Rattle.cml_check.specs.Syntax.{Name, PlainItem}
use Rattle.cml_check.specs.Checked.{Checked, ◌>>=◌, Fails}
use Rattle.cml_check.specs.Heads.{PlainHead}
use Rattle.cml_check.specs.HeadViews.{plain_head, plain_heads}
use Rattle.cml_check.specs.Shape.{function_by, functions_in}
use Rattle.cml_check.proofs.CheckedLemmas.{after, fails-as, drop-at}

abbrev pub front : List (PlainItem Name) → Checked (List (PlainItem Name)) → Checked (List (PlainItem Name))
front fs found = found >>= λ rest. Ok (fs ++ rest)

pub front_nil : (found : Checked (List (PlainItem Name))) → front [] found ≡ found
front_nil (Ok rest) = refl
front_nil (Err f) = refl

abbrev before : PlainItem Name → List (PlainItem Name) → Checked (List (PlainItem Name))
before f rest = Ok (f ∷ rest)

front-push : (fs : List (PlainItem Name)) (f : PlainItem Name) (found : Checked (List (PlainItem Name))) → front fs (found >>= before f) ≡ front (fs ++ f ∷ []) found
front-push fs f (Ok rest) = ap (λ x. Ok x) (sym (append_assoc fs (f ∷ []) rest))
front-push fs f (Err e) = refl

abbrev walk : List PlainHead → List PlainHead → PlainItem Name × ℕ → Checked (List (PlainItem Name))
walk heads left f = functions_in heads f.1 left >>= before f.0

step : (heads : List PlainHead) (count : ℕ) (hs : List Head) (i : ℕ) (head : Head) → i < length hs → head ≡ get_or hs i head →
    functions_in heads count (plain_heads (drop i hs)) ≡ (function_by heads count (plain_head head) >>= walk heads (plain_heads (drop (i + 1) hs)))
unfolding functions_in
step heads count hs i head lt is = ap (λ xs. functions_in heads count (plain_heads xs)) (drop-at hs i head lt is)

pub function-fails : (err : CheckFault) (heads : List PlainHead) (count : ℕ) (hs : List Head) (i : ℕ) (head : Head) (fs : List (PlainItem Name)) (all : Checked (List (PlainItem Name))) →
    i < length hs → head ≡ get_or hs i head → front fs (functions_in heads count (plain_heads (drop i hs))) ≡ all → Fails err (function_by heads count (plain_head head)) → Fails err all
function-fails err heads count hs i head fs all lt is inv h =
    fails-as err (function_by heads count (plain_head head)) _ all
    (sym (after (function_by heads count (plain_head head)) (walk heads (plain_heads (drop (i + 1) hs))) (λ rest. Ok (fs ++ rest)))
    ∙ ap (front fs) (sym (step heads count hs i head lt is)) ∙ inv) h

pub function-next : (heads : List PlainHead) (count new : ℕ) (hs : List Head) (i : ℕ) (head : Head) (fs : List (PlainItem Name)) (f : PlainItem Name) (all : Checked (List (PlainItem Name))) →
    i < length hs → head ≡ get_or hs i head → front fs (functions_in heads count (plain_heads (drop i hs))) ≡ all → function_by heads count (plain_head head) ≡ Ok (f, new) →
    front (fs ++ f ∷ []) (functions_in heads new (plain_heads (drop (i + 1) hs))) ≡ all
function-next heads count new hs i head fs f all lt is inv h =
    sym (front-push fs f (functions_in heads new (plain_heads (drop (i + 1) hs))))
    ∙ ap (λ r. front fs (r >>= walk heads (plain_heads (drop (i + 1) hs)))) (sym h)
    ∙ ap (front fs) (sym (step heads count hs i head lt is)) ∙ inv

pub function-end : (heads : List PlainHead) (count : ℕ) (hs : List Head) (i : ℕ) (fs : List (PlainItem Name)) (all : Checked (List (PlainItem Name))) →
    length hs ≤ i → front fs (functions_in heads count (plain_heads (drop i hs))) ≡ all → all ≡ Ok fs
unfolding functions_in
function-end heads count hs i fs all le inv =
    sym inv ∙ ap (λ xs. front fs (functions_in heads count (plain_heads xs))) (drop_of_length-le hs le) ∙ ap (λ x. Ok x) (append-nil fs)

-- what the functions so far have and what the heads that are left have is what all have: one function more
pub had-next : {A : Type 0} (has : PlainItem ℕ → A) (given : PlainHead → A) (hs : List Head) (i : ℕ) (head : Head) (fs : List (PlainItem ℕ)) (f : PlainItem ℕ) (all : List A) →
    i < length hs → head ≡ get_or hs i head → map has fs ++ map given (plain_heads (drop i hs)) ≡ all → has f ≡ given (plain_head head) →
    map has (fs ++ f ∷ []) ++ map given (plain_heads (drop (i + 1) hs)) ≡ all
had-next has given hs i head fs f all lt is inv same =
    ap (λ xs. xs ++ map given (plain_heads (drop (i + 1) hs))) (map_push has fs f)
    ∙ append_assoc (map has fs) (has f ∷ []) (map given (plain_heads (drop (i + 1) hs)))
    ∙ ap (λ x. map has fs ++ x ∷ map given (plain_heads (drop (i + 1) hs))) same
    ∙ ap (λ xs. map has fs ++ map given (plain_heads xs)) (sym (drop-at hs i head lt is)) ∙ inv

-- where no head is left
pub had-end : {A : Type 0} (has : PlainItem ℕ → A) (given : PlainHead → A) (hs : List Head) (i : ℕ) (fs : List (PlainItem ℕ)) (all : List A) →
    length hs ≤ i → map has fs ++ map given (plain_heads (drop i hs)) ≡ all → map has fs ≡ all
had-end has given hs i fs all le inv =
    sym (append-nil (map has fs)) ∙ ap (λ xs. map has fs ++ map given (plain_heads xs)) (sym (drop_of_length-le hs le)) ∙ inv
