-- What a schedule takes from M-variables, one item after another.
use Rattle.std.proofs.Common.{◌≡◌, ℕ, ◌+◌, ◌<◌, Bool, true, false, List, [], ◌∷◌, ◌++◌, length, get_or, take, drop, Option, Some, None, refl, sym, ap, ◌∙◌, append_assoc, append-nil}
use Rattle.std.specs.Prelude.{if◌then◌else◌, option_and_then}
use Rattle.std.specs.Option.{option_or, option_to_list}
use Rattle.std.proofs.lemmas.List.{take-append-drop, drop_more}
use Rattle.cml_step.specs.Terms.{Program}
use Rattle.cml_schedule.specs.declared.item.Item.{Item}
use Rattle.cml_hub.specs.Runs.{Run, opening, advance, after_item, is_allowed, stands_from, stands}
use Rattle.cml_facts.specs.declared.ending.takers.Take.{Take}
use Rattle.cml_facts.specs.declared.ending.takers.Takers.{Takers}
use Rattle.cml_facts.specs.Takes.{take_by, takes_from, takes_of, taker_if, last_taker, taker_in, KnowsTakers}
use Rattle.cml_facts.proofs.OrLemmas.{or_none, or_or}

-- one take more
pub last_taker-push : (takes : List Take) (take : Take) (m : ℕ) → last_taker (takes ++ take ∷ []) m ≡ option_or (taker_if m take) (last_taker takes m)
last_taker-push [] take m = or_none (taker_if m take)
last_taker-push (first ∷ takes) take m = ap (λ x. option_or x (taker_if m first)) (last_taker-push takes take m) ∙ or_or (taker_if m take) (last_taker takes m) (taker_if m first)

-- one item more
takes_from-push : (p : Program) (r : Option Run) (items : List Item) (item : Item) →
    takes_from p r (items ++ item ∷ []) ≡ takes_from p r items ++ option_to_list (option_and_then (λ now. take_by now.world item) (stands_from p r items))
takes_from-push p r [] item = append-nil (option_to_list (option_and_then (λ now. take_by now.world item) r))
takes_from-push p r (first ∷ items) item =
    let here = option_to_list (option_and_then (λ now. take_by now.world first) r) in
    let next = option_and_then (λ now. advance p now first) r in
    ap (λ takes. here ++ takes) (takes_from-push p next items item)
    ∙ sym (append_assoc here (takes_from p next items) (option_to_list (option_and_then (λ now. take_by now.world item) (stands_from p next items))))

pub takes_of-push : (p : Program) (items : List Item) (item : Item) (now : Run) → stands p items ≡ Some now →
    takes_of p (items ++ item ∷ []) ≡ takes_of p items ++ option_to_list (take_by now.world item)
takes_of-push p items item now leads =
    takes_from-push p (Some (opening p)) items item
    ∙ ap (λ r. takes_of p items ++ option_to_list (option_and_then (λ now. take_by now.world item) r)) leads

-- where nothing is taken
pub none_taken : (p : Program) (items : List Item) (item : Item) (now : Run) (takers : Takers) → stands p items ≡ Some now → take_by now.world item ≡ None →
    KnowsTakers p items takers → KnowsTakers p (items ++ item ∷ []) takers
none_taken p items item now takers leads none knows m =
    let e : takes_of p (items ++ item ∷ []) ≡ takes_of p items =
    takes_of-push p items item now leads ∙ (ap (λ t. takes_of p items ++ option_to_list t) none ∙ append-nil (takes_of p items)) in
    knows m ∙ ap (λ takes. last_taker takes m) (sym e)

-- where something is
pub one_taken : (p : Program) (items : List Item) (item : Item) (now : Run) (take : Take) (old new : Takers) → stands p items ≡ Some now → take_by now.world item ≡ Some take →
    ((m : ℕ) → taker_in new m ≡ option_or (taker_if m take) (taker_in old m)) → KnowsTakers p items old → KnowsTakers p (items ++ item ∷ []) new
one_taken p items item now take old new leads some kept knows m =
    let e : takes_of p (items ++ item ∷ []) ≡ takes_of p items ++ take ∷ [] =
    takes_of-push p items item now leads ∙ ap (λ t. takes_of p items ++ option_to_list t) some in
    kept m ∙ (ap (option_or (taker_if m take)) (knows m)
    ∙ (sym (last_taker-push (takes_of p items) take m) ∙ ap (λ takes. last_taker takes m) (sym e)))

-- a schedule that leads somewhere is allowed at each of its items
stands_from-none : (p : Program) (items : List Item) → stands_from p None items ≡ None
stands_from-none p [] = refl
stands_from-none p (item ∷ items) = stands_from-none p items

stands_from-append : (p : Program) (r : Option Run) (before after : List Item) → stands_from p r (before ++ after) ≡ stands_from p (stands_from p r before) after
stands_from-append p r [] after = refl
stands_from-append p r (item ∷ before) after = stands_from-append p (option_and_then (λ now. advance p now item) r) before after

goes_on : (p : Program) (b : Bool) (next : Option Run) (rest : List Item) (end : Run) → stands_from p (if b then next else None) rest ≡ Some end → b ≡ true
goes_on p true next rest end e = refl
goes_on p false next rest end e = let none = stands_from-none p rest in cc

pub is_next_allowed : (p : Program) (items : List Item) (i : ℕ) (item : Item) (end now : Run) → i < length items → item ≡ get_or items i item →
    stands p items ≡ Some end → stands p (take i items) ≡ Some now → is_allowed now.world item ≡ true
is_next_allowed p items i item end now h is whole so_far =
    let split : take i items ++ item ∷ drop (i + 1) items ≡ items =
    ap (λ x. take i items ++ x ∷ drop (i + 1) items) is ∙ (ap (λ rest. take i items ++ rest) (sym (drop_more items i item h)) ∙ take-append-drop i items) in
    let both : stands_from p (stands p (take i items)) (item ∷ drop (i + 1) items) ≡ Some end =
    sym (stands_from-append p (Some (opening p)) (take i items) (item ∷ drop (i + 1) items)) ∙ (ap (stands p) split ∙ whole) in
    let on : stands_from p (Some now) (item ∷ drop (i + 1) items) ≡ Some end = ap (λ r. stands_from p r (item ∷ drop (i + 1) items)) (sym so_far) ∙ both in
    goes_on p (is_allowed now.world item) (after_item p now item) (drop (i + 1) items) end on
