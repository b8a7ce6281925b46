-- Which item an answer names.
use Rattle.std.proofs.Common.{◌≡◌, ℕ, zero, suc, ◌+◌, ◌-◌, ◌<◌, ◌≤◌, Bool, true, false, cond, List, [], ◌∷◌, ◌++◌}
use Rattle.std.proofs.Common.{length, get_or, take, drop, Option, Some, None, refl, sym, ap, ◌∙◌, arith}
use Rattle.std.proofs.Common.{append_assoc}
use Rattle.std.specs.Prelude.{slice_get}
use Rattle.std.specs.Option.{option_or, option_map_or}
use Rattle.std.proofs.lemmas.List.{take_all, take_more, at_drop_more, at_drop_all}
use Rattle.std.proofs.lemmas.Option.{slice_get-get_or}
use Rattle.cml_value.specs.declared.number.Tid.{Tid}
use Rattle.cml_scan.specs.World.{PlainWorld, PlainThread, running}
use Rattle.cml_scan.specs.Scan.{scan}
use Rattle.cml_scan.specs.declared.meet.Meet.{Meet}
use Rattle.cml_book.specs.Walks.{runs}
use Rattle.cml_schedule.specs.declared.item.Item.{Item}
use Rattle.cml_stepper.specs.Picks.{row_numbered, turn_had, last_turned}
use Rattle.cml_stepper.specs.Questions.{running_from}

-- ---- rows

first_there : (rows : List Meet) (k : ℕ) → slice_get (take 1 (drop k rows)) 0 ≡ slice_get rows k
first_there [] zero = refl
first_there [] (suc k) = refl
first_there (r ∷ rows) zero = refl
first_there (r ∷ rows) (suc k) = first_there rows k

-- the row of a number is the first from its place on
pub row_there : (w : PlainWorld) (n k : ℕ) (rows : List Meet) → n ≡ suc k → rows ≡ take 1 (drop k (scan w)) → slice_get rows 0 ≡ row_numbered w n
row_there w n k rows is first = ap (λ rs. slice_get rs 0) first ∙ (first_there (scan w) k ∙ ap (row_numbered w) (sym is))

-- ---- threads

runs_is : (threads : List PlainThread) (i : ℕ) (b : Bool) → i < length threads → b ≡ option_map_or runs (slice_get threads i) false → runs (get_or threads i running) ≡ b
runs_is threads i b h is = sym (ap (λ x. option_map_or runs x false) (slice_get-get_or threads i running h)) ∙ sym is

-- the thread at this place runs, or those behind it that do are left
pub running_more : (threads : List PlainThread) (i : ℕ) (b : Bool) → i < length threads → b ≡ option_map_or runs (slice_get threads i) false
    → running_from i (drop i threads) ≡ cond b (i ∷ running_from (i + 1) (drop (i + 1) threads)) (running_from (i + 1) (drop (i + 1) threads))
running_more threads i b h is =
    at_drop_more (running_from i) threads i running h
    ∙ ap (λ c. cond c (i ∷ running_from (i + 1) (drop (i + 1) threads)) (running_from (i + 1) (drop (i + 1) threads))) (runs_is threads i b h is)

-- one thread more
pub ready_more : (threads : List PlainThread) (i : ℕ) (b : Bool) (ready new all : List ℕ) → i < length threads → b ≡ option_map_or runs (slice_get threads i) false
    → new ≡ ready ++ cond b (i ∷ []) [] → ready ++ running_from i (drop i threads) ≡ all → new ++ running_from (i + 1) (drop (i + 1) threads) ≡ all
ready_more threads i b ready new all h is pushed so_far =
    ap (λ xs. xs ++ running_from (i + 1) (drop (i + 1) threads)) pushed
    ∙ (append_assoc ready (cond b (i ∷ []) []) (running_from (i + 1) (drop (i + 1) threads))
    ∙ (ap (λ xs. ready ++ xs) (joined b ∙ sym (running_more threads i b h is)) ∙ so_far))
  where
    joined : (b : Bool) → cond b (i ∷ []) [] ++ running_from (i + 1) (drop (i + 1) threads) ≡ cond b (i ∷ running_from (i + 1) (drop (i + 1) threads)) (running_from (i + 1) (drop (i + 1) threads))
    joined true = refl
    joined false = refl

pub no_running : (threads : List PlainThread) (i : ℕ) → length threads ≤ i → running_from i (drop i threads) ≡ []
no_running threads i past = at_drop_all (running_from i) threads i past

-- ---- the last turn

or_none : (x : Option Tid) → x ≡ option_or x None
or_none None = refl
or_none (Some t) = refl

or_or : (x y z : Option Tid) → option_or (option_or x y) z ≡ option_or x (option_or y z)
or_or None y z = refl
or_or (Some t) y z = refl

last_turned-push : (items : List Item) (item : Item) → last_turned (items ++ item ∷ []) ≡ option_or (turn_had item) (last_turned items)
last_turned-push [] item = or_none (turn_had item)
last_turned-push (i ∷ items) item = ap (λ x. option_or x (turn_had i)) (last_turned-push items item) ∙ or_or (turn_had item) (last_turned items) (turn_had i)

-- one item less
turned_at : (items : List Item) (k : ℕ) (d : Item) → k < length items
    → last_turned (take (length items - k) items) ≡ option_or (turn_had (get_or items (length items - 1 - k) d)) (last_turned (take (length items - (k + 1)) items))
turned_at items k d h =
    let i : ℕ = length items - 1 - k in
    let within : i < length items = omega arith in
    let more : length items - k ≡ i + 1 = omega arith in
    let less : length items - (k + 1) ≡ i = omega arith in
    ap (λ n. last_turned (take n items)) more
    ∙ (ap last_turned (take_more items i d within)
    ∙ (last_turned-push (take i items) (get_or items i d) ∙ ap (λ n. option_or (turn_had (get_or items i d)) (last_turned (take n items))) (sym less)))

pub all_left : (items : List Item) → last_turned (take (length items - 0) items) ≡ last_turned items
all_left items = ap last_turned (take_all (length items - 0) items (omega arith))

pub turned_here : (items : List Item) (k : ℕ) (d : Item) (t : Tid) → k < length items → Some t ≡ turn_had (get_or items (length items - 1 - k) d)
    → last_turned (take (length items - k) items) ≡ Some t
turned_here items k d t h so = turned_at items k d h ∙ ap (λ x. option_or x (last_turned (take (length items - (k + 1)) items))) (sym so)

pub turned_before : (items : List Item) (k : ℕ) (d : Item) → k < length items → None ≡ turn_had (get_or items (length items - 1 - k) d)
    → last_turned (take (length items - (k + 1)) items) ≡ last_turned (take (length items - k) items)
turned_before items k d h so = sym (turned_at items k d h ∙ ap (λ x. option_or x (last_turned (take (length items - (k + 1)) items))) (sym so))

pub none_left : (items : List Item) (k : ℕ) → length items ≤ k → None ≡ last_turned (take (length items - k) items)
none_left items k past = let e : 0 ≡ length items - k = omega arith in ap (λ n. last_turned (take n items)) e
