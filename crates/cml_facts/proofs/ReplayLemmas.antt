-- The next item of a schedule; and whether a thread waits for an M-variable, one after another.
use Rattle.std.proofs.Common.{◌≡◌, ℕ, ◌+◌, ◌<◌, ◌≤◌, Bool, true, false, List, [], ◌∷◌, ◌++◌, length, get_or, take, Some, sym, ap, ◌∙◌, add-zero}
use Rattle.std.specs.Prelude.{slice_get, ◌||◌, if◌then◌else◌, count_by}
use Rattle.std.specs.Option.{option_map_or}
use Rattle.std.proofs.lemmas.List.Sums.{count_by_more_yes, count_by_more_no}
use Rattle.std.specs.List.{list_any}
use Rattle.std.proofs.lemmas.List.{take_more, take_all, get_or_default}
use Rattle.std.proofs.lemmas.List.Folds.{list_any_more, list_any_at}
use Rattle.std.proofs.lemmas.Option.{slice_get-get_or}
use Rattle.cml_scan.specs.World.{PlainThread, running}
use Rattle.cml_book.specs.Walks.{runs}
use Rattle.cml_step.specs.Calls.{text_of}
use Rattle.cml_schedule.specs.declared.item.Item.{Item}
use Rattle.cml_hub.specs.Runs.{is_allowed, stands}
use Rattle.cml_hub.specs.Courses.{PlainCourse, run_of}
use Rattle.cml_facts.specs.Waits.{waits_on_mvar}
use Rattle.cml_facts.proofs.TakeLemmas.{is_next_allowed}

-- the next item of a schedule is allowed where the ones before it have led
pub next_allowed : (items : List Item) (c : PlainCourse) (now : PlainCourse) (i : ℕ) (item : Item) → i < length items → item ≡ get_or items i item
    → items ≡ c.items → stands (text_of c.program) c.items ≡ Some (run_of c) → now.program ≡ c.program → now.items ≡ take i items
    → stands (text_of now.program) now.items ≡ Some (run_of now) → is_allowed now.world item ≡ true
next_allowed items c now i item h is same whole program so_far leads =
    is_next_allowed (text_of c.program) items i item (run_of c) (run_of now) h is (ap (stands (text_of c.program)) same ∙ whole)
    (sym (ap (stands (text_of c.program)) so_far) ∙ (sym (ap (λ q. stands (text_of q) now.items) program) ∙ leads))

-- an item by its number, whatever stands past the end
pub item_at : (items : List Item) (i : ℕ) (d : Item) → i < length items → get_or items i d ≡ get_or items i (get_or items i d)
item_at items i d h = get_or_default items i d (get_or items i d) h

-- one item more
pub taken_more : (items : List Item) (i : ℕ) (item : Item) → i < length items → item ≡ get_or items i item → take i items ++ item ∷ [] ≡ take (i + 1) items
taken_more items i item h is = ap (λ x. take i items ++ x ∷ []) is ∙ sym (take_more items i item h)

-- one thread more
is_of : (threads : List PlainThread) (i : ℕ) (b : Bool) → i < length threads → ((t : PlainThread) → slice_get threads i ≡ Some t → b ≡ waits_on_mvar t)
    → waits_on_mvar (get_or threads i running) ≡ b
is_of threads i b h is = sym (is (get_or threads i running) (slice_get-get_or threads i running h))

pub asked_more : (threads : List PlainThread) (i : ℕ) (b : Bool) → i < length threads → ((t : PlainThread) → slice_get threads i ≡ Some t → b ≡ waits_on_mvar t) → b ≡ false
    → list_any waits_on_mvar (take i threads) ≡ false → list_any waits_on_mvar (take (i + 1) threads) ≡ false
asked_more threads i b h is not_so so_far =
    list_any_more waits_on_mvar threads i running h
    ∙ (ap (λ x. x || waits_on_mvar (get_or threads i running)) so_far ∙ (is_of threads i b h is ∙ not_so))

pub asked_found : (threads : List PlainThread) (i : ℕ) (b : Bool) → i < length threads → ((t : PlainThread) → slice_get threads i ≡ Some t → b ≡ waits_on_mvar t) → b ≡ true
    → true ≡ list_any waits_on_mvar threads
asked_found threads i b h is so = sym (list_any_at waits_on_mvar threads i running h (is_of threads i b h is ∙ so))

pub asked_none : (threads : List PlainThread) (i : ℕ) → length threads ≤ i → list_any waits_on_mvar (take i threads) ≡ false → false ≡ list_any waits_on_mvar threads
asked_none threads i h so_far = sym so_far ∙ ap (list_any waits_on_mvar) (take_all i threads h)

-- one thread more that runs, or not
counted_by : (threads : List PlainThread) (i : ℕ) (b : Bool) → i < length threads → runs (get_or threads i running) ≡ b
    → count_by runs (take i threads) + (if b then 1 else 0) ≡ count_by runs (take (i + 1) threads)
counted_by threads i true h e = sym (count_by_more_yes runs threads i running h e)
counted_by threads i false h e = add-zero (count_by runs (take i threads)) ∙ sym (count_by_more_no runs threads i running h e)

pub run_more : (threads : List PlainThread) (i n : ℕ) (b : Bool) (one : ℕ) → i < length threads → b ≡ option_map_or runs (slice_get threads i) false
    → one ≡ (if b then 1 else 0) → n ≡ count_by runs (take i threads) → n + one ≡ count_by runs (take (i + 1) threads)
run_more threads i n b one h is o so_far =
    let e : runs (get_or threads i running) ≡ b = sym (ap (λ x. option_map_or runs x false) (slice_get-get_or threads i running h)) ∙ sym is in
    ap (λ k. k + one) so_far ∙ (ap (λ k. count_by runs (take i threads) + k) o ∙ counted_by threads i b h e)
