-- A run that is made again, one item after another.
use Rattle.std.proofs.Common.{◌≡◌, ℕ, ◌+◌, ◌<◌, ◌≤◌, true, List, [], ◌∷◌, ◌++◌, length, get_or, take, Some, sym, ap, subst, ◌∙◌}
use Rattle.std.proofs.lemmas.List.{take_all}
use Rattle.cml_check.specs.Syntax.{PlainItem}
use Rattle.cml_step.specs.Calls.{text_of}
use Rattle.cml_schedule.specs.declared.item.Item.{Item}
use Rattle.cml_hub.specs.Runs.{is_allowed, stands}
use Rattle.cml_hub.specs.Courses.{run_of}
use Rattle.cml_hub.specs.Kept.{Kept}
use Rattle.cml_facts.specs.Again.{RunsAgain, AddsAlone}
use Rattle.cml_facts.proofs.ReplayLemmas.{next_allowed, item_at, taken_more}

-- the items of the first hub's schedule, as they are read; one of them comes next in the second
pub record IsNext (items : List Item) (first second : Kept) (i : ℕ) : Type 0 where
  pub within : i < length items
  pub items_are : items ≡ first.course.items
  pub gone : RunsAgain first second i

pub is_next : (items : List Item) (first second : Kept) (i : ℕ) → i < length items → items ≡ first.course.items → RunsAgain first second i → IsNext items first second i
is_next items first second i h same gone = record { within = h; items_are = same; gone = gone }

-- it is allowed
pub next_is_allowed : (items : List Item) (first second : Kept) (i : ℕ) (d : Item) → IsNext items first second i
    → stands (text_of first.course.program) first.course.items ≡ Some (run_of first.course)
    → stands (text_of second.course.program) second.course.items ≡ Some (run_of second.course) → is_allowed second.course.world (get_or items i d) ≡ true
next_is_allowed items first second i d next whole leads =
    next_allowed items first.course second.course i (get_or items i d) next.within (item_at items i d next.within) next.items_are whole next.gone.program
    (next.gone.items ∙ ap (take i) (sym next.items_are)) leads

-- one item more
one_more : (items : List Item) (first second : Kept) (i : ℕ) (d : Item) → IsNext items first second i
    → second.course.items ++ get_or items i d ∷ [] ≡ take (i + 1) first.course.items
one_more items first second i d next =
    let item = get_or items i d in
    ap (λ xs. xs ++ item ∷ []) next.gone.items
    ∙ subst (λ xs. take i xs ++ item ∷ [] ≡ take (i + 1) xs) next.items_are (taken_more items i item next.within (item_at items i d next.within))

pub goes_on_again : (items : List Item) (first second new : Kept) (i : ℕ) (d : Item) → IsNext items first second i → AddsAlone second (get_or items i d) new → RunsAgain first new (i + 1)
goes_on_again items first second new i d next came = record {
  program = came.adds.program ∙ next.gone.program;
  items = came.adds.items ∙ one_more items first second i d next;
  none_out = came.none_out;
}

-- what holds of the second hub's schedule holds of the first one's so far
pub holds_on : (P Q : List (PlainItem ℕ) → List Item → Type 0) (items : List Item) (first second : Kept) (i : ℕ) (d : Item) → IsNext items first second i
    → (P second.course.program second.course.items → Q second.course.program (second.course.items ++ get_or items i d ∷ []))
    → P first.course.program (take i first.course.items) → Q first.course.program (take (i + 1) first.course.items)
holds_on P Q items first second i d next step so_far =
    let here : P second.course.program second.course.items =
    subst (λ p. P p second.course.items) (sym next.gone.program) (subst (λ xs. P first.course.program xs) (sym next.gone.items) so_far) in
    subst (λ xs. Q first.course.program xs) (one_more items first second i d next)
    (subst (λ p. Q p (second.course.items ++ get_or items i d ∷ [])) next.gone.program (step here))

-- all items have come
pub holds_of_all : (P : List Item → Type 0) (items all : List Item) (i : ℕ) → items ≡ all → length items ≤ i → P (take i all) → P all
holds_of_all P items all i same past so_far = subst P (take_all i all (subst (λ xs. length xs ≤ i) same past)) so_far
