-- Where a schedule that can be followed leads, item by item.
use Rattle.std.proofs.Common.{◌≡◌, Bool, true, false, ◌&&◌, if◌then◌else◌, List, [], ◌∷◌, ◌++◌, Option, Some, None, refl, sym, ◌∙◌, subst}
use Rattle.std.specs.Prelude.{option_and_then}
use Rattle.cml_schedule.specs.declared.item.Item.{Item}
use Rattle.cml_step.specs.Terms.{Program}
use Rattle.cml_hub.specs.Runs.{Run, advance, stands_from, opening, stands}

pub stands-append : (p : Program) (o : Option Run) (before items : List Item) → stands_from p o (before ++ items) ≡ stands_from p (stands_from p o before) items
stands-append p o [] items = refl
stands-append p o (i ∷ before) items = stands-append p (option_and_then (λ now. advance p now i) o) before items

pub stands-none : (p : Program) (items : List Item) → stands_from p None items ≡ None
stands-none p [] = refl
stands-none p (i ∷ items) = stands-none p items

nothing : (o : Option Run) (r : Run) → o ≡ None → o ≡ Some r → ⊥
nothing o r e f = cc

pub some_is : (r s : Run) → Some r ≡ Some s → r ≡ s
some_is r s e = cc

-- where a run stands before an item of a schedule that can be followed, and behind it
pub record IsFollowed (p : Program) (before : List Item) (item : Item) : Type 0 where
  pub now : Run
  pub next : Run
  pub stood : stands p before ≡ Some now
  pub then_ : advance p now item ≡ Some next

pub followed : (p : Program) (before after : List Item) (item : Item) (end : Run) → stands p (before ++ item ∷ after) ≡ Some end → IsFollowed p before item
followed p before after item end h = at (stands p before) refl (sym (stands-append p (Some (opening p)) before (item ∷ after)) ∙ h)
  where
    on : (now : Run) → stands p before ≡ Some now → (o : Option Run) → advance p now item ≡ o → stands_from p o after ≡ Some end → IsFollowed p before item
    on now e None f g = absurd (nothing _ end (stands-none p after) g)
    on now e (Some next) f g = record { now = now; next = next; stood = e; then_ = f }

    at : (o : Option Run) → stands p before ≡ o → stands_from p (stands p before) (item ∷ after) ≡ Some end → IsFollowed p before item
    at None e g = absurd (nothing _ end (stands-none p (item ∷ after)) (subst (λ o. stands_from p o (item ∷ after) ≡ Some end) e g))
    at (Some now) e g = on now e (advance p now item) refl (subst (λ o. stands_from p o (item ∷ after) ≡ Some end) e g)

-- what is done only if it is allowed
pub allowed : (b : Bool) (o : Option Run) (r : Run) → (if b then o else None) ≡ Some r → (b ≡ true) × (o ≡ Some r)
allowed true o r e = (refl, e)
allowed false o r e = absurd (nothing None r refl e)

pub both_true : (a b : Bool) → a && b ≡ true → (a ≡ true) × (b ≡ true)
both_true true true e = (refl, refl)
both_true true false e = cc
both_true false b e = cc
