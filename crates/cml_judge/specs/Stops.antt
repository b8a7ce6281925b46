-- Where a run is stopped: at the first item behind which a property is broken, or a thread has ended at a fault.
use Rattle.std.specs.Prelude.{◌≡◌, ◌⊎◌, ◌↔◌, ℕ, ◌<◌, ◌≤◌, min, nat_lt, Bool, true, false, ◌||◌, IsTrue, IsFalse, List, [], ◌∷◌, length, take, Option, Some, None, IsSomeAnd, Contains}
use Rattle.cml_text.specs.Lines.{lines}
use Rattle.cml_hub.specs.Deeds.{fault_count}
use Rattle.cml_hub.specs.Kept.{Kept}
use Rattle.cml_hub.specs.Runs.{Run, stands}
use Rattle.cml_schedule.specs.declared.item.Item.{Item}
use Rattle.cml_step.specs.Calls.{text_of}
use Rattle.cml_step.specs.Terms.{Program}
use Rattle.cml_properties.specs.declared.property.Property.{Property}
use Rattle.cml_properties.specs.declared.property.Finish.TheVariants.{GoesOn}
use Rattle.cml_properties.specs.Breaches.{AreLinesOf}
use Rattle.cml_properties.specs.Lines.{PlainLine}
use Rattle.cml_properties.specs.Properties.{keeps}

-- what was printed breaks one of the properties, however the run goes on
abbrev pub BreaksOne : List Property → List ℕ → Type 0
BreaksOne properties output =
    (property : Property) × Contains properties property × ((printed : List PlainLine) × AreLinesOf (lines output) printed × IsFalse (keeps property printed GoesOn))

-- Behind these items what was printed breaks one of the properties, or a thread has ended at a fault.
abbrev pub IsBrokenAfter : List Property → Program → List Item → Type 0
IsBrokenAfter properties p items = IsSomeAnd (stands p items) (λ r. BreaksOne properties r.output ⊎ (0 < fault_count p items))

-- The run is stopped behind so many items: it is broken there, and behind no fewer.
pub record StopsBehind (properties : List Property) (p : Program) (items : List Item) (n : ℕ) : Type 0 where
  pub within : n ≤ length items
  pub broken : IsBrokenAfter properties p (take n items)
  pub first : (k : ℕ) → k < n → IsBrokenAfter properties p (take k items) → ⊥

-- where it is stopped, if it is
abbrev pub StopsAfter : List Property → Program → List Item → Option ℕ → Type 0
StopsAfter properties p items (Some n) = StopsBehind properties p items n
StopsAfter properties p items None = (k : ℕ) → IsBrokenAfter properties p (take k items) → ⊥

-- the items up to there, or all
abbrev pub items_until : Option ℕ → List Item → List Item
items_until (Some n) items = take n items
items_until None items = items

-- What is told of a run: all of it; or, where it is to stop, as far as it goes until it is stopped.
abbrev pub IsToldUpTo : Bool → List Property → Program → List Item → List Item → Type 0
IsToldUpTo false properties p items told = told ≡ items
IsToldUpTo true properties p items told = (count : Option ℕ) × StopsAfter properties p items count × (told ≡ items_until count items)

-- the run of the same program under the same budget by the items up to where it is stopped
pub record IsStoppedHub (properties : List Property) (h other : Kept) (n : ℕ) : Type 0 where
  pub stops : StopsBehind properties (text_of h.course.program) h.course.items n
  pub program : other.course.program ≡ h.course.program
  pub budget : other.budget ≡ h.budget
  pub items : other.course.items ≡ take n h.course.items

-- that, or that the run is not stopped
abbrev pub IsStoppedThere : List Property → Kept → Option Kept → Type 0
IsStoppedThere properties h (Some other) = (n : ℕ) × IsStoppedHub properties h other n
IsStoppedThere properties h None = StopsAfter properties (text_of h.course.program) h.course.items None

-- ---- what private functions say

-- of two lines, each of which may be none, the first
abbrev pub earlier : Option ℕ → Option ℕ → Option ℕ
earlier None other = other
earlier (Some one) None = Some one
earlier (Some one) (Some other) = Some (min one other)

-- the first of these lines
abbrev pub earliest : List (Option ℕ) → Option ℕ
earliest [] = None
earliest (line ∷ lines) = earlier line (earliest lines)

-- the place of this number is within so many
abbrev pub is_place_within : Option ℕ → ℕ → Bool
is_place_within None count = false
is_place_within (Some place) count = nat_lt place count

-- Wherever the run stands after some of these items, what it has printed breaks one of the properties exactly if the byte of this number is among that.
abbrev pub TellsBreaks : List Property → Program → List Item → Option ℕ → Type 0
TellsBreaks properties p items at =
    (k : ℕ) (r : Run) → stands p (take k items) ≡ Some r → BreaksOne properties r.output ↔ IsTrue (is_place_within at (length r.output))

-- Behind these items the byte of this number was printed, or a thread has ended at a fault.
abbrev pub has_come : Option ℕ → Program → List Item → Run → Bool
has_come at p items r = is_place_within at (length r.output) || nat_lt 0 (fault_count p items)

abbrev pub HasComeBehind : Option ℕ → Program → List Item → Type 0
HasComeBehind at p items = IsSomeAnd (stands p items) (λ r. IsTrue (has_come at p items r))

-- That is so behind so many items, and behind no fewer.
pub record ComesFirstBehind (at : Option ℕ) (p : Program) (items : List Item) (n : ℕ) : Type 0 where
  pub within : n ≤ length items
  pub come : HasComeBehind at p (take n items)
  pub first : (k : ℕ) → k < n → HasComeBehind at p (take k items) → ⊥

abbrev pub ComesAfter : Option ℕ → Program → List Item → Option ℕ → Type 0
ComesAfter at p items (Some n) = ComesFirstBehind at p items n
ComesAfter at p items None = (k : ℕ) → HasComeBehind at p (take k items) → ⊥
