-- By which item a line is printed, and where a run breaks what is wanted.
use Rattle.std.specs.Prelude.{◌≡◌, ◌⊎◌, ℕ, zero, suc, ◌+◌, ◌<◌, ◌≤◌, List, [], ◌∷◌, length, take, Option, Some, None, IsSomeAnd, slice_get}
use Rattle.cml_text.specs.Lines.{lines}
use Rattle.cml_hub.specs.Kept.{Kept}
use Rattle.cml_hub.specs.Runs.{stands}
use Rattle.cml_schedule.specs.declared.item.Item.{Item}
use Rattle.cml_schedule.specs.declared.item.Item.TheVariants.{Turn}
use Rattle.cml_step.specs.Calls.{text_of}
use Rattle.cml_step.specs.Terms.{Program}
use Rattle.cml_judge.specs.declared.spot.Spot.{Spot}
use Rattle.cml_judge.specs.declared.breaks.Break.{Break}

-- the byte of an output at which the line of this number begins
abbrev pub line_start : List (List ℕ) → ℕ → ℕ
line_start [] n = 0
line_start (l ∷ ls) zero = 0
line_start (l ∷ ls) (suc n) = length l + 1 + line_start ls n

-- More than so many bytes were printed by these items.
abbrev pub HasPrinted : Program → List Item → ℕ → Type 0
HasPrinted p items at = IsSomeAnd (stands p items) (λ r. at < length r.output)

-- The byte of this number was printed by the item of this number, counted from 1: by the items up to it, and not by those before it.
pub record IsPrintedBy (p : Program) (items : List Item) (at n : ℕ) : Type 0 where
  pub within : n ≤ length items
  pub printed : HasPrinted p (take n items) at
  pub before : (k : ℕ) → k < n → HasPrinted p (take k items) at → ⊥

-- the item is a turn of this thread
abbrev pub IsTurnOf : List Item → ℕ → ℕ → Type 0
IsTurnOf items n thread = (k : ℕ) × (n ≡ suc k) × IsSomeAnd (slice_get items k) (λ item. item ≡ Turn (record { 0 = thread }))

-- The line of this number was printed by a turn of this thread, which is the item of this number.
pub record IsSpot (h : Kept) (number : ℕ) (spot : Spot) : Type 0 where
  pub printed : IsPrintedBy (text_of h.course.program) h.course.items (line_start (lines h.course.output) number) spot.item
  pub turn : IsTurnOf h.course.items spot.item spot.thread.0

-- Where the line is, if the run has so many; behind its last line is its end.
abbrev pub IsSpotOfLine : Kept → ℕ → Option Spot → Type 0
IsSpotOfLine h number (Some spot) = IsSpot h number spot
IsSpotOfLine h number None = length (lines h.course.output) ≤ number

-- that the property of this number breaks at this line
pub record IsBreak (h : Kept) (property line : ℕ) (b : Break) : Type 0 where
  pub property_is : b.property ≡ property
  pub line_is : b.line ≡ line
  pub spot_is : IsSpotOfLine h line b.spot

-- What is told of these properties, of which the first has this number: of each that is broken where it is.
abbrev pub AreBreaksFrom : Kept → ℕ → List (Option ℕ) → List Break → Type 0
AreBreaksFrom h n [] told = told ≡ []
AreBreaksFrom h n (None ∷ judged) told = AreBreaksFrom h (suc n) judged told
AreBreaksFrom h n (Some line ∷ judged) told =
    (b : Break) × (others : List Break) × IsBreak h n line b × AreBreaksFrom h (suc n) judged others × (told ≡ b ∷ others)

-- ---- what private functions say

-- The byte of this number was printed by the item that the spot tells, a turn of the thread that it tells.
pub record IsSpotOfByte (p : Program) (items : List Item) (at : ℕ) (spot : Spot) : Type 0 where
  pub printed : IsPrintedBy p items at spot.item
  pub turn : IsTurnOf items spot.item spot.thread.0

-- the thread whose turn the item is, which has this number
pub record IsTurnSpot (item : Item) (number : ℕ) (spot : Spot) : Type 0 where
  pub number_is : spot.item ≡ number
  pub turn : item ≡ Turn spot.thread
