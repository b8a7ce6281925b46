-- What holds of every schedule.
use Rattle.std.specs.Prelude.{◌≡◌, ℕ, ◌<◌, ◌≤◌, ◌^◌, List, Some, Result, Ok}
use Rattle.std.specs.List.{All}
use Rattle.cml_scan.specs.declared.meet.Meet.{Meet}
use Rattle.cml_scan.specs.declared.meet.Meet.TheVariants.{Single, Pair}
use Rattle.cml_check.specs.declared.size.Size.{Size}
use Rattle.cml_check.specs.Sizes.{IsWithinSize}
use Rattle.cml_schedule.specs.declared.item.Item.{Item}
use Rattle.cml_schedule.specs.declared.item.Item.TheVariants as item
use Rattle.cml_schedule.specs.Plans.{PlainPlan}
use Rattle.cml_schedule.specs.Reading.{ScheduleReadsAs}
use Rattle.cml_schedule.specs.Written.{schedule_text}

-- the text is read as this, and as nothing else
pub record ReadsOnlyAs (text : List ℕ) (found : Result PlainPlan ℕ) : Type 0 where
  pub read : ScheduleReadsAs text found
  pub only : (other : Result PlainPlan ℕ) → ScheduleReadsAs text other → other ≡ found

-- every text is read in one way
abbrev pub HasOneReading : Type 0
HasOneReading = (text : List ℕ) → (found : Result PlainPlan ℕ) × ReadsOnlyAs text found

-- a number of a thread or a leaf
abbrev pub IsNumber : ℕ → Type 0
IsNumber n = n < 2 ^ 32

-- each number of the row is one of a thread or a leaf
abbrev pub AreNumbers : Meet → Type 0
AreNumbers (Single t n) = IsNumber t.0 × IsNumber n
AreNumbers (Pair h i o j) = IsNumber h.0 × IsNumber i × IsNumber o.0 × IsNumber j

-- two threads exchange values, so a row of one leaf is no exchange
abbrev pub IsPair : Meet → Type 0
IsPair (Single t n) = ⊥
IsPair (Pair h i o j) = Unit {0}

-- the numbers of the item are in their ranges, and an exchange has two parties
abbrev pub IsWritable : Item → Type 0
IsWritable (item.Turn t) = IsNumber t.0
IsWritable (item.Meet row) = AreNumbers row
IsWritable (item.Exchange row) = AreNumbers row × IsPair row
IsWritable (item.Clock tick) = tick < 2 ^ 63

-- a budget and a size that a head may say
pub record IsHeadOf (budget : ℕ) (size : Size) : Type 0 where
  pub some : 1 ≤ budget
  pub most : budget ≤ 1000000000
  pub within : IsWithinSize size

-- what is written of such a budget, such a size and such items is read as just these
abbrev pub WrittenIsRead : Type 0
WrittenIsRead = (budget : ℕ) (size : Size) (items : List Item) → IsHeadOf budget size → All IsWritable items →
    ScheduleReadsAs (schedule_text budget size items) (Ok (record { budget = budget; size = Some size; items = items }))
