-- Rows, one below the other.
use Rattle.std.specs.Prelude.{ℕ, ◌+◌, ◌<◌, ◌⊎◌, length, List, [], ◌∷◌, ◌++◌}
use Rattle.std.specs.List.{fold}
use Rattle.std.specs.Option.{option_to_list}
use Rattle.cml_scan.specs.World.{PlainWorld}
use Rattle.cml_hub.specs.Courses.{PlainCourse}
use Rattle.cml_facts.specs.declared.narrative.deed.Happened.{Happened}
use Rattle.cml_picture.specs.declared.layout.mark.Shape.{Shape}
use Rattle.cml_picture.specs.declared.layout.mark.Shape.TheVariants.{Print, Nack}
use Rattle.cml_picture.specs.declared.fault.DrawFault.{DrawFault}
use Rattle.cml_picture.specs.declared.fault.DrawFault.TheVariants.{BadItem, TooMany, Memory}
use Rattle.cml_picture.specs.declared.sheet.feed.Fed.{Fed}
use Rattle.cml_picture.specs.declared.sheet.sign.Sign.{Sign}
use Rattle.cml_picture.specs.Feeds.{fed_by}
use Rattle.cml_picture.specs.Layouts.{row_height, top_row}
use Rattle.cml_picture.specs.Signs.{signs_of}

-- how many threads there are
abbrev pub thread_count : PlainCourse → ℕ
thread_count c = length c.world.threads

-- what is printed and the nacks that fire stand beside the lines, and are counted as no rows
abbrev pub counted_rows : Shape → ℕ
counted_rows Print = 0
counted_rows Nack = 0
counted_rows shape = 1

-- how far down these rows go below others
abbrev pub bottom_below : ℕ → List Sign → ℕ
bottom_below bottom signs = fold (λ n sign. n + row_height sign.shape) bottom signs

-- how many rows are counted with these
abbrev pub count_with : ℕ → List Sign → ℕ
count_with count signs = fold (λ n sign. n + counted_rows sign.shape) count signs

-- how far down those of these items go
abbrev pub bottom_with : ℕ → Happened → ℕ
bottom_with bottom x = bottom_below bottom (signs_of x.deed)

abbrev pub bottom_of : List Happened → ℕ
bottom_of shown = fold bottom_with top_row shown

-- what the items did so far that show something, which of them took what another one had fed, how far below the top the next row begins, and
-- how many rows were counted
pub record PlainStack : Type 0 where
  pub shown : List Happened
  pub fed : List Fed
  pub bottom : ℕ
  pub rows : ℕ

abbrev pub no_rows : PlainStack
no_rows = record { shown = []; fed = []; bottom = top_row; rows = 0 }

-- an item that is not seen is not there
abbrev pub listed : Happened → List Sign → List Happened
listed x [] = []
listed x (sign ∷ signs) = x ∷ []

-- what one item more did, which led to this world
unfoldable pub with_happened : PlainWorld → PlainStack → Happened → PlainStack
with_happened w s x = record {
  shown = s.shown ++ listed x (signs_of x.deed);
  fed = s.fed ++ option_to_list (fed_by w s.shown x);
  bottom = bottom_with s.bottom x;
  rows = count_with s.rows (signs_of x.deed);
}

-- how many rows a picture has at most, and how far down they go
abbrev pub row_limit : ℕ
row_limit = 2000

abbrev pub height_limit : ℕ
height_limit = 1000000000

-- there are more rows, or they go further down
abbrev pub AreTooMuch : ℕ → ℕ → Type 0
AreTooMuch bottom rows = (row_limit < rows) ⊎ (height_limit < bottom)

abbrev pub IsTooMuch : PlainStack → Type 0
IsTooMuch s = AreTooMuch s.bottom s.rows

-- why rows are not added that would lead so far
abbrev pub RefusesRows : ℕ → ℕ → DrawFault → Type 0
RefusesRows bottom rows TooMany = AreTooMuch bottom rows
RefusesRows bottom rows Memory = Unit {0}
RefusesRows bottom rows (BadItem number) = ⊥

abbrev pub RefusesShown : PlainStack → DrawFault → Type 0
RefusesShown s why = RefusesRows s.bottom s.rows why
