-- Where each mark stands, in numbers.
use Rattle.std.specs.Prelude.{◌≡◌, ℕ, ◌+◌, ◌≤◌, List, [], ◌∷◌, length, slice_get, unwrap_or}
use Rattle.std.specs.List.{All}
use Rattle.cml_picture.specs.declared.layout.frame.Frame.{Frame}
use Rattle.cml_picture.specs.declared.layout.mark.Mark.{Mark}
use Rattle.cml_picture.specs.declared.layout.mark.Shape.{Shape}
use Rattle.cml_picture.specs.declared.layout.mark.Shape.TheVariants.{Beginning, Spawn, Arrow, Print, Nack, End, Event, Lost}

-- how high the row of a mark is
abbrev pub row_height : Shape → ℕ
row_height Beginning = 0
row_height Spawn = 26
row_height Arrow = 26
row_height Print = 15
row_height Nack = 15
row_height End = 18
row_height Event = 14
row_height Lost = 14
row_height shape = 22

-- how far below the top of its row a mark stands
abbrev pub row_drop : Shape → ℕ
row_drop Beginning = 0
row_drop Spawn = 18
row_drop Arrow = 18
row_drop Print = 8
row_drop Nack = 8
row_drop End = 9
row_drop Event = 7
row_drop Lost = 7
row_drop shape = 11

abbrev pub level_of : Mark → ℕ
level_of m = m.at + row_drop m.shape

-- where the first row begins
abbrev pub top_row : ℕ
top_row = 40

-- these marks stand one below the other, from here down to there
abbrev pub AreStacked : ℕ → List Mark → ℕ → Type 0
AreStacked top [] bottom = top ≡ bottom
AreStacked top (m ∷ ms) bottom = (m.at ≡ top) × AreStacked (top + row_height m.shape) ms bottom

-- where columns of these widths begin that stand side by side from there on, and where the last one ends
abbrev pub edges_from : ℕ → List ℕ → List ℕ
edges_from x [] = x ∷ []
edges_from x (c ∷ cs) = x ∷ edges_from (x + c) cs

-- the place of this number
abbrev pub edge_at : List ℕ → ℕ → ℕ
edge_at places n = unwrap_or (slice_get places n) 0

-- a column for each of so many threads, side by side in the order of their numbers, beside the margin
pub record AreColumns (threads margin : ℕ) (edges : List ℕ) : Type 0 where
  pub widths : List ℕ
  pub one_each : length widths ≡ threads
  pub side_by_side : edges ≡ edges_from (margin + 10) widths

-- A frame for so many threads and these marks: no column and no row of a mark is outside the picture.
pub record FitsFrame (threads : ℕ) (marks : List Mark) (f : Frame) : Type 0 where
  pub columns : AreColumns threads f.margin f.edges.items
  pub across : (n : ℕ) → edge_at f.edges.items n ≤ f.width
  pub down : All (λ m. m.at + row_height m.shape ≤ f.height) marks
