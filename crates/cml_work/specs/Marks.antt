-- What marks know of a list that only grows.
use Rattle.std.specs.Prelude.{◌≡◌, ℕ, List, [], ◌++◌, true, false}
use mathlib.Core.Option.{some}
use lib.ListN.{get_elem?}
use Rattle.atomic_table.specs.Seated.{TableId}
use Rattle.crossbeam_utils.specs.Seq.{cell_view}
use Rattle.cml_schedule.specs.Reports.{PlainReport}
use Rattle.cml_work.specs.declared.marks.Known.{Known}
use Rattle.atomic_table.specs.declared.shared.Seat.{Seat}
use Rattle.crossbeam_utils.specs.declared.atomic.seq_cell.Doing.{Doing}

-- the list begins with these
abbrev pub BeginsWith : List PlainReport → List PlainReport → Type 0
BeginsWith list first = (rest : List PlainReport) × (list ≡ first ++ rest)

-- the keeper, who knows all of these, and has taken no mark in
abbrev pub knower : List PlainReport → Known
knower all = record { keeps = true; all = all; shown = [] }

-- a mark that is spent
abbrev pub nobody : Known
nobody = record { keeps = false; all = []; shown = [] }

-- a mark that was shown all that the keeper knows
abbrev pub shown_all : Known → Known
shown_all v = record { keeps = false; all = []; shown = v.all }

-- the keeper with a mark that it has taken in
abbrev pub with_shown : Known → Known → Known
with_shown v w = record { keeps = v.keeps; all = v.all; shown = w.shown }

-- One mark is the keeper's at most, and knows the whole log. What any mark was shown is a beginning of the log.
abbrev pub MarksAgree : List ℕ → List Known → Type 0
MarksAgree words views =
    (seat : ℕ) × (log : List PlainReport)
    × ((by : ℕ) (v : Known) → get_elem? views by ≡ some v → (v.keeps ≡ true → (by ≡ seat) × (v.all ≡ log)) × BeginsWith log v.shown)

-- the keeper knows this list now, and what it knew before begins with what it had taken in
abbrev pub Learned : List PlainReport → Known → Known → Type 0
Learned list v w = (w ≡ knower list) × BeginsWith v.all v.shown

-- a mark, as clauses see it
abbrev pub PlainMark : Type 0
PlainMark = Seat (List ℕ) (Doing (List ℕ) Known)

-- the mark of the keeper of this board, who knows these
abbrev pub IsKeeper : TableId → List PlainReport → PlainMark → Type 0
IsKeeper board all mark = (mark.table_id ≡ board) × (cell_view mark ≡ knower all)

-- the mark of this board, of one who was shown these
abbrev pub WasShown : TableId → List PlainReport → PlainMark → Type 0
WasShown board list mark = (mark.table_id ≡ board) × (mark.me.1 ≡ []) × (cell_view mark ≡ shown_all (knower list))

-- what the keeper knows, and what a mark was shown
abbrev pub known_of : PlainMark → List PlainReport
known_of mark = (cell_view mark).all

abbrev pub shown_of : PlainMark → List PlainReport
shown_of mark = (cell_view mark).shown

-- the name of no board
abbrev pub no_board : TableId
no_board = record { words = 0; slots = 0; views_name = 0; atom = 0; block = 0; offset = 0; slot_names = [] }
