-- The pending threads, each in its seat.
use Rattle.std.specs.Prelude.{refl, ℕ, ◌≡◌, ◌==◌, Bool, true, nat_lt, List, [], ◌∷◌, Option, Some, None, filter, length}
use Rattle.std.specs.Option.{option_map_or}
use Rattle.std.specs.Borrow.{Bor}
use Rattle.std.specs.Coded.{Coded, code_by, coded×, coded_list, coded_ℕ}
use Rattle.cml_value.specs.declared.number.Tid.{Tid}
use Rattle.cml_scan.specs.World.{PlainEntry}
use Rattle.cml_scan.specs.Codes.{entry_code}
use Rattle.cml_scan.specs.Order.{Every, Ascends}
use Rattle.cml_index.specs.declared.entries.Seat.{Seat}

-- the pending threads, ascending, each with its group, and for how many more there is room
pub record PlainEntries : Type 0 where
  pub items : List PlainEntry
  pub room : ℕ

-- those who are there, in the order of their seats
abbrev pub with_one : Option PlainEntry → List PlainEntry → List PlainEntry
with_one None entries = entries
with_one (Some e) entries = e ∷ entries

abbrev pub seated : List Seat → List PlainEntry
seated [] = []
seated (s ∷ seats) = with_one s.entry (seated seats)

-- a seat before another
abbrev pub seat_before : Seat → Seat → Bool
seat_before a b = nat_lt a.tid.0 b.tid.0

-- whoever is there is the thread of the seat
abbrev pub is_its_own : Seat → Bool
is_its_own s = option_map_or (λ e. e.thread == s.tid.0) s.entry true

-- The seats ascend by their threads; each is taken by its own thread or by none; and those who are there are counted.
pub record AreSeats (seats : List Seat) (pending : ℕ) : Type 0 where
  pub ascend : Ascends seat_before seats
  pub own : Every is_its_own seats
  pub all : pending ≡ length (seated seats)

-- how many of these seats are of threads below this one
abbrev pub count_seats : ℕ → List Seat → ℕ
count_seats thread seats = length (filter (λ s. nat_lt s.tid.0 thread) seats)

-- the entries of the thread among these
abbrev pub own_entries : Tid → List PlainEntry → List PlainEntry
own_entries t entries = filter (λ e. t.0 == e.thread) entries

-- the entry of the thread, if it is one of these
abbrev pub IsEntryOf : Tid → List PlainEntry → Option (Bor PlainEntry) → Type 0
IsEntryOf t entries None = own_entries t entries ≡ []
IsEntryOf t entries (Some e) = (e.now.thread ≡ t.0) × (own_entries t entries ≡ e.now ∷ [])

-- The code of the above, a tree of numbers from which it can be read back. The toolchain asks for it; no rule uses it.
abbrev pub entries_code : Coded PlainEntries
entries_code = code_by (List PlainEntry × ℕ) (coded× (coded_list entry_code) coded_ℕ) (λ x. (x.items, x.room)) (λ p. record { items = p.0; room = p.1 }) (λ _. refl)
