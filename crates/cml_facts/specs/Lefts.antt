-- The threads that are left when a run has ended.
use Rattle.std.specs.Prelude.{ℕ, suc, ◌==◌, Bool, false, List, [], ◌∷◌, ◌++◌, map, count_by, slice_index, Option, Some, None, option_map, option_and_then}
use Rattle.std.specs.List.{range_with_len}
use Rattle.std.specs.Option.{option_to_list}
use Rattle.cml_value.specs.Value.{PlainFunction}
use Rattle.cml_scan.specs.World.{PlainThread, running, pending_on, ended, PlainWorld}
use Rattle.cml_schedule.specs.declared.item.Item.{Item}
use Rattle.cml_schedule.specs.declared.item.Item.TheVariants.{Turn}
use Rattle.cml_phrase.specs.declared.place.Place.{Place}
use Rattle.cml_facts.specs.declared.ending.left.Left.{Left}
use Rattle.cml_facts.specs.declared.ending.left.Stands.{Stands}
use Rattle.cml_facts.specs.declared.ending.left.Stands.TheVariants.{Waits, Runs}
use Rattle.cml_facts.specs.declared.ending.standing.Spot.{Spot}
use Rattle.cml_facts.specs.Waits.{who_is, awaited_of}
use Rattle.cml_facts.specs.Standings.{spot_at, spot_place}

-- A run that has ended: where the statements of each function stand, the world, the function with which each thread began, the thread that took
-- last from an M-variable, where each thread stands, and how many turns each had.
pub record Scene : Type 0 where
  pub places : List (List Place)
  pub world : PlainWorld
  pub began : List PlainFunction
  pub taker : ℕ → Option ℕ
  pub spots : List (Option Spot)
  pub turns : List ℕ

abbrev pub is_turn_of : ℕ → Item → Bool
is_turn_of t (Turn u) = u.0 == t
is_turn_of t item = false

-- how many turns a thread had in a schedule
abbrev pub turn_count : List Item → ℕ → ℕ
turn_count items t = count_by (is_turn_of t) items

-- that of each of so many threads
abbrev pub turn_counts : List Item → ℕ → List ℕ
turn_counts items threads = map (turn_count items) (range_with_len 0 threads)

-- how a thread is left that waits or runs
abbrev pub stands_of : PlainWorld → List PlainFunction → (ℕ → Option ℕ) → PlainThread → Option Stands
stands_of w began taker running = Some Runs
stands_of w began taker (pending_on g) = Some (Waits (awaited_of w began taker g))
stands_of w began taker ended = None

-- a thread that is left so
abbrev pub left_with : Scene → ℕ → Stands → Left
left_with s t stands = record {
  thread = who_is s.began t;
  turns = slice_index s.turns t;
  spot = spot_at s.spots t;
  place = option_and_then (spot_place s.places) (spot_at s.spots t);
  stands = stands;
}

-- a thread, if it is left
abbrev pub left_thread : Scene → ℕ → PlainThread → Option Left
left_thread s t thread = option_map (left_with s t) (stands_of s.world s.began s.taker thread)

-- those that are left of these threads, of which the first has this number
abbrev pub all_left : Scene → ℕ → List PlainThread → List Left
all_left s t [] = []
all_left s t (thread ∷ threads) = option_to_list (left_thread s t thread) ++ all_left s (suc t) threads
