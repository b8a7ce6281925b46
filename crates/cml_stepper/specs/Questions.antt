-- The question before each answer: what can happen next.
use Rattle.std.specs.Prelude.{◌≡◌, ℕ, ◌+◌, ◌-◌, ◌==◌, ◌&&◌, Bool, true, false, if◌then◌else◌, List, [], ◌∷◌, map, length, take, Option, None, option_and_then}
use Rattle.cml_value.specs.Value.{PlainFunction}
use Rattle.cml_scan.specs.World.{PlainWorld, PlainThread}
use Rattle.cml_scan.specs.Scan.{scan}
use Rattle.cml_scan.specs.declared.meet.Meet.{Meet}
use Rattle.cml_book.specs.Walks.{runs}
use Rattle.cml_hub.specs.Courses.{PlainCourse}
use Rattle.cml_hub.specs.Kept.{Kept}
use Rattle.cml_hub.specs.Runs.{terminal, next_alarm}
use Rattle.cml_phrase.specs.declared.place.Place.{Place}
use Rattle.cml_facts.specs.declared.ending.standing.Spot.{Spot}
use Rattle.cml_facts.specs.Standings.{AreSpots, spot_at, spot_place}
use Rattle.cml_facts.specs.Waits.{who_is}
use Rattle.cml_facts.specs.Ends.{IsEnding}
use Rattle.cml_facts.specs.Turns.{began_in}
use Rattle.cml_stepper.specs.declared.question.Ready.{Ready}
use Rattle.cml_stepper.specs.declared.question.Offers.{Offers}
use Rattle.cml_stepper.specs.declared.question.Next.{Next}
use Rattle.cml_stepper.specs.declared.question.Next.TheVariants as next
use Rattle.cml_stepper.specs.declared.question.Question.{Question}
use Rattle.cml_stepper.specs.Offers.{listed_limit, AreRows}

-- the numbers of those of these threads that run, of which the first has this number
abbrev pub running_from : ℕ → List PlainThread → List ℕ
running_from n [] = []
running_from n (t ∷ ts) = if runs t then n ∷ running_from (n + 1) ts else running_from (n + 1) ts

-- a thread that runs, and where it stands
abbrev pub ready_thread : List (List Place) → List PlainFunction → List (Option Spot) → ℕ → Ready
ready_thread places began spots t = record { thread = who_is began t; place = option_and_then (spot_place places) (spot_at spots t) }

-- no thread of these runs, and none of these rows can be taken
abbrev pub is_still : List ℕ → List Meet → Bool
is_still ready meets = (length ready == 0) && (length meets == 0)

-- the tick to which the time can move, where nothing else can happen
abbrev pub tick_next : PlainWorld → Bool → Option ℕ
tick_next w still = if still then next_alarm w else None

-- All that can happen: the turns of the threads that run, the rows of the scan, and a move of the time. Where two statements leave the same to
-- do, either may be told as the one at which a thread stands.
pub record AreOffers (places : List (List Place)) (c : PlainCourse) (x : Offers) : Type 0 where
  pub spots : List (Option Spot)
  pub stand : AreSpots c spots
  pub ready : x.ready.items ≡ map (ready_thread places (began_in c) spots) (take listed_limit (running_from 0 c.world.threads))
  pub more_ready : x.more_ready ≡ length (running_from 0 c.world.threads) - listed_limit
  pub rows : AreRows c.world (began_in c) 1 (scan c.world) x.rows
  pub tick : x.tick ≡ tick_next c.world (is_still (running_from 0 c.world.threads) (scan c.world))

-- what can happen; or, where nothing can, how the run has ended
abbrev pub ComesNext : Bool → List (List Place) → Kept → Next → Type 0
ComesNext true places h (next.Ended ending) = IsEnding places h ending
ComesNext false places h (next.Offers offers) = AreOffers places h.course offers
ComesNext over places h x = ⊥

-- the question: what can happen in this hub, or how its run has ended, and the number of the item that comes next
pub record IsQuestion (places : List (List Place)) (h : Kept) (q : Question) : Type 0 where
  pub next_is : ComesNext (terminal h.course.world) places h q.next
  pub number : q.number ≡ length h.course.items + 1
