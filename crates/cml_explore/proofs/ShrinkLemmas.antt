-- How many items of a schedule are made shorter.
use Rattle.std.proofs.Common.{◌≡◌, ◌≤◌, ℕ, Bool, true, false, List, MatchBool, take, length, sym, subst, arith}
use Rattle.std.specs.Prelude.{MatchResult, Option, Some, None, Result, Ok, Err, IfOk}
use Rattle.std.specs.declared.alloc.AllocError.{AllocError}
use Rattle.cml_check.specs.Syntax.{PlainItem}
use Rattle.cml_hub.specs.Kept.{Kept, IsReplayed}
use Rattle.cml_judge.specs.Stops.{StopsAfter, StopsBehind}
use Rattle.cml_schedule.specs.declared.item.Item.{Item}
use Rattle.cml_step.specs.Calls.{text_of}
use Rattle.cml_explore.specs.ShrinkEnds.{IsGiven, IsNotGiven, IsRefused, given_by}
use Rattle.cml_explore.specs.declared.shrink.fault.ShrinkFault.{ShrinkFault}
use Rattle.cml_explore.specs.declared.shrink.fault.ShrinkFault.TheVariants.{BadItem, NoBreak, Memory}
use Rattle.cml_explore.specs.declared.shrink.replay.Asked.{Asked}

-- they can't be followed
pub not_given : (p : List (PlainItem ℕ)) (asked : Asked) (items : List Item) (why : ShrinkFault) → IsRefused p items why → IsNotGiven p asked items why
not_given p asked items (BadItem number) is = is
not_given p asked items NoBreak is = absurd is
not_given p asked items Memory is = tt

-- all of them, where the run is not to stop
pub given_all : (p : List (PlainItem ℕ)) (asked : Asked) (items : List Item) (count : ℕ) → asked.stops ≡ false → count ≡ length items → IsGiven p asked items count
given_all p asked items count goes is =
    subst (λ (b : Bool). MatchBool b (StopsBehind asked.properties.now (text_of p) items count) (count ≡ length items)) (sym goes) is

-- those up to where the run of a hub stops, which they have led there
stops_so : (p : List (PlainItem ℕ)) (asked : Asked) (items : List Item) (h : Kept) (stop : Option ℕ) → IsReplayed p asked.budget None items h
    → StopsAfter asked.properties.now (text_of h.course.program) h.course.items stop → StopsAfter asked.properties.now (text_of p) items stop
stops_so p asked items h stop made is =
    subst (λ (ts : List Item). StopsAfter asked.properties.now (text_of p) ts stop) made.items_are
    (subst (λ (q : List (PlainItem ℕ)). StopsAfter asked.properties.now (text_of q) h.course.items stop) made.program is)

pub given_so : (r : Result (Option ℕ) AllocError) (p : List (PlainItem ℕ)) (asked : Asked) (items : List Item) (h : Kept) → asked.stops ≡ true → IsReplayed p asked.budget None items h
    → IfOk r (StopsAfter asked.properties.now (text_of h.course.program) h.course.items)
    → MatchResult (given_by r) (IsGiven p asked items) (λ why. IsNotGiven p asked items why)
given_so (Ok (Some count)) p asked items h stops made is =
    subst (λ (b : Bool). MatchBool b (StopsBehind asked.properties.now (text_of p) items count) (count ≡ length items)) (sym stops) (stops_so p asked items h (Some count) made is)
given_so (Ok None) p asked items h stops made is = (stops, stops_so p asked items h None made is)
given_so (Err e) p asked items h stops made is = tt
