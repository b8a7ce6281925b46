-- What a whole search has found.
use Rattle.std.proofs.Common.{ℕ, true, false, List, Result, Ok, Err, Contains}
use Rattle.std.specs.Prelude.{IfOk}
use Rattle.std.specs.List.{All}
use Rattle.std.proofs.lemmas.Option.{slice_get_within, get_or_from_slice_get}
use Rattle.cml_verify.specs.Systems.{System, IsReached, IsTerminal, IsLawful}
use Rattle.cml_verify.specs.Searches.{Keeps, WasFollowed}
use Rattle.cml_verify.proofs.Closed.{all_are_seen}
use Rattle.cml_verify.proofs.Quiet.{each_end_is_seen}
use Rattle.cml_verify.proofs.Rounds.{followed_whole, followed_or_quietly}

pub both_ok : {X E : Type 0} {P Q R : X → Type 0} (r : Result X E) → IfOk r P → IfOk r Q → ((x : X) → P x → Q x → R x) → IfOk r R
both_ok (Ok x) p q f = f x p q
both_ok (Err e) p q f = tt

pub one_ok : {X E : Type 0} {P R : X → Type 0} (r : Result X E) → IfOk r P → ((x : X) → P x → R x) → IfOk r R
one_ok (Ok x) p f = f x p
one_ok (Err e) p f = tt

module _ {S I : Type 0} (y : System S I) (lawful : IsLawful y) (seen : List S) (origins : List (ℕ × I)) (keeps : Keeps y seen origins) where
  starts : Contains seen y.start
  starts = (0, slice_get_within seen 0 y.start keeps.trail.start, get_or_from_slice_get seen 0 y.start y.start keeps.trail.start)

  pub has_each_state : All (WasFollowed y false seen) seen → (s : S) → IsReached y s → Contains seen s
  has_each_state h = all_are_seen y lawful seen starts (followed_whole y seen h)

  pub has_each_end : All (WasFollowed y true seen) seen → (s : S) → IsReached y s → IsTerminal y s → Contains seen s
  has_each_end h = each_end_is_seen y lawful seen starts (followed_or_quietly y seen h)
