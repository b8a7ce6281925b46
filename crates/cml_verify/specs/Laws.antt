-- What the laws say.
use Rattle.std.specs.Prelude.{◌≡◌, List, Contains, ◌⊎◌, option_map}
use Rattle.std.specs.List.{All}
use Rattle.cml_verify.specs.Systems.{System, run, IsReached, IsTerminal, IsFollowed, IsFollowedQuietly}

module _ {S I : Type 0} (y : System S I) where
  -- States that hold the start, and all that their items lead to, hold each state that a schedule leads to.
  abbrev pub AllAreSeen : Type 0
  AllAreSeen = (seen : List S) → Contains seen y.start → All (IsFollowed y seen) seen → (s : S) → IsReached y s → Contains seen s

  -- States that hold the start, and of each of them what all its items lead to, or what one quiet turn leads to, hold each state at which a
  -- schedule ends.
  abbrev pub EachEndIsSeen : Type 0
  EachEndIsSeen = (seen : List S) → Contains seen y.start → All (λ s. IsFollowed y seen s ⊎ IsFollowedQuietly y seen s) seen → (s : S) → IsReached y s → IsTerminal y s → Contains seen s

module _ {S T I : Type 0} (y : System S I) (z : System T I) where
  -- The one system is a view of the other: what it leaves out of a state makes no difference to any step.
  pub record IsView (view : S → T) : Type 0 where
    pub start : z.start ≡ view y.start
    pub step : (s : S) (i : I) → IsReached y s → z.step (view s) i ≡ option_map view (y.step s i)

  -- Each schedule leads in the view to the view of where it leads.
  abbrev pub SeesSchedules : (S → T) → Type 0
  SeesSchedules view = (items : List I) → run z z.start items ≡ option_map view (run y y.start items)
