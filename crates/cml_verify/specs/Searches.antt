-- What a search keeps.
use Rattle.std.specs.Prelude.{◌≡◌, ℕ, ◌+◌, ◌<◌, ◌≤◌, Bool, true, List, [], ◌∷◌, ◌++◌, length, Some, option_and_then, slice_get, IfSome, Contains, ◌⊎◌}
use Rattle.std.specs.List.{All}
use Rattle.cml_verify.specs.Systems.{System, run, IsReached, IsTerminal, IsFollowed, IsFollowedQuietly}

-- some were added at the end
abbrev pub IsLonger : {S : Type 0} → List S → List S → Type 0
IsLonger {S} old new = (more : List S) × (new ≡ old ++ more)

-- the state stands before this place
abbrev pub IsFoundBefore : {S : Type 0} → List S → ℕ → S → Type 0
IsFoundBefore states place s = (k : ℕ) × (k < place) × (slice_get states k ≡ Some s)

-- the item leads on from this place: an edge says where
abbrev pub LeadsOnBy : {I : Type 0} → List (ℕ × I × ℕ) → ℕ → I → Type 0
LeadsOnBy edges place i = (to : ℕ) × Contains edges (place, i, to)

-- By the origins, one item more leads to a state than to the one that it came of: how many lead to the state at each place.
pub record Depths {I : Type 0} (origins : List (ℕ × I)) (depth : ℕ → ℕ) : Type 0 where
  pub start : depth 0 ≡ 0
  pub more : (k : ℕ) (o : ℕ × I) → slice_get origins k ≡ Some o → depth (k + 1) ≡ depth o.0 + 1

module _ {S I : Type 0} (y : System S I) where
  -- The first state is the start. Each other one came of a state before it, by an item: its origin.
  pub record IsTrail (states : List S) (origins : List (ℕ × I)) : Type 0 where
    pub start : slice_get states 0 ≡ Some y.start
    pub lengths : length states ≡ length origins + 1
    pub before : (k : ℕ) (o : ℕ × I) → slice_get origins k ≡ Some o → o.0 ≤ k
    pub came : (k : ℕ) (o : ℕ × I) → slice_get origins k ≡ Some o → option_and_then (λ s. y.step s o.1) (slice_get states o.0) ≡ slice_get states (k + 1)

  -- what is true of the states and their origins all the time
  pub record Keeps (states : List S) (origins : List (ℕ × I)) : Type 0 where
    pub trail : IsTrail states origins
    pub reached : All (IsReached y) states

  -- These items are enough to follow: all that can be taken, or, where that may be, one quiet turn.
  abbrev pub AreEnough : Bool → S → List I → Type 0
  AreEnough quietly s items = (items ≡ y.allowed s) ⊎ ((turn : I) × (quietly ≡ true) × (y.quiet s turn ≡ true) × (items ≡ turn ∷ []))

  -- a state was followed, or, where that may be, one quiet turn of it
  abbrev pub WasFollowed : Bool → List S → S → Type 0
  WasFollowed quietly seen s = IsFollowed y seen s ⊎ ((quietly ≡ true) × IsFollowedQuietly y seen s)

  -- The item leads to one of the states, to which so many items lead at most.
  abbrev pub LeadsNear : List S → (ℕ → ℕ) → ℕ → S → I → Type 0
  LeadsNear states depth most s i = IfSome (y.step s i) (λ t. (k : ℕ) × (slice_get states k ≡ Some t) × (depth k ≤ most))

  -- All that a state leads to is near, or, where that may be, what one quiet turn of it leads to.
  abbrev pub IsFollowedNear : Bool → List S → (ℕ → ℕ) → ℕ → S → Type 0
  IsFollowedNear quietly states depth most s = All (LeadsNear states depth most s) (y.allowed s) ⊎ ((turn : I) × (quietly ≡ true) × (y.quiet s turn ≡ true) × LeadsNear states depth most s turn)

  -- Breadth first: the states stand in the order of how many items lead to them. So many of the first were followed, and each of them leads
  -- no further than one item on; of the next state these items were followed.
  pub record IsBroad (quietly : Bool) (followed : ℕ) (states : List S) (origins : List (ℕ × I)) (begun : List I) : Type 0 where
    pub depth : ℕ → ℕ
    pub counts : Depths origins depth
    pub within : followed ≤ length states
    pub order : (j k : ℕ) → j ≤ k → k < length states → depth j ≤ depth k
    pub near : followed < length states → (k : ℕ) → k < length states → depth k ≤ depth followed + 1
    pub done : (j : ℕ) (s : S) → j < followed → slice_get states j ≡ Some s → IsFollowedNear quietly states depth (depth j + 1) s
    pub here : IfSome (slice_get states followed) (λ s. All (LeadsNear states depth (depth followed + 1) s) begun)

  -- A search, breadth first, where so many of the first states were followed.
  pub record IsSearch (quietly : Bool) (followed : ℕ) (states : List S) (origins : List (ℕ × I)) : Type 0 where
    pub keeps : Keeps states origins
    pub broad : IsBroad quietly followed states origins []

  -- A schedule leads to the state that a search seeks: any state, or, where quiet turns were followed alone, one at which a schedule ends.
  abbrev pub IsSought : Bool → List I → S → Type 0
  IsSought quietly items s = (run y y.start items ≡ Some s) × (quietly ≡ true → IsTerminal y s)

  -- No fewer items lead to the state at this place, where it does not stand before: all that fewer items lead to stands before the place.
  abbrev pub AreFewest : Bool → List S → ℕ → List I → Type 0
  AreFewest quietly states place items = (others : List I) (s : S) → IsSought quietly others s → length others < length items → IsFoundBefore states place s

  -- The item of an edge leads from the state at the one place to the state at the other.
  pub record IsEdge (states : List S) (e : ℕ × I × ℕ) : Type 0 where
    pub from : S
    pub to : S
    pub stands : slice_get states e.0 ≡ Some from
    pub there : slice_get states e.2 ≡ Some to
    pub leads : y.step from e.1 ≡ Some to

  -- From each of so many of the first states, an edge says of each of enough items where it leads; and from the next state of each of these.
  pub record AreEdges (quietly : Bool) (followed : ℕ) (states : List S) (edges : List (ℕ × I × ℕ)) (begun : List I) : Type 0 where
    pub each : All (IsEdge states) edges
    pub done : (j : ℕ) (s : S) → j < followed → slice_get states j ≡ Some s → (items : List I) × AreEnough quietly s items × All (LeadsOnBy edges j) items
    pub here : All (LeadsOnBy edges followed) begun
