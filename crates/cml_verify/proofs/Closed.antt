-- A closed set has each state.
use Rattle.std.proofs.Common.{◌≡◌, List, [], ◌∷◌, Some, Contains, refl, subst}
use Rattle.std.specs.List.{All}
use Rattle.std.proofs.lemmas.List.Elements.{All-contains}
use Rattle.std.proofs.lemmas.Option.{same_Some}
use Rattle.cml_verify.specs.Systems.{System, run, IsReached, IsLawful, LeadsInto, IsFollowed}
use Rattle.cml_verify.specs.Laws.{AllAreSeen}
use Rattle.cml_verify.proofs.Runs.{at_some, begins, reached_next}

module _ {S I : Type 0} (y : System S I) (lawful : IsLawful y) (seen : List S) where
  -- where an item leads, once all items of a state were followed
  pub followed : (s : S) (i : I) (t : S) → IsReached y s → IsFollowed y seen s → y.step s i ≡ Some t → Contains seen t
  followed s i t r all f = at_some (Contains seen) (y.step s i) t f (All-contains (LeadsInto y seen s) (y.allowed s) i all ((lawful.lists s r).only i t f))

  stays : All (IsFollowed y seen) seen → (items : List I) (s t : S) → Contains seen s → IsReached y s → run y s items ≡ Some t → Contains seen t
  stays closed [] s t has r h = subst (Contains seen) (same_Some s t h) has
  stays closed (i ∷ items) s t has r h =
      let b = begins y s i items t h in
      stays closed items b.next t (followed s i b.next r (All-contains (IsFollowed y seen) seen s closed has) b.first) (reached_next y s i b.next r b.first) b.rest

pub all_are_seen : {S I : Type 0} (y : System S I) → IsLawful y → AllAreSeen y
all_are_seen y lawful seen start closed s r = stays y lawful seen closed r.0 y.start s start ([], refl) r.1
