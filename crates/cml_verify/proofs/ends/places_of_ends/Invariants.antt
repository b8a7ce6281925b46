use Rattle.std.proofs.Common.{◌≡◌, ◌<◌, ℕ, Some, length, slice_get}
use Rattle.std.specs.List.{All}
use Rattle.cml_verify.specs.Ends.{IsEndAt, EachEndIsAmong}
use Rattle.cml_verify.proofs.ends.places_of_ends.Given as goal

abbrev pub invariant-loop-k : goal.invariant-loop-k
invariant-loop-k l =
    record {
      within : All (λ k. k < length l.kept) l.places.items;
      each : All (IsEndAt l.kept) l.places.items;
      all : EachEndIsAmong l.kept l.places.items l.k;
      below : All (λ j. j < l.k) l.places.items;
      apart : (i j k : ℕ) → slice_get l.places.items i ≡ Some k → slice_get l.places.items j ≡ Some k → i ≡ j;
    }
