use Rattle.std.proofs.Common.{◌≡◌}
use Rattle.cml_phrase.specs.Spots.{place_at}
use Rattle.cml_phrase.proofs.place.place_behind.Given as goal

abbrev pub invariant-loop-i : goal.invariant-loop-i
invariant-loop-i l = l.place ≡ place_at l.text l.i
