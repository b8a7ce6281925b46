use Rattle.std.proofs.Common.{ℕ, ◌<◌, length, map, Contains, slice_get}
use Rattle.std.specs.Prelude.{IfSome}
use Rattle.std.specs.List.{All}
use Rattle.cml_verify.specs.Systems.{IsTerminal}
use Rattle.cml_verify.proofs.search.found.ends_of.Given as goal

abbrev pub invariant-loop-k : goal.invariant-loop-k
invariant-loop-k g l =
    let y = g.Y.System.rules l.system in
    let states = map (g.Y.System.state_of l.system) l.found.kept.keys in
    record {
      within : All (λ k. k < length l.found.kept.keys) l.ends.items;
      each : All (λ k. IfSome (slice_get states k) (IsTerminal y)) l.ends.items;
      all : (k : ℕ) → k < l.k → IfSome (slice_get states k) (λ s. IsTerminal y s → Contains l.ends.items k);
    }
