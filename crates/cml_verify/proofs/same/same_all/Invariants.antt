use Rattle.std.proofs.Common.{◌≡◌, ◌↔◌, drop, length, map}
use Rattle.cml_verify.proofs.same.same_all.Given as goal

-- what the loop has seen is the same, so the rest decides
abbrev pub invariant-loop-i : goal.invariant-loop-i
invariant-loop-i g l =
    let f = g.T.Same.plain in
    (length l.these ≡ length l.others) × ((map f l.these ≡ map f l.others) ↔ (map f (drop l.i l.these) ≡ map f (drop l.i l.others)))
