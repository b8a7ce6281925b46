-- Functions by their names.
use Rattle.std.proofs.Common.{◌≡◌, ◌∙◌, ◌+◌, ◌-◌, ◌<◌, ℕ, suc, Bool, false, cond, Some, ap, arith}
use Rattle.std.specs.List.{find, range_with_len}

-- a number that does not pass is not found
pub found_on : (test : ℕ → Bool) (i n : ℕ) → i < n → test i ≡ false → find test (range_with_len i (n - i)) ≡ find test (range_with_len (i + 1) (n - (i + 1)))
found_on test i n below miss =
    let more : n - i ≡ suc (n - (i + 1)) = omega arith in
    ap (λ k. find test (range_with_len i k)) more ∙ ap (λ b. cond b (Some i) (find test (range_with_len (i + 1) (n - (i + 1))))) miss
