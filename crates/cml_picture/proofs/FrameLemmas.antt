-- What stands within a picture.
use Rattle.std.proofs.Common.{◌≡◌, ℕ, zero, suc, ◌+◌, ◌<◌, ◌≤◌, max, List, [], ◌∷◌, length, arith, ap}
use Rattle.std.specs.List.{fold, All}
use Rattle.cml_picture.specs.declared.layout.mark.Mark.{Mark}
use Rattle.cml_picture.specs.Layouts.{row_height, edges_from, edge_at, AreColumns}

-- no column begins before the first one, or behind the end of the last one
first_least : (x : ℕ) (ws : List ℕ) → x ≤ edge_at (edges_from x ws) (length ws)
first_least x [] = omega arith
first_least x (w ∷ ws) = let h = first_least (x + w) ws in omega (arith, h)

pub edges_across : (x : ℕ) (ws : List ℕ) (n : ℕ) → edge_at (edges_from x ws) n ≤ edge_at (edges_from x ws) (length ws)
edges_across x [] zero = omega arith
edges_across x [] (suc n) = omega arith
edges_across x (w ∷ ws) zero = first_least x (w ∷ ws)
edges_across x (w ∷ ws) (suc n) = edges_across (x + w) ws n

-- the lowest end of a row, of the one before and of this
abbrev pub reached : ℕ → Mark → ℕ
reached n m = max n (m.at + row_height m.shape)

reached_least : (n : ℕ) (ms : List Mark) → n ≤ fold reached n ms
reached_least n [] = omega arith
reached_least n (m ∷ ms) = let h = reached_least (reached n m) ms in omega (arith, h)

-- no row ends below the lowest end
pub all_reached : (n : ℕ) (ms : List Mark) → All (λ m. m.at + row_height m.shape ≤ fold reached n ms) ms
all_reached n [] k d lt = absurd (omega (arith, lt))
all_reached n (m ∷ ms) zero d lt = let h = reached_least (reached n m) ms in omega (arith, h)
all_reached n (m ∷ ms) (suc k) d lt = all_reached (reached n m) ms k d (omega (arith, lt))

pub all_below : (reach : ℕ) (ms : List Mark) → reach ≡ fold reached 40 ms → All (λ m. m.at + row_height m.shape ≤ reach + 12) ms
all_below reach ms e k d lt = let h = all_reached 40 ms k d lt in omega (arith, h, e)

-- no column is outside
pub columns_across : (threads margin : ℕ) (edges : List ℕ) → AreColumns threads margin edges → (n : ℕ) → edge_at edges n ≤ edge_at edges threads
columns_across threads margin edges h n =
    let at : (k : ℕ) → edge_at edges k ≡ edge_at (edges_from (margin + 10) h.widths) k = λ k. ap (λ es. edge_at es k) h.side_by_side in
    let g = edges_across (margin + 10) h.widths n in
    let t : edge_at (edges_from (margin + 10) h.widths) (length h.widths) ≡ edge_at (edges_from (margin + 10) h.widths) threads =
    ap (λ k. edge_at (edges_from (margin + 10) h.widths) k) h.one_each in
    let a = at n in
    let b = at threads in
    omega (arith, g, t, a, b)
