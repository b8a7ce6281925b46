-- A set of numbers, each with its place in the list of them.
use Rattle.std.specs.Prelude.{refl, ℕ, ◌≡◌, ◌==◌, ◌<◌, ◌≤◌, ◌^◌, Bool, List, length, slice_index}
use Rattle.std.specs.List.{list_any}
use Rattle.std.specs.Coded.{Coded, code_by, coded×, coded_list, coded_ℕ}

-- the numbers that are in, and the bound below which each has a place
pub record PlainNumbers : Type 0 where
  pub items : List ℕ
  pub size : ℕ

-- the number is in
abbrev pub has : PlainNumbers → ℕ → Bool
has s n = list_any (λ m. n == m) s.items

-- Each number below a bound stands once in the order, and its place there is kept beside it.
pub record ArePlaced (order places : List ℕ) : Type 0 where
  pub long : length places ≡ length order
  pub small : length order ≤ 2 ^ 32
  pub there : (n : ℕ) → n < length order → (slice_index places n < length order) × (slice_index order (slice_index places n) ≡ n)
  pub back : (i : ℕ) → i < length order → (slice_index order i < length order) × (slice_index places (slice_index order i) ≡ i)

-- The code of the above, a tree of numbers from which it can be read back. The toolchain asks for it; no rule uses it.
abbrev pub numbers_code : Coded PlainNumbers
numbers_code = code_by (List ℕ × ℕ) (coded× (coded_list coded_ℕ) coded_ℕ) (λ x. (x.items, x.size)) (λ p. record { items = p.0; size = p.1 }) (λ _. refl)
