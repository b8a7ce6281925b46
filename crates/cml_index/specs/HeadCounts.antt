-- Channels, each with a count of the offers that can stand first on it.
use Rattle.std.specs.Prelude.{refl, ℕ, ◌≡◌, ◌==◌, ◌≤◌, ◌^◌, ◌%◌, Bool, false, List, length, get_or}
use Rattle.std.specs.List.{list_any, sum_by}
use Rattle.std.specs.Coded.{Coded, code_by, coded×, coded_list, coded_ℕ}
use Rattle.cml_index.specs.Numbers.{PlainNumbers, has}

-- the channels that are in, the bound below which each has a place, and the count of each number
pub record PlainCounts : Type 0 where
  pub items : List ℕ
  pub size : ℕ
  pub counts : List ℕ

-- the channel is in
abbrev pub has_count : PlainCounts → ℕ → Bool
has_count s n = list_any (λ m. n == m) s.items

-- the count at a place of a list, or 0
abbrev pub count_in : List ℕ → ℕ → ℕ
count_in counts n = get_or counts n 0

abbrev pub head_count_of : PlainCounts → ℕ → ℕ
head_count_of s n = count_in s.counts n

-- the sum of all counts
abbrev pub all_counts : List ℕ → ℕ
all_counts counts = sum_by (λ n. n) counts

-- Each number with a place has a count, which is 0 where it is not in; and the sum is kept as a number of 64 bits.
pub record AreCounts (channels : PlainNumbers) (counts : List ℕ) (sum : ℕ) : Type 0 where
  pub long : channels.size ≤ length counts
  pub none : (n : ℕ) → has channels n ≡ false → count_in counts n ≡ 0
  pub whole : sum ≡ all_counts counts % 2 ^ 64

-- The code of the above, a tree of numbers from which it can be read back. The toolchain asks for it; no rule uses it.
abbrev pub counts_code : Coded PlainCounts
counts_code = code_by (List ℕ × (ℕ × List ℕ)) (coded× (coded_list coded_ℕ) (coded× coded_ℕ (coded_list coded_ℕ))) (λ x. (x.items, (x.size, x.counts))) (λ p. record { items = p.0; size = p.1.0; counts = p.1.1 }) (λ _. refl)
