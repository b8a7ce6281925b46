-- How turns are counted.
use Rattle.std.proofs.Common.{◌≡◌, ℕ, ◌+◌, ◌<◌, ◌≤◌, List, length, take, get_or, ap, ◌∙◌}
use Rattle.std.specs.Prelude.{if◌then◌else◌}
use Rattle.std.proofs.lemmas.List.{take_all}
use Rattle.std.proofs.lemmas.List.FromFn.{fill_by_all, length-map-range_with_len}
use Rattle.cml_schedule.specs.declared.item.Item.{Item}
use Rattle.cml_facts.specs.Lefts.{turn_count, turn_counts}

pub all_counted : (counts : List ℕ) (items : List Item) (threads i : ℕ) → length counts ≡ threads → length items ≤ i
    → ((t : ℕ) → t < threads → get_or counts t 0 ≡ turn_count (take i items) t) → counts ≡ turn_counts items threads
all_counted counts items threads i same past so_far =
    fill_by_all (turn_count items) counts threads 0 same (λ t h. so_far t h ∙ ap (λ xs. turn_count xs t) (take_all i items past))

pub as_many_counts : (items : List Item) (threads : ℕ) → length (turn_counts items threads) ≡ threads
as_many_counts items threads = length-map-range_with_len (turn_count items) 0 threads
