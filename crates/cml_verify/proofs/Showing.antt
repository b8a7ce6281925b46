-- What a book shows of a thread and of a queue.
use Rattle.std.proofs.Common.{◌≡◌, ℕ, ◌<◌, true, false, List, [], length, Option, None, Some, slice_get, refl, ap, sym, ◌∙◌, true≢false}
use Rattle.std.specs.Prelude.{option_map, unwrap_or}
use Rattle.std.specs.Option.{option_map_or}
use Rattle.cml_value.specs.Value.{PlainValue}
use Rattle.cml_scan.specs.World.{PlainThread, running, pending_on, ended}
use Rattle.cml_book.specs.Walks.{runs}
use Rattle.cml_book.specs.Holding.{item_in}
use Rattle.cml_verify.specs.Places.{there}

pub runs_is : (o : Option PlainThread) → option_map_or runs o false ≡ true → o ≡ Some running
runs_is None h = absurd (true≢false (sym h))
runs_is (Some running) h = refl
runs_is (Some (pending_on g)) h = absurd (true≢false (sym h))
runs_is (Some ended) h = absurd (true≢false (sym h))

-- the items of a queue, and how many there are; one that is not there has none
pub counted : (o : Option (List PlainValue)) → unwrap_or (option_map length o) 0 ≡ length (unwrap_or o [])
counted None = refl
counted (Some vs) = refl

pub queue_there : (queues : List (List PlainValue)) (k : ℕ) (items : List PlainValue) → k < length queues → items ≡ unwrap_or (slice_get queues k) [] → slice_get queues k ≡ Some items
queue_there queues k items lt e = let t = there queues k lt in t.1 ∙ ap (λ vs. Some vs) (sym (e ∙ ap (λ o. unwrap_or o []) t.1))

-- an item that is shown, and one that is not
item_of : (n : ℕ) (o : Option (List PlainValue)) → item_in n o ≡ slice_get (unwrap_or o []) n
item_of n None = refl
item_of n (Some vs) = refl

pub item_shown : (n : ℕ) (o : Option (List PlainValue)) (v : PlainValue) → Some v ≡ item_in n o → slice_get (unwrap_or o []) n ≡ Some v
item_shown n o v h = sym (h ∙ item_of n o)

pub item_hidden : (n : ℕ) (o : Option (List PlainValue)) → n < length (unwrap_or o []) → None ≡ item_in n o → ⊥
item_hidden n o lt h = let t = there (unwrap_or o []) n lt in let f : None ≡ Some t.0 = h ∙ item_of n o ∙ t.1 in cc
