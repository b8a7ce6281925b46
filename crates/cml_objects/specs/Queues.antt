-- Queues of values: Reppy's mailboxes, and the ports of his multicast channels. A recvEvt is enabled where there is an item, and
-- takes the first. That a queue holds at most 65,536 items is a rule of our own.
use Rattle.std.specs.Prelude.{ℕ, ◌∷◌, ◌++◌, [], List, length, nat_lt, not, if◌then◌else◌, Bool, true, false, Result, Ok, Err, slice_get, slice_set}
use Rattle.std.specs.Option.{option_map_or}
use Rattle.cml_value.specs.Value.{PlainValue, unit}
use Rattle.cml_objects.specs.Feeds.{PlainRefusal, full}

-- the most items that a queue holds
abbrev pub max_items : ℕ
max_items = 65536

-- a queue has an item
abbrev pub is_filled : List PlainValue → Bool
is_filled [] = false
is_filled (v ∷ vs) = true

-- a queue takes no more items
abbrev pub is_at_limit : List PlainValue → Bool
is_at_limit items = not (nat_lt (length items) max_items)

-- the first item; unit for an empty queue, which gives nobody anything
abbrev pub first_item : List PlainValue → PlainValue
first_item [] = unit
first_item (v ∷ vs) = v

-- a send puts its value after the items, and is refused by a full queue
abbrev pub queued : List PlainValue → PlainValue → Result (List PlainValue) PlainRefusal
queued items v = if is_at_limit items then Err full else Ok (items ++ v ∷ [])

-- the queue of this number is there, and takes no more items
abbrev pub is_full_at : List (List PlainValue) → ℕ → Bool
is_full_at queues id = option_map_or is_at_limit (slice_get queues id) false

-- the queue of this number has the value after its items
abbrev pub added_at : List (List PlainValue) → ℕ → PlainValue → List (List PlainValue)
added_at queues id v = option_map_or (λ items. slice_set queues id (items ++ v ∷ [])) (slice_get queues id) queues
