-- Whether items are left in queues, one queue after another.
use Rattle.std.proofs.Common.{◌≡◌, ℕ, ◌+◌, ◌<◌, ◌≤◌, Bool, true, false, ◌||◌, List, [], ◌∷◌, length, get_or, take, Some, refl, sym, ap, ◌∙◌, arith}
use Rattle.std.specs.Prelude.{slice_get, option_map}
use Rattle.std.specs.List.{list_any}
use Rattle.std.proofs.lemmas.Bool.{lt-ltb}
use Rattle.std.proofs.lemmas.List.{take_all}
use Rattle.std.proofs.lemmas.List.Folds.{list_any_more, list_any_at}
use Rattle.std.proofs.lemmas.Option.{slice_get-get_or}
use Rattle.cml_value.specs.Value.{PlainValue}
use Rattle.cml_judge.specs.Finishes.{has_an_item, are_some}

has_so_many : (queue : List PlainValue) → has_an_item queue ≡ are_some (Some (length queue))
has_so_many [] = refl
has_so_many (v ∷ vs) = sym (lt-ltb 0 (length (v ∷ vs)) (omega arith))

has_at : (queues : List (List PlainValue)) (i : ℕ) → i < length queues → has_an_item (get_or queues i []) ≡ are_some (option_map length (slice_get queues i))
has_at queues i h = has_so_many (get_or queues i []) ∙ sym (ap (λ o. are_some (option_map length o)) (slice_get-get_or queues i [] h))

-- one queue more
pub filled_here : (queues : List (List PlainValue)) (i : ℕ) (has : Bool) → i < length queues → has ≡ are_some (option_map length (slice_get queues i)) → has ≡ true →
    true ≡ list_any has_an_item queues
filled_here queues i has h is so = sym (list_any_at has_an_item queues i [] h (has_at queues i h ∙ sym is ∙ so))

pub none_filled : (queues : List (List PlainValue)) (i : ℕ) (has : Bool) → i < length queues → has ≡ are_some (option_map length (slice_get queues i)) → has ≡ false →
    list_any has_an_item (take i queues) ≡ false → list_any has_an_item (take (i + 1) queues) ≡ false
none_filled queues i has h is not_so so_far =
    list_any_more has_an_item queues i [] h
    ∙ (ap (λ b. b || has_an_item (get_or queues i [])) so_far ∙ (has_at queues i h ∙ sym is ∙ not_so))

-- all queues
pub none_at_all : (queues : List (List PlainValue)) (i : ℕ) → length queues ≤ i → list_any has_an_item (take i queues) ≡ false → false ≡ list_any has_an_item queues
none_at_all queues i h so_far = sym so_far ∙ ap (list_any has_an_item) (take_all i queues h)
