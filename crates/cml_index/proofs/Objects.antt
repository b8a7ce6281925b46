-- The objects that are kept, in one list.
use Rattle.std.proofs.Common.{◌≡◌, ℕ, Bool, true, false, ◌||◌, nat_eq, List, [], ◌∷◌, ◌++◌, map, refl, ap, sym, ◌∙◌}
use Rattle.std.specs.List.{list_any, IsDistinct, AllByRecursion}
use Rattle.std.proofs.lemmas.List.Folds.{list_any-append}
use Rattle.cml_objects.specs.Pairings.{same_object}
use Rattle.cml_objects.specs.declared.pairing.PairedKind.{PairedKind}
use Rattle.cml_objects.specs.declared.pairing.PairedKind.TheVariants.{Channel, Swap}
use Rattle.cml_objects.specs.declared.pairing.PairedId.{PairedId}
use Rattle.cml_index.specs.declared.live.Live.{Live}
use Rattle.cml_index.specs.Live.{is_in, objects}

abbrev pub channel : ℕ → PairedId
channel n = record { kind = Channel; number = n }

abbrev pub swap : ℕ → PairedId
swap n = record { kind = Swap; number = n }

-- an object is among those of its kind, and among no others

own_channels : (n : ℕ) (xs : List ℕ) → list_any (same_object (channel n)) (map channel xs) ≡ list_any (λ m. nat_eq n m) xs
own_channels n [] = refl
own_channels n (x ∷ xs) = ap (λ b. nat_eq n x || b) (own_channels n xs)

own_swaps : (n : ℕ) (xs : List ℕ) → list_any (same_object (swap n)) (map swap xs) ≡ list_any (λ m. nat_eq n m) xs
own_swaps n [] = refl
own_swaps n (x ∷ xs) = ap (λ b. nat_eq n x || b) (own_swaps n xs)

no_channels : (n : ℕ) (xs : List ℕ) → list_any (same_object (swap n)) (map channel xs) ≡ false
no_channels n [] = refl
no_channels n (x ∷ xs) = no_channels n xs

no_swaps : (n : ℕ) (xs : List ℕ) → list_any (same_object (channel n)) (map swap xs) ≡ false
no_swaps n [] = refl
no_swaps n (x ∷ xs) = no_swaps n xs

-- an object is kept where it is one of those in the list
pub in_objects : (live : Live) (n : PairedId) → is_in live n ≡ list_any (same_object n) (objects live)
in_objects live n = at n.kind n.number
  where
    or_false : (b : Bool) → b ≡ b || false
    or_false true = refl
    or_false false = refl

    both : (n : PairedId) → list_any (same_object n) (objects live) ≡ (list_any (same_object n) (map channel live.channels.items) || list_any (same_object n) (map swap live.swaps.items))
    both n = list_any-append (same_object n) (map channel live.channels.items) (map swap live.swaps.items)

    at : (k : PairedKind) (m : ℕ) → is_in live (record { kind = k; number = m }) ≡ list_any (same_object (record { kind = k; number = m })) (objects live)
    at Channel m = or_false (list_any (λ x. nat_eq m x) live.channels.items)
        ∙ sym (both (channel m) ∙ ap (λ b. b || list_any (same_object (channel m)) (map swap live.swaps.items))
        (own_channels m live.channels.items)
        ∙ ap (λ b. list_any (λ x. nat_eq m x) live.channels.items || b) (no_swaps m live.swaps.items))
    at Swap m = sym (both (swap m) ∙ ap (λ b. b || list_any (same_object (swap m)) (map swap live.swaps.items)) (no_channels m live.channels.items) ∙ own_swaps m live.swaps.items)

-- no object is twice in the list

apart_swaps : (x : ℕ) (ys : List ℕ) → AllByRecursion (λ y. nat_eq x y ≡ false) ys → AllByRecursion (λ n. same_object (swap x) n ≡ false) (map swap ys)
apart_swaps x [] h = tt
apart_swaps x (y ∷ ys) h = (h.0, apart_swaps x ys h.1)

other_swaps : (x : ℕ) (ys : List ℕ) → AllByRecursion (λ n. same_object (channel x) n ≡ false) (map swap ys)
other_swaps x [] = tt
other_swaps x (y ∷ ys) = (refl, other_swaps x ys)

apart_channels : (x : ℕ) (xs ys : List ℕ) → AllByRecursion (λ y. nat_eq x y ≡ false) xs → AllByRecursion (λ n. same_object (channel x) n ≡ false) (map channel xs ++ map swap ys)
apart_channels x [] ys h = other_swaps x ys
apart_channels x (y ∷ xs) ys h = (h.0, apart_channels x xs ys h.1)

once_swaps : (ys : List ℕ) → IsDistinct (λ n m. nat_eq n m) ys → IsDistinct same_object (map swap ys)
unfolding IsDistinct
once_swaps [] d = tt
once_swaps (y ∷ ys) d = (apart_swaps y ys d.0, once_swaps ys d.1)

pub once_objects : (xs ys : List ℕ) → IsDistinct (λ n m. nat_eq n m) xs → IsDistinct (λ n m. nat_eq n m) ys → IsDistinct same_object (map channel xs ++ map swap ys)
unfolding IsDistinct
once_objects [] ys d e = once_swaps ys e
once_objects (x ∷ xs) ys d e = (apart_channels x xs ys d.0, once_objects xs ys d.1 e)
