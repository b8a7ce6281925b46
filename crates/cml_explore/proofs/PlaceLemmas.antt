-- Parts that threads have taken, at the places of their numbers.
use Rattle.std.proofs.Common.{◌≡◌, ℕ, ◌<◌, List, [], ◌∷◌, ◌++◌, get_or, subst, arith}
use Rattle.std.specs.Prelude.{Option, None, Some, IfSome, slice_get}
use Rattle.std.specs.Option.{option_to_list}
use Rattle.std.specs.List.{All}
use Rattle.std.proofs.lemmas.List.Elements.{All-get_or, All-pop, All-push}
use Rattle.std.proofs.lemmas.Option.{get_or_from_slice_get, slice_get_within}
use Rattle.cml_check.specs.Syntax.{PlainItem}
use Rattle.cml_explore.specs.declared.explored.Asked.{Asked}
use Rattle.cml_explore.specs.declared.share.Part.{Part}
use Rattle.cml_explore.specs.declared.share.Round.{Round}
use Rattle.cml_explore.specs.declared.share.Taken.{Taken}
use Rattle.cml_explore.specs.Merges.{HasPart, part_asked, ArePartsPlaced, ArePartsTaken, IsPartTaken}

-- ---- nothing lies at any place

nothing_there : (places : List (Option Part)) → All (λ (o : Option Part). o ≡ None) places → (k : ℕ) (part : Part) → slice_get places k ≡ Some (Some part) → ⊥
nothing_there places none k part is =
    let at : get_or places k (Some part) ≡ Some part = get_or_from_slice_get places k (Some part) (Some part) is in
    let no : get_or places k (Some part) ≡ None = All-get_or (λ (o : Option Part). o ≡ None) places k (Some part) (slice_get_within places k (Some part) is) none in
    grind (arith, at, no)

pub none_placed : (p : List (PlainItem ℕ)) (asked : Asked) (round : Round) (places : List (Option Part)) → All (λ (o : Option Part). o ≡ None) places
    → ArePartsPlaced p asked round places
none_placed p asked round places none = λ k part is. absurd (nothing_there places none k part is)

-- ---- one part more is taken

pub taken_more : (p : List (PlainItem ℕ)) (asked : Asked) (round : Round) (count : ℕ) (taken : List Taken) (number : ℕ)
    (part : Part) → ArePartsTaken p asked round count taken → number < count
    → HasPart p (part_asked asked round number) part.stopped part.made
    → ArePartsTaken p asked round count (taken ++ record { number = number; part = part } ∷ [])
taken_more p asked round count taken number part are few is = All-push (IsPartTaken p asked round count) taken (record { number = number; part = part }) are (few, is)

-- ---- the last part that was taken is laid

pub popped : (p : List (PlainItem ℕ)) (asked : Asked) (round : Round) (count : ℕ) (old new : List Taken) (r : Option Taken) (one : Taken) → old ≡ new ++ option_to_list r → r ≡ Some one
    → ArePartsTaken p asked round count old → IsPartTaken p asked round count one × ArePartsTaken p asked round count new
popped p asked round count old new r one is some all =
    let both = All-pop (IsPartTaken p asked round count) old new r is all in
    (subst (λ (o : Option Taken). IfSome o (IsPartTaken p asked round count)) some both.1, both.0)
