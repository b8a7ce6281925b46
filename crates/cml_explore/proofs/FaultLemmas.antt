-- What is told of schedules by whose last items threads end at faults, one more.
use Rattle.std.proofs.Common.{◌≡◌, ℕ, ◌+◌, ◌<◌, List, [], ◌∷◌, ◌++◌, map, take, length, get_or, sym, ap, subst, ◌∙◌}
use Rattle.std.proofs.lemmas.List.{map_push, take_more}
use Rattle.cml_check.specs.Syntax.{PlainItem}
use Rattle.cml_phrase.specs.declared.place.Place.{Place}
use Rattle.cml_schedule.specs.declared.item.Item.{Item}
use Rattle.cml_explore.specs.declared.fault_told.FaultTold.{FaultTold}
use Rattle.cml_explore.specs.FaultsTold.{AreFaultsTold, IsFaultTold}

fault_push : (places : List (List Place)) (p : List (PlainItem ℕ)) (ss : List (List Item)) (ts : List FaultTold) (s : List Item) (t : FaultTold)
    → AreFaultsTold places p ss ts → IsFaultTold places p s t → AreFaultsTold places p (ss ++ s ∷ []) (ts ++ t ∷ [])
fault_push places p [] [] s t each is = (is, tt)
fault_push places p [] (x ∷ ts) s t each is = absurd each
fault_push places p (x ∷ ss) [] s t each is = absurd each
fault_push places p (x ∷ ss) (y ∷ ts) s t each is = (each.0, fault_push places p ss ts s t each.1 is)

pub fault_next : {X : Type 0} (f : X → List Item) (places : List (List Place)) (p : List (PlainItem ℕ)) (xs : List X) (i : ℕ) (d : X) (items : List Item) (old new : List FaultTold) (t : FaultTold)
    → i < length xs → items ≡ f (get_or xs i d) → new ≡ old ++ t ∷ [] → IsFaultTold places p items t → AreFaultsTold places p (map f (take i xs)) old
    → AreFaultsTold places p (map f (take (i + 1) xs)) new
fault_next f places p xs i d items old new t within is more told was =
    let split : map f (take (i + 1) xs) ≡ map f (take i xs) ++ items ∷ [] =
    ap (map f) (take_more xs i d within) ∙ (map_push f (take i xs) (get_or xs i d) ∙ ap (λ s. map f (take i xs) ++ s ∷ []) (sym is)) in
    subst (λ (l : List (List Item)). AreFaultsTold places p l new) (sym split)
    (subst (AreFaultsTold places p (map f (take i xs) ++ items ∷ [])) (sym more) (fault_push places p (map f (take i xs)) old items t was told))
