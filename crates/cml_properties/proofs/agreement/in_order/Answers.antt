use Rattle.std.proofs.Common.{◌≡◌, ℕ, List, subst}
use Rattle.std.specs.List.Sorted.{IsPermutation}
use Rattle.std.proofs.lemmas.List.Sorted.{IsPermutation-map}
use denote.Ref.{Bor}
use Rattle.cml_properties.specs.Agreements.{texts}
use Rattle.cml_properties.proofs.SortLemmas.{texts_sorted}
use Rattle.cml_properties.proofs.agreement.in_order.Goals as goal

pub returns-clause-lines : goal.returns-clause-lines
returns-clause-lines c =
    let same : c.in_ok-found.found.items ≡ c.args.lines.now = c.in_ok-found.ensures.items_if_clones_equal (λ x y h. h) in
    subst (λ (xs : List (Bor (List ℕ))). IsPermutation (texts xs) (texts c.sort_unstable.new.self.items)) same
    (IsPermutation-map (λ l. l.now) _ _ c.sort_unstable.ensures.permutation)

pub returns-clause-order : goal.returns-clause-order
returns-clause-order c = texts_sorted c.sort_unstable.new.self.items c.sort_unstable.ensures.sorted
