-- A run ends as itself.
use Rattle.std.proofs.Common.{◌≡◌, ℕ, ◌&&◌, true, List, [], ◌∷◌, refl, sym, ap, subst, ◌∙◌}
use Rattle.cml_check.specs.Syntax.{PlainItem}
use Rattle.cml_schedule.specs.declared.item.Item.{Item}
use Rattle.cml_facts.specs.declared.fault.detail.Detail.{Detail}
use Rattle.cml_facts.specs.contracts.fault.detail.DetailEq.TheImpl.Laws.{laws-law}
use Rattle.cml_facts.specs.Details.{alike}
use Rattle.cml_explore.specs.declared.shrink.replay.Asked.{Asked}
use Rattle.cml_explore.specs.ShrinkEnds.{EndsWith, EndsAlike}

alike_itself : (ds : List Detail) → alike ds ds ≡ true
alike_itself [] = refl
alike_itself (d ∷ ds) = ap (λ b. b && alike ds ds) (laws-law.refl d) ∙ alike_itself ds

pub ends_as_itself : (p : List (PlainItem ℕ)) (asked : Asked) (items : List Item) (own details : List Detail) → details ≡ own → EndsWith p asked items own → EndsAlike p asked details items
ends_as_itself p asked items own details same ended =
    (own, ended, subst (λ (ds : List Detail). alike own ds ≡ true) (sym same) (alike_itself own))
