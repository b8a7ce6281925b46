use Rattle.std.proofs.Common.{◌≡◌, ◌∙◌, [], ◌∷◌, map, ap, sym, subst}
use Rattle.std.specs.Prelude.{IfSome}
use Rattle.std.specs.Option.{option_copied}
use Rattle.cml_objects.specs.Lanes.{those}
use Rattle.cml_index.specs.Heads.{pair_of}
use Rattle.cml_index.specs.Stands as stands
use Rattle.cml_index.proofs.partners.row_at_slot.Goals as goal

pub returns-in-Some-clause-only : goal.returns-in-Some-clause-only
returns-in-Some-clause-only c =
    let is = sym (ap (λ o. stands.of_lane (option_copied o)) c.in-Some.is) ∙ c.lane.ensures ∙ c.requires.placed c.args.slot in
    subst (λ ps. IfSome c.row_in.result (λ row. map (pair_of c.args.head) (those c.args.partner_threads ps) ≡ row ∷ [])) is c.row_in.ensures.only
