use Rattle.std.proofs.Common.{◌≡◌, ◌∙◌, ◌≤◌, ◌<◌, [], ◌∷◌, map, length, ap, sym, subst, arith}
use Rattle.std.specs.Prelude.{IfSome}
use Rattle.cml_objects.specs.Lanes.{those}
use Rattle.cml_index.specs.Heads.{pair_of}
use Rattle.cml_index.proofs.Alone.{one_only}
use Rattle.cml_index.proofs.partners.row_in.Goals as goal

pub returns-then-len-eq1-clause-only : goal.returns-then-len-eq1-clause-only
returns-then-len-eq1-clause-only c =
    let ps = c.args.lane.now.places in
    let other = c.look-other.result in
    let some : 1 ≤ length ps = omega (arith, c.len.ensures, c.if-len-eq1.true) in
    let few : length ps < 2 = omega (arith, c.len.ensures, c.if-len-eq1.true) in
    let is : ps ≡ other ∷ [] = one_only ps other some few ∙ ap (λ q. q ∷ []) (sym c.look-other.ensures.value) in
    subst (λ qs. IfSome c.row_with.result (λ row. map (pair_of c.args.head) (those c.args.partner_threads qs) ≡ row ∷ [])) (sym is) c.row_with.ensures.only
