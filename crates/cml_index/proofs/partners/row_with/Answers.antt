use Rattle.std.proofs.Common.{◌∙◌, cond, [], ◌∷◌, map, ap, sym}
use Rattle.cml_index.specs.Heads.{pair_of}
use Rattle.cml_index.proofs.partners.row_with.Goals as goal

pub returns-then-is-clause-only : goal.returns-then-is-clause-only
returns-then-is-clause-only c = ap (λ b. map (pair_of c.args.head) (cond b (c.args.other ∷ []) [])) (sym (c.is.ensures c.args.other.leaf) ∙ c.if-is.true)
