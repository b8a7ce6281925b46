-- A code of each group, leaf and scope: a tree of numbers from which it can be read back. The toolchain asks for one; no rule
-- uses it.
use Rattle.std.specs.Prelude.{◌≡◌, List, refl}
use Rattle.std.specs.Coded.{Coded, code_by, coded×, coded_list}
use base.Stored.{Gv, gnil, gnum, gcons}
use Rattle.cml_value.specs.Value.{PlainBase, PlainFunction}
use Rattle.cml_value.specs.Codes.{base_code, function_code}
use Rattle.cml_value.specs.Group.{PlainGroup, never, leaf, choose, wrap, scope, PlainGroups, no_groups, groups_and, PlainLeaf}

abbrev mutual
  pub group_gv : PlainGroup → Gv
  group_gv never = gcons (gnum 0) gnil
  group_gv (leaf b) = gcons (gnum 1) (base_code.code b)
  group_gv (choose gs) = gcons (gnum 2) (groups_gv gs)
  group_gv (wrap g f) = gcons (gnum 3) (gcons (group_gv g) (function_code.code f))
  group_gv (scope k g) = gcons (gnum 4) (gcons (gnum k) (group_gv g))

  pub groups_gv : PlainGroups → Gv
  groups_gv no_groups = gnil
  groups_gv (groups_and g gs) = gcons (group_gv g) (groups_gv gs)

mutual
  pub group_gv_inj : (x y : PlainGroup) → group_gv x ≡ group_gv y → x ≡ y
  group_gv_inj never never p = refl
  group_gv_inj (leaf a) (leaf b) p = let e = base_code.inj a b (cc) in cc
  group_gv_inj (choose gs) (choose hs) p = let e = groups_gv_inj gs hs (cc) in cc
  group_gv_inj (wrap g f) (wrap h k) p = let e = group_gv_inj g h (cc) in let e2 = function_code.inj f k (cc) in cc
  group_gv_inj (scope k g) (scope l h) p = let e = group_gv_inj g h (cc) in cc
  group_gv_inj _ _ p = cc

  pub groups_gv_inj : (x y : PlainGroups) → groups_gv x ≡ groups_gv y → x ≡ y
  groups_gv_inj no_groups no_groups p = refl
  groups_gv_inj (groups_and g gs) (groups_and h hs) p = let e = group_gv_inj g h (cc) in let e2 = groups_gv_inj gs hs (cc) in cc
  groups_gv_inj _ _ p = cc

abbrev pub group_code : Coded PlainGroup
group_code = record { code = group_gv; inj = group_gv_inj }

abbrev pub leaf_code : Coded PlainLeaf
leaf_code =
    code_by (PlainBase × List PlainFunction) (coded× base_code (coded_list function_code)) (λ l. (l.base, l.wraps)) (λ p. record { base = p.0; wraps = p.1 }) (λ _. refl)
