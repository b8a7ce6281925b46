-- Codes of items and plans: trees of numbers from which they can be read back. The toolchain asks for them; no rule uses them.
use Rattle.std.specs.Prelude.{◌≡◌, ℕ, List, Option, refl}
use Rattle.std.specs.Coded.{Coded, code_by, coded×, coded_list, coded_option, coded_ℕ}
use Rattle.std.proofs.Common.{ap}
use base.Stored.{Gv, gnum, gcons}
use Rattle.cml_scan.specs.Codes.{meet_gv, meet_gv_inj}
use Rattle.cml_check.specs.declared.size.Size.{Size}
use Rattle.cml_schedule.specs.declared.item.Item.{Item}
use Rattle.cml_schedule.specs.declared.item.Item.TheVariants as item
use Rattle.cml_schedule.specs.Plans.{PlainPlan}

abbrev pub item_gv : Item → Gv
item_gv (item.Turn t) = gcons (gnum 0) (gnum t.0)
item_gv (item.Meet row) = gcons (gnum 1) (meet_gv row)
item_gv (item.Exchange row) = gcons (gnum 2) (meet_gv row)
item_gv (item.Clock k) = gcons (gnum 3) (gnum k)

pub item_gv_inj : (x y : Item) → item_gv x ≡ item_gv y → x ≡ y
item_gv_inj (item.Turn t) (item.Turn u) p = let e : t.0 ≡ u.0 = cc in ap (λ k. item.Turn (record { 0 = k })) e
item_gv_inj (item.Meet r) (item.Meet s) p = let e = meet_gv_inj r s (cc) in ap (λ k. item.Meet k) e
item_gv_inj (item.Exchange r) (item.Exchange s) p = let e = meet_gv_inj r s (cc) in ap (λ k. item.Exchange k) e
item_gv_inj (item.Clock k) (item.Clock l) p = cc
item_gv_inj _ _ p = cc

abbrev pub item_code : Coded Item
item_code = record { code = item_gv; inj = item_gv_inj }

abbrev pub size_code : Coded Size
size_code = code_by (ℕ × ℕ) (coded× coded_ℕ coded_ℕ) (λ s. (s.functions, s.statements)) (λ p. record { functions = p.0; statements = p.1 }) (λ _. refl)

abbrev pub plan_code : Coded PlainPlan
plan_code =
    code_by (ℕ × (Option Size × List Item)) (coded× coded_ℕ (coded× (coded_option size_code) (coded_list item_code)))
    (λ p. (p.budget, (p.size, p.items)))
    (λ p. record { budget = p.0; size = p.1.0; items = p.1.1 })
    (λ _. refl)
