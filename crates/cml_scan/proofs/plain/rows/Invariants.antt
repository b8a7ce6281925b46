use Rattle.std.proofs.Common.{◌≡◌, ◌++◌, drop, map}
use Rattle.std.specs.List.{filter, flat_map}
use Rattle.cml_scan.specs.Light.{lit_by}
use Rattle.cml_scan.specs.Scan.{single, pairs_with, rows_of}
use Rattle.cml_scan.proofs.plain.rows.Given as goal

-- what was put there, and the single rows that are left, are the single rows of all
abbrev pub invariant-loop-offer : goal.invariant-loop-offer
invariant-loop-offer g l = l.rows.items ++ map single
    (filter (λ o. lit_by (g.L.Lights.is_lit l.lights) o.base) (drop l.offer-index l.offers))
    ≡ map single (filter (λ o. lit_by (g.L.Lights.is_lit l.lights) o.base) l.offers)

-- what was put there, and the rows of the heads that are left, are all rows
abbrev pub invariant-loop-head : goal.invariant-loop-head
invariant-loop-head g l = l.rows.items ++ flat_map (pairs_with l.offers) (drop l.head-index l.offers) ≡ rows_of (lit_by (g.L.Lights.is_lit l.lights)) l.offers
