use Rattle.std.proofs.Common.{◌≡◌, ◌-◌, ◌++◌, length, take, sym, ◌∙◌, drop, arith, ap}
use Rattle.std.proofs.lemmas.List.{length-take}
use Rattle.std.specs.List.{flat_map}
use Rattle.cml_scan.specs.Scan.{scan_of, heads_of, partners_of}
use Rattle.cml_stepper.proofs.RowLemmas.{scan_by_heads, one_head, no_heads, full_rows}
use Rattle.cml_stepper.proofs.rows.rows_from.Goals as goal

pub loop-k-init : goal.loop-k-init
loop-k-init g c =
    let entries = g.T.Table.entries c.args.table.now in
    let told = g.T.Table.is_lit c.args.table.now in
    let all = scan_of entries told in
    record {
      few = omega (arith, ap length c.new-rows.ensures.items);
      so_far = ap (λ rows. take c.args.limit (rows ++ drop c.args.from (flat_map (partners_of all) (heads_of all)))) c.new-rows.ensures.items
          ∙ ap (λ rows. take c.args.limit (drop c.args.from rows)) (scan_by_heads entries told c.requires);
    }

pub returns-then-len-limit : goal.returns-then-len-limit
returns-then-len-limit g c =
    let all = scan_of (g.T.Table.entries c.args.table.now) (g.T.Table.is_lit c.args.table.now) in
    sym (full_rows c.args.limit c.loop-k.rows.items (drop c.loop-k.left (flat_map (partners_of all) (drop c.loop-k.k (heads_of all)))) c.loop-k.invariant.few (omega arith)) ∙ c.loop-k.invariant.so_far

pub loop-k-preserved : goal.loop-k-preserved
loop-k-preserved g c =
    let all = scan_of (g.T.Table.entries c.args.table.now) (g.T.Table.is_lit c.args.table.now) in
    let less : c.saturating_sub-left.result ≡ c.loop-k.left - length (partners_of all c.head-head.result) = omega (arith, c.in_ok-count.ensures.count) in
    record {
      few = omega (arith, ap length c.in_ok-count.ensures.rows, length-take c.args.limit (c.loop-k.rows.items ++ drop c.loop-k.left (partners_of all c.head-head.result)));
      so_far = one_head c.args.limit c.loop-k.left c.loop-k.k all c.loop-k.rows.items c.push_partners.new.rows.items
          c.head-head.result c.saturating_sub-left.result c.head-head.ensures c.in_ok-count.ensures.rows less
          ∙ c.loop-k.invariant.so_far;
    }

pub returns : goal.returns
returns g c =
    let all = scan_of (g.T.Table.entries c.args.table.now) (g.T.Table.is_lit c.args.table.now) in
    sym (no_heads c.args.limit c.loop-k.left c.loop-k.k all c.loop-k.rows.items c.loop-k.invariant.few (omega arith)) ∙ c.loop-k.invariant.so_far
