use Rattle.std.proofs.Common.{length, sym, ◌∙◌, drop, arith, ap}
use Rattle.std.proofs.lemmas.List.{length_push}
use Rattle.cml_scan.specs.Scan.{scan_of, partners_of}
use Rattle.cml_stepper.proofs.RowLemmas.{one_row, full_rows, no_rows}
use Rattle.cml_stepper.proofs.rows.push_partners.Goals as goal

pub returns-then-len-limit-clause-rows : goal.returns-then-len-limit-clause-rows
returns-then-len-limit-clause-rows g c =
    let own = partners_of (scan_of (g.T.Table.entries c.args.table.now) (g.T.Table.is_lit c.args.table.now)) c.args.head in
    sym (full_rows c.args.limit c.loop-j.rows.items (drop c.loop-j.j own) c.loop-j.invariant.few (omega arith)) ∙ c.loop-j.invariant.so_far

pub loop-j-preserved : goal.loop-j-preserved
loop-j-preserved g c =
    let own = partners_of (scan_of (g.T.Table.entries c.args.table.now) (g.T.Table.is_lit c.args.table.now)) c.args.head in
    record {
      few = omega (arith, ap length c.in_ok-push.ensures.items, length_push c.loop-j.rows.items c.partner.result);
      so_far = one_row c.args.limit c.loop-j.j c.loop-j.rows.items own c.push.new.self.items c.partner.result c.partner.ensures c.in_ok-push.ensures.items ∙ c.loop-j.invariant.so_far;
    }

pub returns-clause-rows : goal.returns-clause-rows
returns-clause-rows g c =
    let own = partners_of (scan_of (g.T.Table.entries c.args.table.now) (g.T.Table.is_lit c.args.table.now)) c.args.head in
    sym (no_rows c.args.limit c.loop-j.j c.loop-j.rows.items own c.loop-j.invariant.few (omega arith)) ∙ c.loop-j.invariant.so_far
