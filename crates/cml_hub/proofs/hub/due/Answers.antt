use Rattle.std.proofs.Common.{◌≡◌, true, false, length, arith}
use Rattle.std.specs.Vec.{vec_len}
use Rattle.cml_hub.proofs.Reporting.{so, not_so}
use Rattle.cml_hub.proofs.hub.due.Goals as goal

pub returns-in_default-clause-due : goal.returns-in_default-clause-due
returns-in_default-clause-due c =
    rw (c.in_default.is) (λ d. d)

pub returns-then-not-is_due-clause-due : goal.returns-then-not-is_due-clause-due
returns-then-not-is_due-clause-due c =
    let same : vec_len c.args.reports.now ≡ length c.args.reports.now.items = omega (arith, c.args.reports.now.ok.0) in
    let no_time : c.is_due.result ≡ false = cc in
    rw (c.in-Some.is) (λ d. not_so c.is_due.result c.is_due.ensures no_time (rw (c.len.ensures, c.items-items.ensures.items, same) d))

pub returns-clause-due : goal.returns-clause-due
returns-clause-due c =
    let same : vec_len c.args.reports.now ≡ length c.args.reports.now.items = omega (arith, c.args.reports.now.ok.0) in
    let now : c.is_due.result ≡ true = cc in
    let is = so c.is_due.result c.is_due.ensures now in
    rw (c.in-Some.is) (rw (c.len.ensures, c.items-items.ensures.items, same) at is, rw (c.items-items.ensures.items) at c.in_ok-report.ensures)
