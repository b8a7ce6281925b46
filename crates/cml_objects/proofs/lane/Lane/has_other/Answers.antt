use Rattle.std.proofs.Common.{◌≡◌, ◌-◌, length, get_or, arith, ap, subst, sym, ◌∙◌, not, nat_eq, nat_lt}
use Rattle.std.specs.List.{list_any}
use Rattle.cml_scan.specs.declared.meet.Place.{Place}
use Rattle.cml_objects.specs.Lanes.{PlainLane, is_of}
use Rattle.cml_scan.specs.Order.{Ascends, before}
use Rattle.cml_objects.proofs.Counts.{last_tells, last_above}
use Rattle.cml_objects.proofs.lane.Lane.has_other.Goals as goal

pub returns-else-first-tid-clause-value : goal.returns-else-first-tid-clause-value
returns-else-first-tid-clause-value c =
    let ps = c.args.self.now.places in
    let tid = c.in-Others.tid in
    let up : Ascends before ps = subst (Ascends before) (ap (λ (v : PlainLane). v.places) c.self.view_is) c.self.invariant.1 in
    let at_end : c.look-last.result ≡ get_or ps (length ps - 1) c.look-last.result = c.look-last.ensures.value ∙ ap (λ n. get_or ps (n - 1) c.look-last.result) c.len-len.ensures in
    let begins : (get_or ps 0 c.look-first.result).tid.0 ≡ tid.0 = sym (ap (λ (p : Place). p.tid.0) c.look-first.ensures.value) ∙ c.if-first-tid.false in
    ap (λ (p : Place). not (nat_eq p.tid.0 tid.0)) at_end ∙ last_tells tid ps c.look-first.result c.look-last.result up (omega arith) begins
    ∙ ap (λ w. list_any (is_of w) ps) (sym c.in-Others.is)

pub returns-in-Above-clause-value : goal.returns-in-Above-clause-value
returns-in-Above-clause-value c =
    let ps = c.args.self.now.places in
    let tid = c.in-Above.tid in
    let up : Ascends before ps = subst (Ascends before) (ap (λ (v : PlainLane). v.places) c.self.view_is) c.self.invariant.1 in
    let at_end : c.look-last.result ≡ get_or ps (length ps - 1) c.look-last.result = c.look-last.ensures.value ∙ ap (λ n. get_or ps (n - 1) c.look-last.result) c.len-len.ensures in
    ap (λ (p : Place). nat_lt tid.0 p.tid.0) at_end ∙ last_above tid ps c.look-last.result up (omega arith)
    ∙ ap (λ w. list_any (is_of w) ps) (sym c.in-Above.is)
