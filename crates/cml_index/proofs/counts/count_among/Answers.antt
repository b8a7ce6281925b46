use Rattle.std.proofs.Common.{◌≡◌, ◌<◌, length, Some, None, ap, sym, subst, ◌∙◌, arith}
use Rattle.cml_scan.specs.declared.meet.Place.{Place}
use Rattle.std.specs.List.{list_any}
use Rattle.cml_objects.specs.declared.lane.PartnerThreads.TheVariants.{Others}
use Rattle.cml_objects.specs.Lanes.{is_others}
use Rattle.cml_index.specs.Heads.{is_beside}
use Rattle.cml_index.proofs.Beside.{among_is, all_stay, none_among, power_above}
use Rattle.cml_index.proofs.counts.count_among.Goals as goal

pub returns-then-len-eq0-clause-count : goal.returns-then-len-eq0-clause-count
returns-then-len-eq0-clause-count c = sym (none_among Others c.args.others.now.places c.args.heads.now.places (sym c.len.ensures ∙ c.if-len-eq0.true))

pub returns-in-Some-clause-count : goal.returns-in-Some-clause-count
returns-in-Some-clause-count c =
    let same = subst (λ o. (q : Place) → list_any (is_others q.tid) c.args.others.now.places ≡ is_beside o q) c.in-Some.is c.only_thread.ensures.value in
    c.others_count.ensures.count ∙ sym (ap length (among_is c.args.others.now.places c.args.heads.now.places (Some c.in-Some.tid) same))

pub returns-in-Some-clause-cost : goal.returns-in-Some-clause-cost
returns-in-Some-clause-cost c =
    let some : 0 < length c.args.others.now.places = omega (arith, c.len.ensures, c.if-len-eq0.false) in
    let looks = c.others_count.ensures.cost (length c.args.heads.now.places) (power_above (length c.args.heads.now.places)) in
    omega (arith, some, looks, c.only_thread.ensures.cost)

pub returns-in-None-clause-count : goal.returns-in-None-clause-count
returns-in-None-clause-count c =
    let same = subst (λ o. (q : Place) → list_any (is_others q.tid) c.args.others.now.places ≡ is_beside o q) c.in-None.is c.only_thread.ensures.value in
    c.len-in-None.ensures ∙ sym (ap length (among_is c.args.others.now.places c.args.heads.now.places None same ∙ all_stay c.args.heads.now.places))
