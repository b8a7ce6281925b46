use Rattle.std.proofs.Common.{◌≡◌, ◌-◌, get_or, length, ap, sym, ◌∙◌}
use Rattle.cml_scan.specs.declared.meet.Place.{Place}
use Rattle.cml_objects.specs.Lanes.{is_others}
use Rattle.cml_index.proofs.Beside.{alone, several}
use Rattle.cml_index.proofs.counts.only_thread.Goals as goal

pub returns-then-first-last-clause-value : goal.returns-then-first-last-clause-value
returns-then-first-last-clause-value c q =
    let ps = c.args.lane.now.places in
    let first = c.look-first.ensures.value in
    let last : c.look-last.result ≡ get_or ps (length ps - 1) c.look-last.result = c.look-last.ensures.value ∙ ap (λ n. get_or ps (n - 1) c.look-last.result) c.len-len.ensures in
    alone ps c.look-first.result c.look-last.result c.requires.sorted c.requires.some (ap (λ (p : Place). p.tid.0) (sym first) ∙ c.if-first-last.true ∙ ap (λ (p : Place). p.tid.0) last) q
    ∙ ap (λ (p : Place). is_others p.tid q) (sym first)

pub returns-else-first-last-clause-value : goal.returns-else-first-last-clause-value
returns-else-first-last-clause-value c q =
    let ps = c.args.lane.now.places in
    let first = c.look-first.ensures.value in
    let last : c.look-last.result ≡ get_or ps (length ps - 1) c.look-last.result = c.look-last.ensures.value ∙ ap (λ n. get_or ps (n - 1) c.look-last.result) c.len-len.ensures in
    several ps c.look-first.result c.look-last.result c.requires.sorted c.requires.some
    (λ same. c.if-first-last.false (ap (λ (p : Place). p.tid.0) first ∙ same
    ∙ ap (λ (p : Place). p.tid.0) (sym last))) q
