use Rattle.std.proofs.Common.{◌≡◌, ◌∙◌, ap, false, length, sym}
use Rattle.cml_host.specs.Outcomes.{is_as_short, kept_by}
use Rattle.cml_host.proofs.FoundLemmas.{kept_is, newly_noted}
use Rattle.cml_host.proofs.outcomes.note.Goals as goal

pub returns : goal.returns
returns c =
    let n = length c.args.items.now in
    let long : is_as_short (kept_by c.args.found.now c.args.text.items) n ≡ false =
    ap (λ kept. is_as_short kept n) (sym (kept_is c.get.result _ c.get.ensures.value)) ∙ (sym c.is_as_short.ensures ∙ c.if-is_as_short.false) in
    newly_noted c.args.found.now c.insert.new.self c.args.text c.in_ok-schedule.schedule c.args.items.now c.in_ok-schedule.ensures.items long c.in_ok-insert.ensures.updates.1
    c.in_ok-insert.ensures.entries
