use Rattle.std.proofs.Common.{◌≡◌, ◌∙◌, ap, sym, subst}
use Rattle.cml_work.specs.Marks.{BeginsWith, shown_of}
use Rattle.cml_work.proofs.shared.Shared.into_parts_with.Goals as goal

-- the hub comes back whose reports the mark was compared with
pub returns-clause-shown : goal.returns-clause-shown
returns-clause-shown g c =
    let same = c.into_parts.ensures.hub ∙ ap (λ l. l.hub) c.tell-all.ensures.held in
    subst (λ h. BeginsWith h.reports (shown_of c.args.mark)) (sym same) c.tell-all.ensures.shown
