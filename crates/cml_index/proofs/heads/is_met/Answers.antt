use Rattle.std.proofs.Common.{◌∙◌, ap, sym}
use Rattle.cml_scan.specs.Scan.{offers_of}
use Rattle.cml_index.specs.Waits.{met_wait}
use Rattle.cml_index.proofs.Pairs.{any_by, partner_met}
use Rattle.cml_index.proofs.Waits.{met_is}
use Rattle.cml_index.proofs.heads.is_met.Goals as goal

pub returns-in-Some-clause-value : goal.returns-in-Some-clause-value
returns-in-Some-clause-value c b is leaf =
    let os = offers_of c.args.core.now.entries.items in
    c.has_other.ensures.value ∙ sym (partner_met os c.args.tid leaf b ∙ ap (any_by os) (met_is b c.args.tid ∙ ap (λ w. met_wait w c.args.tid) is ∙ sym c.met_by.ensures ∙ c.in-Some.is))

pub returns-in-None-clause-value : goal.returns-in-None-clause-value
returns-in-None-clause-value c b is leaf =
    let os = offers_of c.args.core.now.entries.items in
    sym (partner_met os c.args.tid leaf b ∙ ap (any_by os) (met_is b c.args.tid ∙ ap (λ w. met_wait w c.args.tid) is ∙ sym c.met_by.ensures ∙ c.in-None.is))
