use Rattle.std.proofs.Common.{◌≡◌, ◌∙◌, ◌++◌, ap, sym, subst}
use Rattle.std.specs.Prelude.{IfOk}
use Rattle.std.proofs.lemmas.List.{append-nil}
use Rattle.cml_scan.specs.Scan.{offers_of}
use Rattle.cml_index.specs.Waits.{met_wait}
use Rattle.cml_index.proofs.Pairs.{pairs_there, no_pairs}
use Rattle.cml_index.proofs.Waits.{met_is}
use Rattle.cml_index.proofs.rows.push_pairs.Goals as goal

pub returns-in-Some : goal.returns-in-Some
returns-in-Some c b is =
    let met = met_is b c.args.head.tid ∙ ap (λ w. met_wait w c.args.head.tid) is ∙ sym c.met_by.ensures ∙ c.in-Some.is in
    let same = pairs_there c.args.head b c.in-Some.slot c.in-Some.partner_threads met (offers_of c.args.core.now.entries.items) in
    subst (λ rs. IfOk c.push_slot.result (λ _. c.push_slot.new.rows.items ≡ c.args.rows.now.items ++ rs)) (sym same) c.push_slot.ensures

pub returns-in-None : goal.returns-in-None
returns-in-None c b is =
    let met = met_is b c.args.head.tid ∙ ap (λ w. met_wait w c.args.head.tid) is ∙ sym c.met_by.ensures ∙ c.in-None.is in
    let none = no_pairs c.args.head b met (offers_of c.args.core.now.entries.items) in
    sym (ap (λ rs. c.args.rows.now.items ++ rs) none ∙ append-nil c.args.rows.now.items)
