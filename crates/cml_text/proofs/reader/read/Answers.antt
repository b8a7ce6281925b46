use Rattle.std.proofs.Common.{◌≡◌, rules, sym, ap, ◌∙◌, Some, arith}
use Rattle.cml_text.specs.declared.fault.FaultKind.TheVariants.{Long, Utf8}
use Rattle.cml_text.proofs.AnswerLemmas.{fault_long, fault_utf8, found_from, fault_from, only_from, only_fault_from}
use Rattle.cml_text.proofs.reader.read.Goals as goal

pub returns-then-text-gt-TEXT_LIMIT-clause-fault : goal.returns-then-text-gt-TEXT_LIMIT-clause-fault
returns-then-text-gt-TEXT_LIMIT-clause-fault c = fault_long c.args.text.now (omega arith)

pub returns-then-text-gt-TEXT_LIMIT-clause-only_fault : goal.returns-then-text-gt-TEXT_LIMIT-clause-only_fault
returns-then-text-gt-TEXT_LIMIT-clause-only_fault c other is =
    let same : Some other ≡ Some (record { kind = Long; at = 1048576 }) = sym is ∙ fault_long c.args.text.now (omega arith) in cc

pub returns-in-Ok-clause-found : goal.returns-in-Ok-clause-found
returns-in-Ok-clause-found c = found_from c.args.text.now c.in-Ok.text.now c.forms_of.result (search rules) (omega arith) (search rules) c.forms_of.ensures.words c.forms_of.ensures.ok

pub returns-in-Ok-clause-fault : goal.returns-in-Ok-clause-fault
returns-in-Ok-clause-fault c = fault_from c.args.text.now c.in-Ok.text.now c.forms_of.result (search rules) (omega arith) (search rules) c.forms_of.ensures.err

pub returns-in-Ok-clause-only : goal.returns-in-Ok-clause-only
returns-in-Ok-clause-only c =
    only_from c.args.text.now c.forms_of.result
    (found_from c.args.text.now c.in-Ok.text.now c.forms_of.result (search rules) (omega arith) (search rules) c.forms_of.ensures.words c.forms_of.ensures.ok)
    (fault_from c.args.text.now c.in-Ok.text.now c.forms_of.result (search rules) (omega arith) (search rules) c.forms_of.ensures.err)

pub returns-in-Ok-clause-only_fault : goal.returns-in-Ok-clause-only_fault
returns-in-Ok-clause-only_fault c =
    only_fault_from c.args.text.now c.forms_of.result
    (found_from c.args.text.now c.in-Ok.text.now c.forms_of.result (search rules) (omega arith) (search rules) c.forms_of.ensures.words c.forms_of.ensures.ok)
    (fault_from c.args.text.now c.in-Ok.text.now c.forms_of.result (search rules) (omega arith) (search rules) c.forms_of.ensures.err)

pub returns-in-Err-clause-fault : goal.returns-in-Err-clause-fault
returns-in-Err-clause-fault c =
    fault_utf8 c.args.text.now (omega arith) c.in-Err.ensures.cases.0 ∙ ap (λ n. Some (record { kind = Utf8; at = n })) (sym (c.valid_up_to.ensures ∙ c.in-Err.ensures.valid_len))

pub returns-in-Err-clause-only_fault : goal.returns-in-Err-clause-only_fault
returns-in-Err-clause-only_fault c other is =
    let same : Some other ≡ Some (record { kind = Utf8; at = c.valid_up_to.result }) =
    sym is ∙ fault_utf8 c.args.text.now (omega arith) c.in-Err.ensures.cases.0 ∙ ap (λ n. Some (record { kind = Utf8; at = n })) (sym (c.valid_up_to.ensures ∙ c.in-Err.ensures.valid_len)) in
    cc
