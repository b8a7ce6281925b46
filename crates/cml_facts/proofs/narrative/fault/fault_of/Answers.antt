use Rattle.std.proofs.Common.{◌≡◌, ◌++◌, List, ℕ, codes, IfOk, ap, subst, sym, ◌∙◌}
use Rattle.std.specs.Fmt.{decimal}
use Rattle.cml_facts.proofs.NameLemmas.{fault_line}
use Rattle.cml_facts.proofs.narrative.fault.fault_of.Goals as goal

pub returns : goal.returns
returns c before name len is =
    let start : List ℕ = codes "thread " ++ (decimal c.args.thread.0 ++ codes " fault ") in
    let said = c.out.ensures ∙ is ∙ ap (λ l. before ++ l) (fault_line c.args.thread.0 name) in
    let same = c.fault_name.ensures before start name len (sym c.in_ok-start.ensures) (c.as_bytes.ensures.value ∙ said) in
    subst (λ (n : List ℕ). IfOk c.from_slice.result (λ found. found.items ≡ n)) same c.from_slice.ensures.items
