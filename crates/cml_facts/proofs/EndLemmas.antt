-- The whole of what is known.
use Rattle.std.proofs.Common.{◌≡◌, ℕ, ◌-◌, List, [], length, sym, ap, subst, ◌∙◌}
use Rattle.cml_text.specs.Forms.{PlainSexpr}
use Rattle.cml_step.specs.Calls.{text_of}
use Rattle.cml_hub.specs.Courses.{PlainCourse}
use Rattle.cml_hub.specs.Deeds.{fault_count}
use Rattle.cml_phrase.specs.declared.place.Place.{Place}
use Rattle.cml_facts.specs.declared.fault.faults.Faults.{Faults}
use Rattle.cml_facts.specs.Failures.{failures, fault_limit, first_failures}
use Rattle.cml_facts.specs.ThreadFaults.{AreThreadFaults}
use Rattle.cml_facts.specs.Faulted.{known_where, FaultedSo}
use Rattle.cml_facts.proofs.FailureLemmas.{counted, no_faults}

pub none_faulted : (forms : List PlainSexpr) (places : List (List Place)) (c : PlainCourse) (n : ℕ) (faults : Faults) → n ≡ fault_count (text_of c.program) c.items → n ≡ 0 →
    faults.first.items ≡ [] → faults.others ≡ 0 → FaultedSo forms places c faults
none_faulted forms places c n faults is none empty no_others =
    let count : fault_count (text_of c.program) c.items ≡ 0 = sym is ∙ none in
    let few : length (failures (text_of c.program) c.items) ≡ 0 = sym (counted (text_of c.program) c.items) ∙ count in
    record {
      first = subst (AreThreadFaults (known_where forms places c) c.program (first_failures (text_of c.program) c.items)) (sym empty)
          (no_faults (known_where forms places c) c.program (text_of c.program) c.items count);
      others = no_others ∙ sym (ap (λ n. n - fault_limit) few);
    }

pub all_faulted : (forms : List PlainSexpr) (places : List (List Place)) (c : PlainCourse) (n : ℕ) (faults : Faults) → n ≡ fault_count (text_of c.program) c.items →
    AreThreadFaults (known_where forms places c) c.program (first_failures (text_of c.program) c.items) faults.first.items → faults.others ≡ n - fault_limit → FaultedSo forms places c faults
all_faulted forms places c n faults is are others =
    record { first = are; others = others ∙ ap (λ x. x - fault_limit) (is ∙ counted (text_of c.program) c.items) }
