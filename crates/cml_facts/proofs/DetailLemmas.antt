-- The details of threads.
use Rattle.std.proofs.Common.{ℕ, Option, refl}
use Rattle.cml_hub.specs.Courses.{PlainCourse}
use Rattle.cml_facts.proofs.ThreadLemmas.{IsMade}
use Rattle.cml_facts.specs.Falls.{PlainFall}
use Rattle.cml_facts.specs.Details.{thread_details, threads_details, fall_details, fallen_details}

pub details_made : (c : PlainCourse) (falls : ℕ → Option PlainFall) → IsMade (thread_details c falls) (threads_details c falls)
details_made c falls = record { none = λ i. refl; more = λ i t threads. refl }

-- those of the threads that ended at faults
pub fallen_made : (c : PlainCourse) (falls : ℕ → Option PlainFall) → IsMade (λ i t. fall_details c i (falls i)) (fallen_details c falls)
fallen_made c falls = record { none = λ i. refl; more = λ i t threads. refl }
