-- A code of what a thread gets: a tree of numbers from which it can be read back. The toolchain asks for one; no rule uses it.
use Rattle.std.specs.Prelude.{ℕ, List, refl}
use Rattle.std.specs.Coded.{Coded, code_by, coded×, coded_list, coded_ℕ}
use Rattle.cml_value.specs.Value.{PlainValue, PlainFunction}
use Rattle.cml_value.specs.Codes.{value_code, function_code}
use Rattle.cml_book.specs.Resumes.{PlainResume}

abbrev pub resume_code : Coded PlainResume
resume_code =
    code_by
    (ℕ × (PlainValue × (List PlainFunction × List ℕ)))
    (coded× coded_ℕ (coded× value_code (coded× (coded_list function_code) (coded_list coded_ℕ))))
    (λ r. (r.thread, (r.value, (r.wraps, r.fired))))
    (λ p. record { thread = p.0; value = p.1.0; wraps = p.1.1.0; fired = p.1.1.1 })
    (λ _. refl)
