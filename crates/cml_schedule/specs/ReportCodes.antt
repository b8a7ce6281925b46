-- Codes of reports: trees of numbers from which they can be read back. The toolchain asks for them; no rule uses them.
use Rattle.std.specs.Prelude.{ℕ, List, refl}
use Rattle.std.specs.Coded.{Coded, code_by, coded×, coded_list, coded_ℕ}
use Rattle.cml_scan.specs.declared.meet.Meet.{Meet}
use Rattle.cml_scan.specs.Codes.{meet_code}
use Rattle.cml_schedule.specs.Reports.{PlainReport}

abbrev pub report_code : Coded PlainReport
report_code =
    code_by (ℕ × (List Meet × List ℕ)) (coded× coded_ℕ (coded× (coded_list meet_code) (coded_list coded_ℕ)))
    (λ r. (r.at, (r.rows, r.waiting)))
    (λ p. record { at = p.0; rows = p.1.0; waiting = p.1.1 })
    (λ _. refl)
