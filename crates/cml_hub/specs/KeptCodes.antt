-- A code of hubs: a tree of numbers from which they can be read back. The toolchain asks for it; no rule uses it.
use Rattle.std.specs.Prelude.{ℕ, Bool, List, Option, refl}
use Rattle.std.specs.Coded.{Coded, code_by, coded×, coded_list, coded_option, coded_bool, coded_ℕ}
use Rattle.cml_schedule.specs.Reports.{PlainReport}
use Rattle.cml_schedule.specs.ReportCodes.{report_code}
use Rattle.cml_hub.specs.Courses.{PlainCourse}
use Rattle.cml_hub.specs.CourseCodes.{course_code}
use Rattle.cml_value.specs.declared.number.Tid.{Tid}
use Rattle.cml_hub.specs.MarkCodes.{tid_code}
use Rattle.cml_hub.specs.Kept.{Kept}

abbrev pub kept_code : Coded Kept
kept_code =
    code_by (PlainCourse × (ℕ × (Option ℕ × (List Bool × (List Tid × List PlainReport)))))
    (coded× course_code (coded× coded_ℕ (coded× (coded_option coded_ℕ) (coded× (coded_list coded_bool) (coded× (coded_list tid_code) (coded_list report_code))))))
    (λ h. (h.course, (h.budget, (h.watch, (h.out, (h.queue, h.reports))))))
    (λ t. record { course = t.0; budget = t.1.0; watch = t.1.1.0; out = t.1.1.1.0; queue = t.1.1.1.1.0; reports = t.1.1.1.1.1 })
    (λ _. refl)
