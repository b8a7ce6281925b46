-- A code of marks: a tree of numbers from which they can be read back. The toolchain asks for it; no rule uses it.
use Rattle.std.specs.Prelude.{◌≡◌, ℕ, List, [], ◌∷◌, get_or, refl}
use Rattle.std.specs.Coded.{Coded, code_by, coded×, coded_ℕ, coded_list}
use Rattle.cml_value.specs.declared.number.Tid.{Tid}
use Rattle.cml_hub.specs.declared.ready_queue.Mark.{Mark}
use Rattle.cml_hub.specs.declared.ready_queue.Mark.TheVariants as mark
use Rattle.cml_hub.specs.ReadyQueue.{PlainMarks}

abbrev pub mark_number : Mark → ℕ
mark_number mark.Ready = 0
mark_number mark.Out = 1
mark_number mark.NotRunning = 2

abbrev pub mark_by : ℕ → Mark
mark_by n = get_or (mark.Ready ∷ mark.Out ∷ mark.NotRunning ∷ []) n mark.Ready

pub mark_back : (m : Mark) → mark_by (mark_number m) ≡ m
mark_back mark.Ready = refl
mark_back mark.Out = refl
mark_back mark.NotRunning = refl

abbrev pub mark_code : Coded Mark
mark_code = code_by ℕ coded_ℕ mark_number mark_by mark_back

abbrev pub tid_code : Coded Tid
tid_code = code_by ℕ coded_ℕ (λ t. t.0) (λ n. record { 0 = n }) (λ _. refl)

abbrev pub marks_code : Coded PlainMarks
marks_code =
    code_by (List Mark × (List Tid × (ℕ × ℕ))) (coded× (coded_list mark_code) (coded× (coded_list tid_code) (coded× coded_ℕ coded_ℕ)))
    (λ m. (m.marks, (m.queue, (m.room, m.more)))) (λ p. record { marks = p.0; queue = p.1.0; room = p.1.1.0; more = p.1.1.1 }) (λ _. refl)
