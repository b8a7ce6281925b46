-- Two hubs with one schedule show the same.
use Rattle.std.proofs.Common.{◌≡◌, ℕ, zero, suc, ◌+◌, ◌*◌, ◌<◌, ◌≤◌, List, [], ◌∷◌, length, refl, arith, Some, None, sym, ap, ◌∙◌, subst, inl, inr}
use Rattle.std.specs.Prelude.{slice_get, Option, ◌⊎◌}
use Rattle.std.proofs.Math.Nat.{mul-le-mul_left}
use Rattle.cml_schedule.specs.Reports.{PlainReport}
use Rattle.cml_schedule.specs.declared.item.Item.{Item}
use Rattle.cml_step.specs.Terms.{Program}
use Rattle.cml_step.specs.Calls.{text_of}
use Rattle.cml_hub.specs.Runs.{Run, stands, ending}
use Rattle.cml_hub.specs.Courses.{run_of}
use Rattle.cml_hub.specs.Reports.{AreReports, IsDue}
use Rattle.cml_hub.specs.Kept.{Kept}
use Rattle.cml_hub.specs.Laws.{IsShown, HaveOneSchedule, OneScheduleOneRun}

-- two lists of one length that have the same at each place are the same
same_list : {X : Type 0} (xs ys : List X) → length xs ≡ length ys → ((i : ℕ) → i < length xs → slice_get xs i ≡ slice_get ys i) → xs ≡ ys
same_list [] [] n h = refl
same_list [] (y ∷ ys) n h = absurd (omega arith)
same_list (x ∷ xs) [] n h = absurd (omega arith)
same_list (x ∷ xs) (y ∷ ys) n h =
    let first : slice_get (x ∷ xs) 0 ≡ slice_get (y ∷ ys) 0 = h 0 (omega arith) in
    let e : x ≡ y = cc in
    let m : length xs ≡ length ys = omega (arith, n) in
    let rest : xs ≡ ys = same_list xs ys m (λ i within. let r : slice_get (x ∷ xs) (suc i) ≡ slice_get (y ∷ ys) (suc i) = h (suc i) (omega (arith, within)) in r) in
    ap (λ z. z ∷ xs) e ∙ ap (λ zs. y ∷ zs) rest

-- with n reports made of k items each there are not m more
le_or_more : (m n : ℕ) → (m ≤ n) ⊎ (n + 1 ≤ m)
le_or_more zero n = inl (omega arith)
le_or_more (suc m) zero = inr (omega arith)
le_or_more (suc m) (suc n) = both_more (le_or_more m n)
  where
    both_more : (m ≤ n) ⊎ (n + 1 ≤ m) → (suc m ≤ suc n) ⊎ (suc n + 1 ≤ suc m)
    both_more (inl le) = inl (omega (arith, le))
    both_more (inr more) = inr (omega (arith, more))

too_many : (k n m items : ℕ) → k * m ≤ items → items ≤ k * (n + 1) → (items ≡ k * (n + 1) → ⊥) → n + 1 ≤ m → ⊥
too_many k n m items made few none le =
    let more : k * (n + 1) ≤ k * m = mul-le-mul_left k le in
    none (omega (arith, made, few, more))

few_more : (k n m items : ℕ) → k * m ≤ items → items ≤ k * (n + 1) → (items ≡ k * (n + 1) → ⊥) → m ≤ n
few_more k n m items made few none = within (le_or_more m n)
  where
    within : (m ≤ n) ⊎ (n + 1 ≤ m) → m ≤ n
    within (inl le) = le
    within (inr more) = absurd (too_many k n m items made few none more)

same_reports : (p : Program) (items : List Item) (watch : Option ℕ) (xs ys : List PlainReport) → AreReports p items watch xs → AreReports p items watch ys
    → (IsDue watch (length items) (length xs) → ⊥) → (IsDue watch (length items) (length ys) → ⊥) → xs ≡ ys
same_reports p items None xs ys a b m n = a ∙ sym b
same_reports p items (Some k) xs ys a b m n =
    let le : length ys ≤ length xs = few_more k (length xs) (length ys) (length items) b.made a.few m in
    let ge : length xs ≤ length ys = few_more k (length ys) (length xs) (length items) a.made b.few n in
    same_list xs ys (omega (arith, le, ge)) (λ i within. a.each i within ∙ sym (b.each i (omega (arith, within, ge))))

some_is : {X : Type 0} (x y : X) → Some x ≡ Some y → x ≡ y
some_is x y h = cc

same_run : (h k : Kept) → IsShown h → IsShown k → HaveOneSchedule h k → run_of h.course ≡ run_of k.course
same_run h k a b s = some_is (run_of h.course) (run_of k.course)
    (sym a.leads ∙ (ap (λ p. stands (text_of p) h.course.items) s.program ∙ (ap (λ xs. stands (text_of k.course.program) xs) s.items ∙ b.leads)))

pub one_schedule_one_run : OneScheduleOneRun
one_schedule_one_run h k a b s =
    let e : run_of h.course ≡ run_of k.course = same_run h k a b s in
    record {
      output = ap (λ (r : Run). r.output) e;
      used = ap (λ (r : Run). r.used) e;
      end = ap (λ n. ending n (run_of h.course)) s.budget ∙ ap (λ r. ending k.budget r) e;
      reports = same_reports (text_of k.course.program) k.course.items k.watch h.reports k.reports
          (subst (λ p. AreReports (text_of p) k.course.items k.watch h.reports) s.program
          (subst (λ xs. AreReports (text_of h.course.program) xs k.watch h.reports) s.items
          (subst (λ w. AreReports (text_of h.course.program) h.course.items w h.reports) s.watch a.reported)))
          b.reported
          (subst (λ xs. IsDue k.watch (length xs) (length h.reports) → ⊥) s.items
          (subst (λ w. IsDue w (length h.course.items) (length h.reports) → ⊥) s.watch a.none_due))
          b.none_due;
    }
