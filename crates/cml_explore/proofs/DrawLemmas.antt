-- What is drawn, one item after another.
use Rattle.std.proofs.Common.{◌≡◌, ℕ, zero, suc, ◌+◌, Bool, true, false, ◌||◌, if◌then◌else◌, List, [], length, Option, Some, None, refl, sym, ap, ◌∙◌, arith}
use Rattle.std.specs.Prelude.{nat_le}
use Rattle.cml_schedule.specs.declared.item.Item.{Item}
use Rattle.cml_check.specs.Syntax.{PlainItem}
use Rattle.cml_step.specs.Calls.{text_of}
use Rattle.cml_step.specs.Terms.{Program}
use Rattle.cml_hub.specs.declared.fault.End.TheVariants.{Quiet, Budget, Partial}
use Rattle.cml_hub.specs.Runs.{Run, opening, stands, terminal, over, ending}
use Rattle.cml_hub.specs.Courses.{run_of}
use Rattle.cml_hub.specs.Kept.{Kept, IsAtStart, NoneOut}
use Rattle.cml_hub.specs.Playing.{Played}
use Rattle.cml_hub.proofs.Played.{begins_run}
use Rattle.cml_explore.specs.Draws.{Way, Drawn, item_added, led_by, one_drawn, more_drawn, begun_drawn, run_drawn, drawn_at, GoesDrawn, RunsDrawn, LeftDrawn}

-- nothing was drawn
pub goes_nowhere : {S : Type 0} (way : Way S) (old : Kept) (state last : S) → None ≡ (way (length old.course.items) old.course.world state).0
    → last ≡ (way (length old.course.items) old.course.world state).1 → GoesDrawn way old state old last
goes_nowhere {S} way old state last is after =
    let p = text_of old.course.program in
    let d = way (length old.course.items) old.course.world state in
    record {
      program = refl;
      budget_is = refl;
      goes = ap (λ (o : Option Item). item_added (drawn_at old state) last o (led_by p (run_of old.course) o)) is
          ∙ ap (λ (s : S). item_added (drawn_at old state) s d.0 (led_by p (run_of old.course) d.0)) after;
    }

-- whether a run is over, by how it ends
quiet_if : (b c : Bool) → Quiet ≡ (if b then Quiet else if c then Budget else Partial) → true ≡ (b || c)
quiet_if true c h = refl
quiet_if false true h = cc
quiet_if false false h = cc

budget_if : (b c : Bool) → Budget ≡ (if b then Quiet else if c then Budget else Partial) → true ≡ (b || c)
budget_if true c h = cc
budget_if false true h = refl
budget_if false false h = cc

partial_if : (b c : Bool) → Partial ≡ (if b then Quiet else if c then Budget else Partial) → false ≡ (b || c)
partial_if true c h = cc
partial_if false true h = cc
partial_if false false h = refl

pub quiet_over : (budget : ℕ) (r : Run) → Quiet ≡ ending budget r → true ≡ over budget r
quiet_over budget r h = quiet_if (terminal r.world) (nat_le budget r.used) h

pub budget_over : (budget : ℕ) (r : Run) → Budget ≡ ending budget r → true ≡ over budget r
budget_over budget r h = budget_if (terminal r.world) (nat_le budget r.used) h

pub partial_over : (budget : ℕ) (r : Run) → Partial ≡ ending budget r → false ≡ over budget r
partial_over budget r h = partial_if (terminal r.world) (nat_le budget r.used) h

pub draws_init : {S : Type 0} (way : Way S) (h : Kept) (state : S) (n : ℕ) → n ≡ h.budget → NoneOut h → LeftDrawn way h state n h state
draws_init way h state n is none = record {
  program = refl;
  budget_is = refl;
  none_out = none;
  plays = ap (λ k. more_drawn way (text_of h.course.program) h.budget k (drawn_at h state)) is;
}

over_on : {S : Type 0} (way : Way S) (p : Program) (budget n : ℕ) (g : Drawn S) → over budget g.run ≡ true → more_drawn way p budget n g ≡ g
over_on way p budget zero g h = refl
over_on way p budget (suc n) g h = ap (λ b. if b then g else more_drawn way p budget n (one_drawn p g (way (length g.items) g.run.world g.state))) h

pub one_on : {S : Type 0} (way : Way S) (p : Program) (budget n m : ℕ) (g : Drawn S) → n ≡ m + 1 → over budget g.run ≡ false
    → more_drawn way p budget n g ≡ more_drawn way p budget m (one_drawn p g (way (length g.items) g.run.world g.state))
one_on way p budget zero m g is h = absurd (omega arith)
one_on way p budget (suc n) m g is h =
    let same : n ≡ m = omega arith in
    ap (λ b. if b then g else more_drawn way p budget n (one_drawn p g (way (length g.items) g.run.world g.state))) h
    ∙ ap (λ k. more_drawn way p budget k (one_drawn p g (way (length g.items) g.run.world g.state))) same

pub draws_more : {S : Type 0} (way : Way S) (old : Kept) (state : S) (n m : ℕ) (now new : Kept) (last next : S) → LeftDrawn way old state n now last → n ≡ m + 1
    → false ≡ over now.budget (run_of now.course) → GoesDrawn way now last new next → NoneOut new → LeftDrawn way old state m new next
draws_more way old state n m now new last next so_far is going goes none =
    let p = text_of old.course.program in
    let g = drawn_at now last in
    let d = way (length now.course.items) now.course.world last in
    let open_ : over old.budget g.run ≡ false = sym (going ∙ ap (λ b. over b (run_of now.course)) so_far.budget_is) in
    let by : drawn_at new next ≡ one_drawn p g d = goes.goes ∙ ap (λ (q : List (PlainItem ℕ)). one_drawn (text_of q) g d) so_far.program in
    record {
      program = goes.program ∙ so_far.program;
      budget_is = goes.budget_is ∙ so_far.budget_is;
      none_out = none;
      plays = ap (more_drawn way p old.budget m) by ∙ (sym (one_on way p old.budget n m g is open_) ∙ so_far.plays);
    }

pub draws_over : {S : Type 0} (way : Way S) (old : Kept) (state : S) (n : ℕ) (now : Kept) (last : S) → LeftDrawn way old state n now last → true ≡ over now.budget (run_of now.course)
    → RunsDrawn way old state now last
draws_over way old state n now last so_far over_ =
    let p = text_of old.course.program in
    let g = drawn_at now last in
    let done : over old.budget g.run ≡ true = sym (over_ ∙ ap (λ b. over b (run_of now.course)) so_far.budget_is) in
    record { program = so_far.program; budget_is = so_far.budget_is; plays = sym (over_on way p old.budget n g done) ∙ so_far.plays }

pub draws_out : {S : Type 0} (way : Way S) (old : Kept) (state : S) (n : ℕ) (now : Kept) (last : S) → LeftDrawn way old state n now last → n ≡ 0 → RunsDrawn way old state now last
draws_out way old state n now last so_far none = record {
  program = so_far.program;
  budget_is = so_far.budget_is;
  plays = ap (λ k. more_drawn way (text_of old.course.program) old.budget k (drawn_at now last)) (sym none) ∙ so_far.plays;
}

-- A hub at the beginning of the program stands where the run begins.
pub draws_from : {S : Type 0} (way : Way S) (p : List (PlainItem ℕ)) (budget : ℕ) (state : S) (begun h : Kept) (last : S) → IsAtStart p budget None begun
    → stands (text_of begun.course.program) begun.course.items ≡ Some (run_of begun.course) → RunsDrawn way begun state h last → drawn_at h last ≡ run_drawn way (text_of p) budget state
draws_from {S} way p budget state begun h last begins leads ran =
    let at = begins_run begun state p budget None begins leads in
    let run : run_of begun.course ≡ opening (text_of p) = ap (λ (g : Played S). g.run) at in
    let start : drawn_at begun state ≡ begun_drawn (text_of p) state =
    ap (λ (items : List Item). record { items = items; run = run_of begun.course; state = state }) begins.items
    ∙ ap (λ (r : Run). record { items = []; run = r; state = state }) run in
    ran.plays
    ∙ (ap (λ (q : List (PlainItem ℕ)). more_drawn way (text_of q) begun.budget begun.budget (drawn_at begun state)) begins.program
    ∙ (ap (λ b. more_drawn way (text_of p) b b (drawn_at begun state)) begins.budget_is
    ∙ ap (more_drawn way (text_of p) budget budget) start))
