use Rattle.std.proofs.Common.{◌≡◌, sym, ap, subst, refl, ◌∙◌}
use Rattle.cml_hub.specs.Courses.{IsOurs}
use Rattle.cml_hub.specs.Kept.{Kept}
use Rattle.cml_hub.specs.Moves.{IsNext, marks_after, with_report}
use Rattle.cml_hub.proofs.Keeping.{next_turned}
use Rattle.cml_hub.proofs.Giving.{kept_of, same_kept, there_given, kept_stands, kept_given}
use Rattle.cml_hub.proofs.hub.Hub.take_back.Goals.{in-Some-2, in-None-2}
use Rattle.cml_hub.proofs.hub.Hub.take_back.Goals as goal

pub returns-in_default : goal.returns-in_default
returns-in_default c =
    let s = c.self.inside in
    let ours : IsOurs s.course c.args.ran = subst (λ (h : Kept). IsOurs h.course c.args.ran) (sym c.self.view_is) c.requires in
    rw (← c.self.view_is)
    (ours, refl, same_kept s.course s.course s.budget s.watch s.marks.marks s.marks.marks s.marks.queue s.marks.queue c.due.new.reports.items s.reports.items refl refl refl c.in_default.ensures.items)

pub returns-in_default-reserve : goal.returns-in_default-reserve
returns-in_default-reserve c =
    let s = c.self.inside in
    let ours : IsOurs s.course c.args.ran = subst (λ (h : Kept). IsOurs h.course c.args.ran) (sym c.self.view_is) c.requires in
    rw (← c.self.view_is) (
      ours,
      refl,
      same_kept s.course s.course s.budget s.watch c.reserve.new.self.marks s.marks.marks
          c.reserve.new.self.queue s.marks.queue c.due.new.reports.items s.reports.items refl
          c.in_default-reserve.ensures.marks c.in_default-reserve.ensures.queue c.in-Ok.ensures.items,
    )

pub place-requires-clause-there : goal.place-requires-clause-there
place-requires-clause-there c =
    let s = c.self.inside in
    let g = c.in-Ok-give in
    let h = kept_of s.course s.budget s.watch s.marks.marks s.marks.queue s.reports.items in
    rw c.reserve.ensures.marks (there_given h s.marks.marks g.thread g.gone c.give.new.self c.self.invariant g.ensures.ok.0)

pub place-requires-clause-next : goal.place-requires-clause-next
place-requires-clause-next c =
    let s = c.self.inside in
    let g = c.in-Ok-give in
    let h = kept_of s.course s.budget s.watch s.marks.marks s.marks.queue s.reports.items in
    subst (λ m. IsNext g.gone m) (sym c.reserve.ensures.marks) (next_turned h s.marks.marks g.thread g.gone c.give.new.self c.self.invariant g.ensures.ok.0)

pub invariant_of-self-in-Ok-give : goal.invariant_of-self-in-Ok-give
invariant_of-self-in-Ok-give c =
    let s = c.self.inside in
    let g = c.in-Ok-give in
    let ms = c.place.ensures.marks ∙ ap (λ m. marks_after g.thread.0 g.gone m) c.reserve.ensures.marks in
    let rs = c.add_report.ensures ∙ ap (λ l. with_report l c.in-Ok.report) c.in-Ok.ensures.items in
    kept_stands s.course c.give.new.self s.budget s.watch s.marks.marks c.place.new.marks.marks s.marks.queue
    c.place.new.marks.queue s.reports.items c.add_report.new.reports.items c.in-Ok.report g.thread g.gone
    c.self.invariant c.in-Ok.ensures.leads c.in-Ok.ensures.due g.ensures.ok.0 ms rs

pub returns-in-Ok-give : goal.returns-in-Ok-give
returns-in-Ok-give c =
    let s = c.self.inside in
    let g = c.in-Ok-give in
    let ours : IsOurs s.course c.args.ran = subst (λ (h : Kept). IsOurs h.course c.args.ran) (sym c.self.view_is) c.requires in
    let ms = c.place.ensures.marks ∙ ap (λ m. marks_after g.thread.0 g.gone m) c.reserve.ensures.marks in
    let rs = c.add_report.ensures ∙ ap (λ l. with_report l c.in-Ok.report) c.in-Ok.ensures.items in
    rw (← c.self.view_is) (
      ours,
      kept_given s.course c.give.new.self s.budget s.watch s.marks.marks c.place.new.marks.marks s.marks.queue
          c.place.new.marks.queue s.reports.items c.add_report.new.reports.items c.in-Ok.report g.thread
          (record { 0 = c.args.ran.start.thread }) g.gone
          g.ensures.ok.0 g.ensures.ok.1 ms rs,
    )

pub returns-in-Err : goal.returns-in-Err
returns-in-Err c =
    let s = c.self.inside in
    let k = kept_of c.give.new.self s.budget s.watch c.reserve.new.self.marks c.reserve.new.self.queue c.due.new.reports.items in
    let is : c.match-report-2.self ≡ k = elim c.match-report-2.branch [ in-Some-2 w ↦ w.self-is | in-None-2 w ↦ w.self-is ] in
    let same = same_kept c.give.new.self s.course s.budget s.watch c.reserve.new.self.marks s.marks.marks
    c.reserve.new.self.queue s.marks.queue c.due.new.reports.items s.reports.items c.in-Err.ensures.err.1
    c.reserve.ensures.marks c.reserve.ensures.queue c.in-Ok.ensures.items in
    (c.requires, c.in-Err.ensures.err.0, is ∙ (same ∙ c.self.view_is))
