use Rattle.std.proofs.Common.{sym, ◌∙◌, rules}
use Rattle.cml_group.proofs.Same.{same_whole, same_open, framed_same, forced_apart}
use Rattle.cml_group.proofs.force.part.Part.same.Goals as goal

pub returns-in-Whole-Whole : goal.returns-in-Whole-Whole
returns-in-Whole-Whole c =
    let same = same_whole c.in-Whole-Whole.group c.in-Whole-Whole.old in
    rw (c.in-Whole-Whole.is-0, c.in-Whole-Whole.is-1) ((λ h. same.0 (c.same.ensures.0 h)), (λ h. c.same.ensures.1 (same.1 h)))

pub returns-then-same : goal.returns-then-same
returns-then-same c =
    let holes = c.same-in-Open-Open.ensures.0 (rw c.if-same.true (search rules)) in
    let frames = c.deref.ensures.value in
    let others = c.deref-then-same.ensures.value in
    rw (c.in-Open-Open.is-0, c.in-Open-Open.is-1) (
      (λ h. framed_same c.in-Open-Open.frames.items c.in-Open-Open.others.items _ _ (sym frames ∙ c.same_frames.ensures.0 h ∙ others) holes),
      (λ h. c.same_frames.ensures.1 (frames ∙ (same_open c.in-Open-Open.frames.items c.in-Open-Open.others.items c.in-Open-Open.hole c.in-Open-Open.old h).1 ∙ sym others)),
    )

pub returns-else-same : goal.returns-else-same
returns-else-same c =
    rw (c.in-Open-Open.is-0, c.in-Open-Open.is-1) (
      (λ h. let no = c.if-same.false in cc),
      (λ h. c.same-in-Open-Open.ensures.1 (same_open c.in-Open-Open.frames.items c.in-Open-Open.others.items c.in-Open-Open.hole c.in-Open-Open.old h).0),
    )

pub returns-in-Whole-Open : goal.returns-in-Whole-Open
returns-in-Whole-Open c =
    rw (c.in-Whole-Open.is-0, c.in-Whole-Open.is-1)
    ((λ h. absurd (cc)), (λ h. absurd (forced_apart c.in-Whole-Open.field-0-0 c.in-Whole-Open.field-0-1.items c.in-Whole-Open.field-1-1 h)))

pub returns-in-Open-Whole : goal.returns-in-Open-Whole
returns-in-Open-Whole c =
    rw (c.in-Open-Whole.is-0, c.in-Open-Whole.is-1)
    ((λ h. absurd (cc)), (λ h. absurd (forced_apart c.in-Open-Whole.field-0-1 c.in-Open-Whole.field-0-0.items c.in-Open-Whole.field-1-0 (sym h))))
