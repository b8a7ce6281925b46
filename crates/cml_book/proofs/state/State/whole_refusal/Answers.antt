use Rattle.std.proofs.Common.{nat_lt, length, sym, ◌∙◌}
use Rattle.std.specs.Prelude.{slice_get}
use Rattle.std.specs.List.{list_all}
use Rattle.cml_value.specs.Group.{leaf_count, group_fits, scopes, nacks_of}
use Rattle.cml_group.specs.LaidOut.{max_leaves}
use Rattle.cml_book.specs.Outcomes.{thread_refusal}
use Rattle.cml_book.proofs.Plain.{whole_refused, whole_many, whole_deep, whole_none}
use Rattle.cml_book.proofs.state.State.whole_refusal.Goals as goal

pub returns-then-not-has_few_leaves : goal.returns-then-not-has_few_leaves
returns-then-not-has_few_leaves c =
    let w = c.args.self.now in
    let g = c.args.group.now in
    sym (whole_refused w c.args.thread.0 g c.requires
    ∙ whole_many (thread_refusal (slice_get w.threads c.args.thread.0))
    (list_all (λ k. nat_lt k (length w.nacks)) (nacks_of (scopes g))) (nat_lt max_leaves (leaf_count g))
    (group_fits g)
    (sym c.thread_refusal.ensures ∙ c.in_default.is) (sym c.all_nacks.ensures ∙ c.if-not-all_nacks.false) (sym c.has_few_leaves.ensures ∙ c.if-not-has_few_leaves.true))

pub returns-then-not-fits : goal.returns-then-not-fits
returns-then-not-fits c =
    let w = c.args.self.now in
    let g = c.args.group.now in
    sym (whole_refused w c.args.thread.0 g c.requires
    ∙ whole_deep (thread_refusal (slice_get w.threads c.args.thread.0))
    (list_all (λ k. nat_lt k (length w.nacks)) (nacks_of (scopes g))) (nat_lt max_leaves (leaf_count g))
    (group_fits g)
    (sym c.thread_refusal.ensures ∙ c.in_default.is) (sym c.all_nacks.ensures ∙ c.if-not-all_nacks.false)
    (sym c.has_few_leaves.ensures ∙ c.if-not-has_few_leaves.false) (sym c.fits.ensures ∙ c.if-not-fits.true))

pub returns : goal.returns
returns c =
    let w = c.args.self.now in
    let g = c.args.group.now in
    sym (whole_refused w c.args.thread.0 g c.requires
    ∙ whole_none (thread_refusal (slice_get w.threads c.args.thread.0))
    (list_all (λ k. nat_lt k (length w.nacks)) (nacks_of (scopes g))) (nat_lt max_leaves (leaf_count g))
    (group_fits g)
    (sym c.thread_refusal.ensures ∙ c.in_default.is) (sym c.all_nacks.ensures ∙ c.if-not-all_nacks.false)
    (sym c.has_few_leaves.ensures ∙ c.if-not-has_few_leaves.false) (sym c.fits.ensures ∙ c.if-not-fits.false))
