use Rattle.std.proofs.Common.{◌≡◌, ◌∙◌, true, sym, ap, not, nat_lt, refl}
use Rattle.std.specs.Prelude.{slice_get}
use Rattle.std.specs.List.{list_any}
use Rattle.cml_value.specs.Group.{bases, leaf_count, group_fits}
use Rattle.cml_group.specs.LaidOut.{max_leaves}
use Rattle.cml_book.specs.Entering.{is_far}
use Rattle.cml_book.specs.Outcomes.{thread_refusal}
use Rattle.cml_book.specs.Sync.{group_exists}
use Rattle.cml_book.proofs.Walks.{any_far}
use Rattle.cml_book.proofs.Accepted.{past_four}
use Rattle.cml_book.proofs.state.State.shape_refusal.Goals as goal

pub returns-then-not-all_bases-2 : goal.returns-then-not-all_bases-2
returns-then-not-all_bases-2 c =
    let w = c.args.self.now in
    let g = c.args.group.now in
    let exists : group_exists w g ≡ true = rw (sym c.all_bases.ensures ∙ c.if-not-all_bases.false, sym c.all_nacks.ensures ∙ c.if-not-all_nacks.false) refl in
    let far : list_any (is_far w.tick) (bases g) ≡ true =
    ap (λ t. list_any (is_far t) (bases g)) (sym c.now.ensures.time) ∙ any_far c.now.result (bases g) ∙ ap not (sym c.all_bases-2.ensures ∙ c.if-not-all_bases-2.true) in
    sym (past_four (thread_refusal (slice_get w.threads c.args.thread.0)) (group_exists w g) (nat_lt max_leaves (leaf_count g)) (group_fits g) (list_any (is_far w.tick) (bases g)) _
    (sym c.thread_refusal.ensures ∙ c.in_default.is) exists (sym c.has_few_leaves.ensures ∙ c.if-not-has_few_leaves.false) (sym c.fits.ensures ∙ c.if-not-fits.false) far)

pub returns : goal.returns
returns c =
    let w = c.args.self.now in
    let g = c.args.group.now in
    let exists : group_exists w g ≡ true = rw (sym c.all_bases.ensures ∙ c.if-not-all_bases.false, sym c.all_nacks.ensures ∙ c.if-not-all_nacks.false) refl in
    let far : list_any (is_far w.tick) (bases g) ≡ _ =
    ap (λ t. list_any (is_far t) (bases g)) (sym c.now.ensures.time) ∙ any_far c.now.result (bases g) ∙ ap not (sym c.all_bases-2.ensures ∙ c.if-not-all_bases-2.false) in
    sym (past_four (thread_refusal (slice_get w.threads c.args.thread.0)) (group_exists w g) (nat_lt max_leaves (leaf_count g)) (group_fits g) (list_any (is_far w.tick) (bases g)) _
    (sym c.thread_refusal.ensures ∙ c.in_default.is) exists (sym c.has_few_leaves.ensures ∙ c.if-not-has_few_leaves.false) (sym c.fits.ensures ∙ c.if-not-fits.false) far)
