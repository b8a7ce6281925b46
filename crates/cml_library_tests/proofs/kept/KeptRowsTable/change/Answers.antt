use Rattle.std.proofs.Common.{◌≡◌, ◌∙◌, ap}
use Rattle.cml_library_tests.specs.Kept.{PlainTold}
use Rattle.cml_library_tests.proofs.KeptLemmas.{has_light-after}
use Rattle.cml_library_tests.proofs.kept.KeptRowsTable.change.Goals as goal

pub returns-clause-ok_lit : goal.returns-clause-ok_lit
returns-clause-ok_lit c = λ l.
    let old : c.deref-2.result.now ≡ c.args.self.now.lit = c.deref-2.ensures.value ∙ ap (λ (t : PlainTold). t.lit) c.self.view_is in
    has_light-after _ _ _ _ l (rw old at c.in_ok-lit_after.ensures)
