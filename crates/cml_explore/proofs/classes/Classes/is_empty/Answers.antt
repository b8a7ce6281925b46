use Rattle.std.proofs.Common.{sym, ap, ◌∙◌, length}
use Rattle.std.specs.Prelude.{◌==◌}
use Rattle.cml_explore.proofs.ClassLemmas.{class_count}
use Rattle.cml_explore.proofs.classes.Classes.is_empty.Goals as goal

pub returns : goal.returns
returns c =
    c.is_empty.ensures
    ∙ ap (λ n. n == 0) (c.self.inside.summaries.ok.0 ∙ (sym (class_count (λ d. d.items) c.self.inside.details.keys c.self.inside.summaries.items c.self.invariant) ∙ ap length c.self.view_is))
