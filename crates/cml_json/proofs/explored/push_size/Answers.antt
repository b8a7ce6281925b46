use Rattle.std.proofs.Common.{◌∙◌, append_assoc, append-nil, refl}
use Rattle.std.proofs.lemmas.Result.{on_ok_weaker}
use Rattle.cml_json.specs.Explored.{size_members}
use Rattle.cml_json.proofs.explored.push_size.Goals as goal

pub returns : goal.returns
unfolding size_members
returns c =
    on_ok_weaker c.push_number-2.result (λ is. is ∙ simp (c.in_ok-push_number.ensures, c.in_ok-push_truth.ensures, append_assoc, append-nil) refl) c.push_number-2.ensures
