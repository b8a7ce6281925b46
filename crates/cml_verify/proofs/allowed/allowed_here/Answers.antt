use Rattle.std.proofs.Common.{ap, ◌∙◌}
use Rattle.std.specs.Prelude.{filter}
use Rattle.cml_hub.specs.Courses.{run_of}
use Rattle.cml_step.specs.Calls.{text_of}
use Rattle.cml_verify.specs.Cores.{can, candidates}
use Rattle.cml_verify.proofs.allowed.allowed_here.Goals as goal

pub returns : goal.returns
returns c =
    let k = c.args.hub.now.course in
    let p = text_of k.program in
    c.in_ok-these.ensures ∙ ap (filter (can p (run_of k))) (c.as_slice-items.ensures.value ∙ (c.in_ok-all.ensures ∙ ap candidates c.book.ensures))
