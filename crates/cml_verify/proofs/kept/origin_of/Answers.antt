use Rattle.std.proofs.Common.{Some, ap, sym, ◌∙◌}
use Rattle.cml_hub.specs.Deeds.{origins}
use Rattle.cml_step.specs.Calls.{text_of}
use Rattle.cml_verify.proofs.Reading.{not_there}
use Rattle.cml_verify.proofs.kept.origin_of.Goals as goal

pub returns : goal.returns
returns c = sym (rw c.in-Some.is at c.origin.ensures) ∙ ap (λ f. Some f) (sym c.in_ok-copy-in-Some.ensures)

pub unreachable-requires : goal.unreachable-requires
unreachable-requires c =
    let k = c.args.hub.now.course in
    absurd (not_there (origins (text_of k.program) k.items) c.args.thread.0 c.requires (rw c.in-None.is at c.origin.ensures))
