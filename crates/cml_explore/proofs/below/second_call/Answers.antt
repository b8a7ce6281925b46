use Rattle.std.proofs.Common.{sym, ap, ◌∙◌}
use Rattle.std.specs.Prelude.{slice_get}
use Rattle.cml_step.specs.Shared.{left_of}
use Rattle.cml_facts.specs.FaultViews.{held_call}
use Rattle.cml_facts.specs.Frames.{calls_down}
use Rattle.cml_explore.proofs.BelowLemmas.{second_found}
use Rattle.cml_explore.proofs.below.second_call.Goals as goal

pub returns-in-Some : goal.returns-in-Some
returns-in-Some c =
    second_found c.next_call-in-Some.result (λ call. held_call call.now) (calls_down c.args.machine.now.stack) (calls_down (left_of c.next_call.new.walk))
    (calls_down (left_of c.next_call-in-Some.new.walk)) _ (ap calls_down (sym c.entries-walk.ensures) ∙ c.in-Some.ensures) c.next_call-in-Some.ensures

pub returns-in-None : goal.returns-in-None
returns-in-None c = ap (λ xs. slice_get xs 1) (ap calls_down (sym c.entries-walk.ensures) ∙ c.in-None.ensures)
