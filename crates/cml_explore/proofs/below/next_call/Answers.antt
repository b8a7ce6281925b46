use Rattle.std.proofs.Common.{[], refl, sym, ◌∙◌}
use Rattle.cml_step.specs.Shared.{plain_seen, left_of}
use Rattle.cml_facts.proofs.FrameLemmas.{is_call, no_call}
use Rattle.cml_explore.proofs.below.next_call.Goals as goal

pub returns-in-Some-as_call : goal.returns-in-Some-as_call
returns-in-Some-as_call c =
    sym c.entries.invariant ∙ sym (is_call (left_of c.entries.walk) (left_of c.step.new.self) (plain_seen c.in-Some.seen) _ [] _ c.in-Some.ensures refl c.in-Some-as_call.ensures)

pub entries-preserved : goal.entries-preserved
entries-preserved c =
    no_call (left_of c.entries.walk) (left_of c.step.new.self) (plain_seen c.in-Some.seen) [] _ c.in-Some.ensures c.entries.invariant c.in-None.ensures
