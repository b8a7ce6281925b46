use Rattle.std.proofs.Common.{◌∙◌, ap}
use Rattle.std.specs.Prelude.{count_by}
use Rattle.cml_explore.specs.declared.told.ThreadLeft.{ThreadLeft}
use Rattle.cml_explore.specs.Told.{is_wait, is_run}
use Rattle.cml_explore.proofs.tell.run_told.Goals as goal

pub returns : goal.returns
returns c = record {
  end_is = c.end.ensures;
  threads_are = c.in_ok-threads.ensures;
  waits_are = c.wait_count.ensures ∙ ap (count_by (λ (t : ThreadLeft). is_wait t.state)) c.as_slice.ensures.value;
  runs_are = c.run_count.ensures ∙ ap (count_by (λ (t : ThreadLeft). is_run t.state)) c.as_slice-2.ensures.value;
  faults_are = c.faults.ensures;
}
