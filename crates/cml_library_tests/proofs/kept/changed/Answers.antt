use Rattle.cml_library_tests.proofs.KeptLemmas.{came_added}
use Rattle.cml_library_tests.proofs.kept.changed.Goals as goal

pub returns-in_ok-push_kept-in-Some-2 : goal.returns-in_ok-push_kept-in-Some-2
returns-in_ok-push_kept-in-Some-2 c =
    rw (c.in-Some.is) (came_added c.args.gone.now c.args.entries.now _ _ _ _ _ _ _ c.new-new.ensures.items
    c.in_ok-push_kept-in-Some.ensures c.in_ok-group-in-Some.ensures c.in_ok-push-in-Some.ensures.items
    c.in_ok-push_kept-in-Some-2.ensures)
