use Rattle.cml_stepper.proofs.stepper.Stepper.undo.Goals as goal

pub follow_first-requires-clause-knows : goal.follow_first-requires-clause-knows
follow_first-requires-clause-knows c = c.in_ok-narrator.ensures.knows c.in_ok-second.second.course c.in_ok-second.ensures.items
