use Rattle.cml_arguments.proofs.odds.told_odds.Goals as goal

pub returns-in-Run : goal.returns-in-Run
returns-in-Run c = rw c.in-Run.is c.run_odds.ensures

pub returns-in-Replay : goal.returns-in-Replay
returns-in-Replay c = rw c.in-Replay.is c.replay_odds.ensures

pub returns-in-Explain : goal.returns-in-Explain
returns-in-Explain c = rw c.in-Explain.is c.input_odds.ensures

pub returns-in-Explore : goal.returns-in-Explore
returns-in-Explore c = rw c.in-Explore.is c.explore_odds.ensures

pub returns-in-Verify : goal.returns-in-Verify
returns-in-Verify c = rw c.in-Verify.is c.verify_odds.ensures

pub returns-in-Shrink : goal.returns-in-Shrink
returns-in-Shrink c = rw c.in-Shrink.is c.input_odds-in-Shrink.ensures

pub returns-in-Draw : goal.returns-in-Draw
returns-in-Draw c = rw c.in-Draw.is c.input_odds-in-Draw.ensures

pub returns-in-Step : goal.returns-in-Step
returns-in-Step c = rw c.in-Step.is c.step_odds.ensures
