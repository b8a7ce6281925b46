use Rattle.std.proofs.Common.{◌≡◌, drop}
use Rattle.cml_facts.specs.Whys.{first_running}
use Rattle.cml_facts.proofs.narrative.why.first_running.Given as goal

abbrev pub invariant-loop-t : goal.invariant-loop-t
invariant-loop-t l = first_running l.t (drop l.t l.book.threads) ≡ first_running l.from (drop l.from l.book.threads)
