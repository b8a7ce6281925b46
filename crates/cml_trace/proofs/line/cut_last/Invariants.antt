use Rattle.std.proofs.Common.{MatchOption}
use Rattle.cml_trace.proofs.LineLemmas.{NoFeedBelow, LastFeedBelow}
use Rattle.cml_trace.proofs.line.cut_last.Given as goal

-- which line feed came last
abbrev pub invariant-loop-at : goal.invariant-loop-at
invariant-loop-at l = MatchOption l.last (NoFeedBelow l.input l.at) (λ i. LastFeedBelow l.input l.at i)
