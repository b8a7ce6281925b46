use Rattle.std.proofs.Common.{rules}
use Rattle.cml_host.proofs.ItemLemmas.{bad_within}
use Rattle.cml_host.proofs.replay.follow.Goals as goal

pub tell_bad-requires-clause-there : goal.tell_bad-requires-clause-there
tell_bad-requires-clause-there c = bad_within c.args.program c.args.plan.now.items c.in-Err-BadItem.number (search rules)
