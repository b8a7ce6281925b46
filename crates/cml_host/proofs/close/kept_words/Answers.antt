use Rattle.std.proofs.Common.{rules}
use Rattle.cml_host.proofs.ClosedLemmas.{may_any, may_none}
use Rattle.cml_host.proofs.close.kept_words.Goals as goal

pub returns-then-explains : goal.returns-then-explains
returns-then-explains c = may_any c.args.explains c.end_words.result c.if-explains.true

pub returns-else-explains : goal.returns-else-explains
returns-else-explains c = may_none c.args.explains c.new.result (search rules)
