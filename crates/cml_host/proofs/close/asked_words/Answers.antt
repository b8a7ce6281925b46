use Rattle.std.proofs.Common.{◌&&◌, ap, is_some, rules}
use Rattle.cml_host.proofs.ClosedLemmas.{may_kept, may_none}
use Rattle.cml_host.proofs.close.asked_words.Goals as goal

pub returns-in-Some : goal.returns-in-Some
returns-in-Some c =
    may_kept c.kept_words.result c.args.asked.now.explains (is_some c.args.asked.now.subject) (ap is_some c.in-Some.is) c.kept_words.ensures

pub returns-in-None : goal.returns-in-None
returns-in-None c = may_none (c.args.asked.now.explains && is_some c.args.asked.now.subject) c.new.result (search rules)
