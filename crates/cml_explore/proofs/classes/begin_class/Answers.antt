use Rattle.cml_explore.proofs.ClassLemmas.{last_is}
use Rattle.cml_explore.proofs.classes.begin_class.Goals as goal

pub returns-clause-summaries : goal.returns-clause-summaries
returns-clause-summaries c = last_is c.push_class.result _ c.push_class.new.summaries.items c.in_ok-summary.summary _ (c.in_ok-summary.ensures c.args.details.items) c.push_class.ensures.summaries
