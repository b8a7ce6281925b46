use Rattle.cml_phrase.proofs.StatementCounts.{each_span}
use Rattle.cml_phrase.proofs.statement.statement_spans.Goals as goal

pub returns-clause-each : goal.returns-clause-each
returns-clause-each c = λ program is. each_span c.in_ok-spans.spans.items c.args.forms.now program c.args.func c.in_ok-spans.ensures is
