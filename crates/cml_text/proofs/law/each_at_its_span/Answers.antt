use Rattle.cml_text.proofs.SpanLemmas.{each_at_its_span}
use Rattle.cml_text.proofs.law.each_at_its_span.Goals as goal

pub returns : goal.returns
returns c = each_at_its_span
