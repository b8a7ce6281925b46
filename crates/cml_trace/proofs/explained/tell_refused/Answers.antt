use Rattle.std.proofs.Common.{ap, ◌∙◌}
use Rattle.cml_trace.specs.Explained.{line_told}
use Rattle.cml_trace.specs.Whys.{why_of}
use Rattle.cml_trace.specs.declared.why.Cause.TheVariants as cause
use Rattle.cml_trace.proofs.ExplainedLemmas.{appends_same}
use Rattle.cml_trace.proofs.explained.tell_refused.Goals as goal

pub returns : goal.returns
returns g c = λ command asks.
    appends_same c.tell.result c.args.told.now.items c.tell.new.told.items
    (line_told c.args.number (cause.Refused c.why_of-found.result)) (line_told c.args.number (cause.Refused (why_of c.args.book.now command c.args.why)))
    (ap (λ why. line_told c.args.number (cause.Refused why)) (c.why_of-found.ensures ∙ ap (λ k. why_of c.args.book.now k c.args.why) (c.in_ok-command.ensures command asks)))
    c.tell.ensures
