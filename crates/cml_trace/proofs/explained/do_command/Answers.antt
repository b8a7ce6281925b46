use Rattle.std.proofs.Common.{sym, ◌∙◌}
use Rattle.cml_trace.proofs.ExplainedLemmas.{told_refused}
use Rattle.cml_trace.proofs.explained.do_command.Goals as goal

pub returns-in-Some-clause-told : goal.returns-in-Some-clause-told
returns-in-Some-clause-told g c =
    told_refused c.tell_refused.result c.args.number c.args.book.now c.perform.new.self c.args.command c.in-Ok.reply c.in-Some.why
    c.args.told.now.items c.tell_refused.new.told.items c.in-Ok.ensures (sym c.refusal_in-refusal.ensures ∙ c.in-Some.is) (c.tell_refused.ensures c.args.command c.requires)
