use Rattle.std.proofs.Common.{List, sym, subst}
use Rattle.cml_book.specs.declared.command.Command.{Command}
use Rattle.cml_trace.proofs.BatchLemmas.{Gathering, Gathering-start, Gathering-on, Gathers-stop}
use Rattle.cml_trace.proofs.batch.gather_into.Goals as goal

pub loop-number-init : goal.loop-number-init
loop-number-init c = subst (λ (cs : List Command). Gathering c.args.lines.now c.args.lines.now cs) (sym c.requires) (Gathering-start c.args.lines.now)

pub loop-number-preserved : goal.loop-number-preserved
loop-number-preserved c =
    Gathering-on c.args.lines.now c.loop-number.lines c.next.new.self c.loop-number.commands.items c.take_line.new.commands.items c.in-Some.line.now
    c.loop-number.invariant c.in-Some.ensures.line c.in-Some.ensures.next c.in-None.ensures.taken

pub returns-in-Some-take_line : goal.returns-in-Some-take_line
returns-in-Some-take_line c =
    Gathers-stop c.in-Some-take_line.stop c.args.lines.now c.loop-number.lines c.next.new.self c.loop-number.commands.items c.take_line.new.commands.items
    c.in-Some.number c.in-Some.line.now c.loop-number.invariant c.in-Some-take_line.ensures.same c.in-Some.ensures.number c.in-Some.ensures.line c.in-Some.ensures.next
    (c.in-Some-take_line.ensures.stops c.next.new.self.left)
