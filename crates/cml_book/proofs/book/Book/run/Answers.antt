use Rattle.cml_book.proofs.Runs.{goes_on}
use Rattle.cml_book.proofs.book.Book.run.Goals as goal

pub loop-command-preserved : goal.loop-command-preserved
loop-command-preserved g c =
    goes_on c.args.commands.items c.loop-command.commands.items c.pop.new.self.items c.loop-command.replies.items
    c.perform_into.new.replies.items c.args.self.now c.loop-command.self c.perform_into.new.self c.in-Some.command
    c.loop-command.invariant c.in-Some.ensures.items c.in_default-perform_into.ensures.reply c.in_default-perform_into.ensures.world
