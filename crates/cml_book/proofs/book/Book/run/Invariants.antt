use Rattle.std.proofs.Common.{vec_len}
use Rattle.cml_book.proofs.Runs.{Goes}
use Rattle.cml_book.proofs.book.Book.run.Given as goal

abbrev pub decreases-loop-command : goal.decreases-loop-command
decreases-loop-command g l = vec_len l.commands

-- some of the commands are done, and those that are left stand in reverse
abbrev pub invariant-loop-command : goal.invariant-loop-command
invariant-loop-command g l = Goes l.fn.commands.items l.commands.items l.replies.items l.fn.self l.self
