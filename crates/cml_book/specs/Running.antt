-- Which threads run after a command.
use Rattle.std.specs.Prelude.{ℕ, ◌==◌, Bool, false, not, ◌&&◌, ◌||◌}
use Rattle.std.specs.Option.{option_map_or}
use Rattle.cml_book.specs.declared.command.Command.{Command}
use Rattle.cml_book.specs.declared.command.Command.TheVariants as command
use Rattle.cml_book.specs.declared.command.Committed.{Committed}
use Rattle.cml_book.specs.declared.command.Reply.{Reply}
use Rattle.cml_book.specs.declared.command.Reply.TheVariants as reply

-- the thread is one of the parties of the row that was taken
abbrev pub is_party : ℕ → Committed → Bool
is_party t c = (c.head.thread == t) || option_map_or (λ r. r.thread == t) c.partner false

-- Whether a thread runs after a command with this reply, where the last argument says whether it ran before. A thread that was made runs;
-- one that waits, or has ended, runs no more; the parties of a row that was taken run again; and every other thread is as it was.
abbrev pub runs_after : Reply → Command → ℕ → Bool → Bool
runs_after (reply.Thread made) c t ran = (made.0 == t) || ran
runs_after reply.Done (command.Sync u g) t ran = not (u.0 == t) && ran
runs_after reply.Done (command.End u) t ran = not (u.0 == t) && ran
runs_after (reply.Committed parties) c t ran = is_party t parties || ran
runs_after _ c t ran = ran
