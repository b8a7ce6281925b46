-- The lines that answer commands.
use Rattle.std.specs.Prelude.{ℕ, List, [], ◌++◌, length, codes, Option, Some, None}
use Rattle.std.specs.List.{flat_map}
use Rattle.std.specs.Fmt.{decimal}
use Rattle.cml_value.specs.Value.{PlainValues, no_values, values_and, PlainFunction, function}
use Rattle.cml_value.specs.Show.{shown}
use Rattle.cml_scan.specs.declared.meet.Meet.{Meet}
use Rattle.cml_scan.specs.Numbers.{numbers_of}
pub use Rattle.cml_scan.specs.Numbers.{spaced}
pub use Rattle.cml_text.specs.Lines.{line}
use Rattle.cml_book.specs.Resumes.{PlainResume}
use Rattle.cml_book.specs.Refusals.{number_of, name_of}
use Rattle.cml_book.specs.declared.refusal.Refusal.{Refusal}
use Rattle.cml_book.specs.declared.command.Committed.{Committed}
use Rattle.cml_book.specs.declared.command.Reply.{Reply}
use Rattle.cml_book.specs.declared.command.Reply.TheVariants as reply

-- a row: the threads and leaves, of a pair the head first
abbrev pub row_line : Meet → List ℕ
row_line row = line (codes "row" ++ numbers_of row)

-- how many rows there are, and each on a line
abbrev pub rows_text : List Meet → List ℕ
rows_text rows = line (codes "rows" ++ spaced (length rows)) ++ flat_map row_line rows

-- the values, each after a space
abbrev pub shown_values : PlainValues → List ℕ
shown_values no_values = []
shown_values (values_and v vs) = codes " " ++ shown v ++ shown_values vs

-- a function with its captured values, after a space
abbrev pub shown_function : PlainFunction → List ℕ
shown_function (function f vs) = codes " (" ++ decimal f ++ shown_values vs ++ codes ")"

-- a thread that goes on, with its value and the functions that the value then goes through, innermost first
abbrev pub resume_line : PlainResume → List ℕ
resume_line r = line (codes "resume" ++ spaced r.thread ++ codes " " ++ shown r.value ++ flat_map shown_function r.wraps)

-- the line of the partner, if there is one
abbrev pub partner_line : Option PlainResume → List ℕ
partner_line None = []
partner_line (Some r) = resume_line r

-- the nacks that fired for the partner, if there is one
abbrev pub fired_of : Option PlainResume → List ℕ
fired_of None = []
fired_of (Some r) = r.fired

-- both parties, the head first, and the nacks that fired, the head's before the partner's
abbrev pub committed_text : Committed → List ℕ
committed_text c = resume_line c.head ++ partner_line c.partner
    ++ line (codes "fired" ++ flat_map spaced c.head.fired ++ flat_map spaced (fired_of c.partner))

-- a refusal: its number and its name
abbrev pub refused_line : Refusal → List ℕ
refused_line why = line (codes "refused" ++ spaced (number_of why) ++ codes " " ++ name_of why)

-- the lines of a reply: what was made and its number, ok, what was committed, or why the command was refused
abbrev pub reply_text : Reply → List ℕ
reply_text (reply.Thread t) = line (codes "thread" ++ spaced t.0)
reply_text (reply.Chan c) = line (codes "chan" ++ spaced c.0)
reply_text (reply.Swap s) = line (codes "swapchan" ++ spaced s.0)
reply_text (reply.IVar i) = line (codes "ivar" ++ spaced i.0)
reply_text (reply.MVar m) = line (codes "mvar" ++ spaced m.0)
reply_text (reply.Mailbox b) = line (codes "mailbox" ++ spaced b.0)
reply_text (reply.Mchan x) = line (codes "mchan" ++ spaced x.0)
reply_text (reply.Port p) = line (codes "port" ++ spaced p.0)
reply_text (reply.Nack k) = line (codes "nack" ++ spaced k.0)
reply_text reply.Done = line (codes "ok")
reply_text (reply.Committed c) = committed_text c
reply_text (reply.Refused why) = refused_line why
