use Rattle.std.proofs.Common.{◌≡◌, [], take}
use Rattle.std.specs.Prelude.{slice_get, unwrap_or}
use Rattle.cml_verify.proofs.read.mail_in.Given as goal

abbrev pub invariant-loop-n : goal.invariant-loop-n
invariant-loop-n l = l.items.items ≡ take l.n (unwrap_or (slice_get l.book.mailboxes l.mailbox.0) [])
