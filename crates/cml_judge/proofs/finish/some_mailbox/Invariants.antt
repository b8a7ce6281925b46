use Rattle.std.proofs.Common.{◌≡◌, false, take}
use Rattle.std.specs.List.{list_any}
use Rattle.cml_judge.specs.Finishes.{has_an_item}
use Rattle.cml_judge.proofs.finish.some_mailbox.Given as goal

-- none so far
abbrev pub invariant-loop-mailbox : goal.invariant-loop-mailbox
invariant-loop-mailbox l = list_any has_an_item (take l.mailbox l.book.mailboxes) ≡ false
