use Rattle.std.proofs.Common.{◌≡◌, Some, ap, sym, ◌∙◌}
use Rattle.std.specs.Prelude.{option_and_then, slice_get}
use Rattle.cml_book.specs.Threads.{flat_of}
use Rattle.cml_picture.proofs.LeftLemmas.{awaits_waits}
use Rattle.cml_picture.proofs.sheet.left.awaits_of.Goals as goal

pub returns-in_ok-bases-in-Some : goal.returns-in_ok-bases-in-Some
returns-in_ok-bases-in-Some c =
    let threads = c.args.hub.now.course.world.threads in
    let there : option_and_then flat_of (slice_get threads c.args.thread) ≡ Some c.in-Some.group.now = sym (rw c.book-2.ensures at c.in-Some.ensures) in
    ap (λ b. Some (Some b)) c.in_ok-bases-in-Some.ensures ∙ sym (awaits_waits (slice_get threads c.args.thread) c.in-Some.group.now there)
