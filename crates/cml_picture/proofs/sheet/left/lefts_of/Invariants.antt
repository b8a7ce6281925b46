use Rattle.std.proofs.Common.{◌≡◌, ◌||◌, map}
use Rattle.std.specs.Prelude.{nat_le}
use Rattle.cml_facts.specs.Turns.{began_in}
use Rattle.cml_picture.specs.Lives.{lefts}
use Rattle.cml_picture.specs.Parts.{flag_at}
use Rattle.cml_picture.specs.Views.{plain_left}
use Rattle.cml_picture.proofs.sheet.left.lefts_of.Given as goal

-- those so far
abbrev pub invariant-loop-thread : goal.invariant-loop-thread
invariant-loop-thread l =
    map plain_left l.all.items ≡ lefts (began_in l.hub.course) (λ t. nat_le l.before t || flag_at l.flags t) l.hub.course.world.threads l.thread
