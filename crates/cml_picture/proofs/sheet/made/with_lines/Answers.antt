use Rattle.std.proofs.Common.{◌≡◌, ◌≤◌, ◌∙◌, map, ap, arith, refl}
use Rattle.cml_facts.specs.Turns.{began_in}
use Rattle.cml_picture.specs.Holds.{all_held}
use Rattle.cml_picture.specs.Lives.{beginnings, lefts}
use Rattle.cml_picture.specs.Parts.{acts, takes_part}
use Rattle.cml_picture.specs.Stacks.{thread_count}
use Rattle.cml_picture.specs.Views.{plain_left}
use Rattle.cml_picture.proofs.Below.{beginnings_are, lefts_are}
use Rattle.cml_picture.proofs.sheet.made.with_lines.Goals as goal

pub returns : goal.returns
returns c =
    let course = c.args.hub.now.course in
    let known = c.max-known.result in
    let here : c.next_thread.result.0 ≡ thread_count course = rw c.book.ensures at c.next_thread.ensures in
    let few : c.args.before ≤ known = omega (arith, c.max-known.ensures) in
    let all : thread_count course ≤ known = omega (arith, c.max-known.ensures, here) in
    let first = rw c.as_slice.ensures.value at c.in_ok-beginnings.ensures in
    let begun : c.in_ok-beginnings.beginnings.items ≡ beginnings (began_in course) (acts c.args.items.now) c.args.before =
    first ∙ beginnings_are (began_in course) c.args.items.now c.in_ok-flags.flags.items known c.args.before few c.in_ok-flags.ensures in
    let last = rw c.as_slice-2.ensures.value at c.in_ok-left.ensures in
    let stay : map plain_left c.in_ok-left.left.items ≡ lefts (began_in course) (takes_part c.args.before c.args.items.now) course.world.threads (thread_count course) =
    last ∙ lefts_are (began_in course) c.args.items.now c.args.before c.in_ok-flags.flags.items course.world.threads known (thread_count course) all c.in_ok-flags.ensures in
    let count : c.next_thread-2.result.0 ≡ thread_count course = rw c.book-2.ensures at c.next_thread-2.ensures in
    let kept : c.in_ok-held.held.items ≡ all_held c.args.stack.shown.items = c.in_ok-held.ensures ∙ ap all_held c.as_slice-3.ensures.value in
    rw (begun, stay, c.is_quiet.ensures, count, kept) refl
