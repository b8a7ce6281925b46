use Rattle.std.proofs.Common.{refl, sym, subst}
use Rattle.cml_stepper.specs.declared.line.Typed.TheVariants as typed
use Rattle.cml_stepper.specs.declared.reply.Reply.TheVariants as reply
use Rattle.cml_stepper.specs.declared.reply.Stay.TheVariants as stay
use Rattle.cml_stepper.specs.Replies.{DoneAt, Lists, TellsEnd}
use Rattle.cml_stepper.specs.Steppers.{places_known}
use Rattle.cml_stepper.proofs.ReplyLemmas.{keeps_so, does_as}
use Rattle.cml_stepper.proofs.stepper.Stepper.react.Goals as goal

pub returns-in-Quit-clause-does : goal.returns-in-Quit-clause-does
returns-in-Quit-clause-does c =
    let h = c.args.hub.now in subst (λ x. DoneAt (places_known c.args.self.now) x h h reply.Quit) (sym c.in-Quit.is) (refl, refl)

pub returns-in_ok-undone-in-Undo-clause-does : goal.returns-in_ok-undone-in-Undo-clause-does
returns-in_ok-undone-in-Undo-clause-does c =
    subst (λ x. DoneAt (places_known c.args.self.now) x c.args.hub.now c.undo_last.new.hub c.in_ok-undone-in-Undo.undone) (sym c.in-Undo.is) c.in_ok-undone-in-Undo.ensures.undoes

pub returns-in_ok-ending-in-Waits-clause-does : goal.returns-in_ok-ending-in-Waits-clause-does
returns-in_ok-ending-in-Waits-clause-does c =
    let h = c.args.hub.now in
    let places = places_known c.args.self.now in
    let s = stay.Waits c.in_ok-ending-in-Waits.ending in
    subst (λ x. DoneAt places x h h c.stays.result) (sym c.in-Waits.is) (keeps_so (TellsEnd places h) h s c.stays.result c.stays.ensures c.in_ok-ending-in-Waits.ensures)

pub returns-in_ok-listed-in-List-clause-does : goal.returns-in_ok-listed-in-List-clause-does
returns-in_ok-listed-in-List-clause-does c =
    let h = c.args.hub.now in
    let n = c.in-List.number in
    subst (λ x. DoneAt (places_known c.args.self.now) x h h c.stays-in-List.result) (sym c.in-List.is)
    (keeps_so (Lists h.course n) h c.in_ok-listed-in-List.listed c.stays-in-List.result c.stays-in-List.ensures c.in_ok-listed-in-List.ensures)

pub returns-in_ok-taken-in-Row-clause-does : goal.returns-in_ok-taken-in-Row-clause-does
returns-in_ok-taken-in-Row-clause-does c = does_as (places_known c.args.self.now) c.args.what _ c.args.hub.now c.go_on.new.hub c.in_ok-taken-in-Row.taken c.in-Row.is
    (λ m. m) c.in_ok-taken-in-Row.ensures.moves

pub returns-in_ok-turned-in-Turn-clause-does : goal.returns-in_ok-turned-in-Turn-clause-does
returns-in_ok-turned-in-Turn-clause-does c = does_as (places_known c.args.self.now) c.args.what _ c.args.hub.now c.go_on-in-Turn.new.hub c.in_ok-turned-in-Turn.turned c.in-Turn.is
    (λ m. m) c.in_ok-turned-in-Turn.ensures.moves

pub returns-in_ok-next-in-Next-clause-does : goal.returns-in_ok-next-in-Next-clause-does
returns-in_ok-next-in-Next-clause-does c = does_as (places_known c.args.self.now) c.args.what typed.Next c.args.hub.now c.go_on-in-Next.new.hub c.in_ok-next-in-Next.next c.in-Next.is
    (λ m. m) c.in_ok-next-in-Next.ensures.moves

pub returns-in_ok-same-in-Unknown-clause-does : goal.returns-in_ok-same-in-Unknown-clause-does
returns-in_ok-same-in-Unknown-clause-does c =
    does_as (places_known c.args.self.now) c.args.what typed.Unknown c.args.hub.now c.go_on-in-Unknown.new.hub c.in_ok-same-in-Unknown.same c.in-Unknown.is
    (λ m. m) c.in_ok-same-in-Unknown.ensures.moves
