use Rattle.std.proofs.Common.{◌≡◌, ◌++◌, ◌∷◌, [], Some, ap, sym, ◌∙◌, false}
use Rattle.cml_step.specs.declared.entry.Entry.{Entry}
use Rattle.cml_step.specs.declared.entry.Entry.TheVariants as entry
use Rattle.cml_step.specs.declared.nack.NackRoom.{NackRoom}
use Rattle.cml_step.specs.Answers.{top_await}
use Rattle.cml_step.specs.Machines.{plain_held, machine_term}
use Rattle.cml_step.specs.Shared.{topped, called}
use Rattle.cml_step.proofs.AnswerLemmas.{nack_last}
use Rattle.cml_step.proofs.NackLemmas.{IsMade, room_made}
use Rattle.cml_step.proofs.machine.Machine.reserve_nack.Goals as goal

pub nacked-requires : goal.nacked-requires
nacked-requires c =
    let m = c.args.self.now in
    let es = called c.stack.inside.below c.stack.inside.call in
    let top : Entry = entry.Force c.in-Force.forcing c.in-Force.field-1 in
    let st : m.stack ≡ es ++ plain_held top ∷ [] = ap (λ x. x.stack) (sym c.self.view_is) ∙ sym c.stack.view_is ∙ ap (topped es) (c.in-Some.is ∙ ap Some c.in-Force.is) in
    nack_last c.requires.0 es c.in-Force.forcing c.in-Force.field-1 (ap (λ hs. top_await (machine_term c.requires.0 (record { thread = m.thread; stack = hs }))) (sym st) ∙ c.requires.2)

pub returns-clause-room : goal.returns-clause-room
returns-clause-room c =
    let m = c.args.self.now in
    let es = called c.stack.inside.below c.stack.inside.call in
    let g = c.in-Force.forcing in
    let asked = c.in-Force.field-1 in
    let k = c.args.nack.0 in
    let new = c.in_ok-event.event in
    let call = c.in_ok-event.call in
    let by = c.in_ok-event.ensures in
    let top : Entry = entry.Force g asked in
    let st : m.stack ≡ es ++ plain_held top ∷ [] = ap (λ x. x.stack) (sym c.self.view_is) ∙ sym c.stack.view_is ∙ ap (topped es) (c.in-Some.is ∙ ap Some c.in-Force.is) in
    let n = nack_last c.requires.0 es g asked (ap (λ hs. top_await (machine_term c.requires.0 (record { thread = m.thread; stack = hs }))) (sym st) ∙ c.requires.2) in
    let made : IsMade g new k n.0 call = record { asks = n.1; event = by.event n.0 n.1; next = by.next n.0 n.1; term = λ p. by.term n.0 p n.1; fits = λ p. by.fits n.0 p n.1 } in
    let room : NackRoom = record { nack = c.args.nack; call = call; below = c.in_ok-below.below } in
    room_made m room es g new asked n.0 made c.requires st
    (c.in_ok-below.ensures ∙ ap (λ hs. hs ++ plain_held (entry.Force new false) ∷ []) c.in_ok-others.ensures)
