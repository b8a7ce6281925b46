use Rattle.std.proofs.Common.{rules, List, ℕ, IfOk, OnErr, [], subst}
use Rattle.cml_stream.specs.Streams.{stream, IsSpent, Supplies}
use Rattle.cml_stepper.specs.Steppers.{places_known}
use Rattle.cml_host.specs.Stepped.{IsTurnTaken, TalkIsCut}
use Rattle.cml_host.proofs.TalkLemmas.{lost_cut, nothing_came, one_came}
use Rattle.cml_host.proofs.step.take_turn.Goals as goal

pub returns-in-Ok-eq0-clause-ok : goal.returns-in-Ok-eq0-clause-ok
returns-in-Ok-eq0-clause-ok g c =
    let s = places_known c.args.stepper.now in
    let given = stream (g.I.Read.remaining c.args.input.now.stream.now) (g.I.Read.remaining c.read.new.self.stream.now) in
    let output = stream (g.O.Write.contents c.args.out.now.stream.now) (g.O.Write.contents c.finish.new.out.stream.now) in
    let came : Supplies given [] = search rules in
    let spent : IsSpent given = search rules in
    subst (λ (bs : List ℕ). IfOk c.finish.result (λ over. IsTurnTaken s c.args.hub.now bs over bs c.finish.new.hub given output)) c.as_slice.ensures.value (c.finish.ensures.ok given came spent)

pub returns-in-Ok-eq0-clause-err : goal.returns-in-Ok-eq0-clause-err
returns-in-Ok-eq0-clause-err g c =
    let s = places_known c.args.stepper.now in
    let given = stream (g.I.Read.remaining c.args.input.now.stream.now) (g.I.Read.remaining c.read.new.self.stream.now) in
    let output = stream (g.O.Write.contents c.args.out.now.stream.now) (g.O.Write.contents c.finish.new.out.stream.now) in
    lost_cut c.finish.result s c.args.hub.now c.args.typed.now.items given output c.finish.new.out.failed c.finish.ensures.failed
    (subst (λ (bs : List ℕ). OnErr c.finish.result (TalkIsCut s c.args.hub.now bs given output)) c.as_slice.ensures.value (c.finish.ensures.err given (search rules)))

pub returns-in-Ok-clause-ok : goal.returns-in-Ok-clause-ok
returns-in-Ok-clause-ok g c =
    let given = stream (g.I.Read.remaining c.args.input.now.stream.now) (g.I.Read.remaining c.read.new.self.stream.now) in
    c.type_byte.ensures.ok given (one_came _ _ _ _ _ (search rules) (search rules) (search rules) (search rules) c.in-Ok.ensures.bytes.0)

pub returns-in-Ok-clause-err : goal.returns-in-Ok-clause-err
returns-in-Ok-clause-err g c =
    let given = stream (g.I.Read.remaining c.args.input.now.stream.now) (g.I.Read.remaining c.read.new.self.stream.now) in
    let output = stream (g.O.Write.contents c.args.out.now.stream.now) (g.O.Write.contents c.type_byte.new.out.stream.now) in
    lost_cut c.type_byte.result (places_known c.args.stepper.now) c.args.hub.now c.args.typed.now.items given output c.type_byte.new.out.failed c.type_byte.ensures.failed
    (c.type_byte.ensures.err given (one_came _ _ _ _ _ (search rules) (search rules) (search rules) (search rules) c.in-Ok.ensures.bytes.0))

pub returns-then-eq-clause-ok : goal.returns-then-eq-clause-ok
returns-then-eq-clause-ok g c = nothing_came (places_known c.args.stepper.now) c.args.hub.now c.args.typed.now.items _ _ _ c.in-Err.ensures.bytes
