use Rattle.std.proofs.Common.{◌≡◌, ◌∙◌, Bor, List, ℕ, None, ap, inr, map, refl, subst}
use Rattle.cml_host.specs.Closed.{plain_asked}
use Rattle.cml_host.specs.Refused.{RefusesAs}
use Rattle.cml_host.specs.Replies.{passage}
use Rattle.cml_host.specs.Scripts.{plain_script}
use Rattle.cml_host.specs.Servers.{IsNoFunction, first_unknown, server_numbers}
use Rattle.cml_host.specs.Stores.{Shelf}
use Rattle.cml_host.proofs.BehindLemmas.{refused_behind}
use Rattle.cml_host.proofs.ClosedLemmas.{replayed}
use Rattle.cml_host.proofs.replay.replay_script.Goals as goal

pub returns-in-Ok-clause-ran : goal.returns-in-Ok-clause-ran
returns-in-Ok-clause-ran g c =
    let s = plain_script c.args.script in
    let store : Shelf = record { before = g.S.Store.holds c.args.store.now; after = g.S.Store.holds c.replay_program.new.store } in
    replayed c.args.explains s c.args.wanted.items c.args.options.now c.in-Ok.servers.items (plain_asked c.ask-program.result.1) c.ask-program.result.0
    (g.S.Store.holds c.args.store.now c.args.options.now.schedule.now) (passage g.O.Write.contents c.args.out.now c.replay_program.new.out)
    (passage g.E.Write.contents c.args.err.now c.replay_program.new.err) store c.replay_program.result
    (subst (λ (ns : List (Bor (List ℕ))). first_unknown s (map (λ name. name.now) ns) ≡ None) c.as_slice.ensures.value c.in-Ok.ensures.known)
    (c.in-Ok.ensures.found ∙ ap (λ (ns : List (Bor (List ℕ))). server_numbers s (map (λ name. name.now) ns)) c.as_slice.ensures.value)
    c.ask-program.ensures.program c.ask-program.ensures.asked c.replay_program.ensures.ran

pub returns-in-Err-clause-ran : goal.returns-in-Err-clause-ran
returns-in-Err-clause-ran g c =
    let s = plain_script c.args.script in
    let wrong = subst (λ (ns : List (Bor (List ℕ))). RefusesAs (IsNoFunction s (map (λ name. name.now) ns)) c.in-Err.why) c.as_slice.ensures.value c.in-Err.ensures.err in
    inr (refused_behind _ c.in-Err.why _ _ _ _ _ _ wrong (λ name. refl) c.carry_out.ensures.carried)
