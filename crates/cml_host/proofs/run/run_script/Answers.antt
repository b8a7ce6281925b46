use Rattle.std.proofs.Common.{◌≡◌, ◌∙◌, Bor, List, ℕ, None, ap, inr, is_some, map, refl, subst}
use Rattle.cml_host.specs.Closed.{is_asked, plain_asked}
use Rattle.cml_host.specs.Refused.{RefusesAs}
use Rattle.cml_host.specs.Replies.{passage}
use Rattle.cml_host.specs.Running.{plain_saving}
use Rattle.cml_host.specs.Scripts.{plain_script}
use Rattle.cml_host.specs.Servers.{IsNoFunction, first_unknown, server_numbers}
use Rattle.cml_host.specs.Stores.{Shelf}
use Rattle.cml_host.proofs.BehindLemmas.{refused_behind}
use Rattle.cml_host.proofs.PictureLemmas.{saving_asked}
use Rattle.cml_host.proofs.RanLemmas.{opened_ran}
use Rattle.cml_host.proofs.run.run_script.Goals as goal

pub returns-in-Ok-clause-ran : goal.returns-in-Ok-clause-ran
returns-in-Ok-clause-ran g c =
    let output = passage g.O.Write.contents c.args.out.now c.run_so.new.out in
    let errors = passage g.E.Write.contents c.args.err.now c.run_so.new.err in
    let store : Shelf = record { before = g.S.Store.holds c.args.store.now; after = g.S.Store.holds c.run_so.new.store } in
    let s = plain_script c.args.script in
    let saving = plain_saving c.saving_for-saving.result in
    opened_ran c.args.explains s c.args.wanted.items c.args.options.now c.in-Ok.servers.items (plain_asked c.ask-program.result.1) saving c.ask-program.result.0 output errors store c.run_so.result
    (subst (λ (ns : List (Bor (List ℕ))). first_unknown s (map (λ name. name.now) ns) ≡ None) c.as_slice.ensures.value c.in-Ok.ensures.known)
    (c.in-Ok.ensures.found ∙ ap (λ (ns : List (Bor (List ℕ))). server_numbers s (map (λ name. name.now) ns)) c.as_slice.ensures.value)
    c.ask-program.ensures.program c.ask-program.ensures.asked
    (c.saving_for-saving.ensures
    ∙ saving_asked c.args.options.now c.args.explains c.is_some-draws.result (is_asked c.args.wanted.items) (is_some c.ask-program.result.1.subject) c.is_some-draws.ensures c.ask-program.ensures.kept)
    c.run_so.ensures.ran

pub returns-in-Err-clause-ran : goal.returns-in-Err-clause-ran
returns-in-Err-clause-ran g c =
    let s = plain_script c.args.script in
    let wrong = subst (λ (ns : List (Bor (List ℕ))). RefusesAs (IsNoFunction s (map (λ name. name.now) ns)) c.in-Err.why) c.as_slice.ensures.value c.in-Err.ensures.err in
    inr (refused_behind _ c.in-Err.why _ _ _ _ _ _ wrong (λ name. refl) c.carry_out.ensures.carried)
