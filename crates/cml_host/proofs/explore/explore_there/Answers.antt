use Rattle.std.proofs.Common.{◌∙◌, List, [], ℕ, inl, inr, refl}
use Rattle.cml_host.specs.Exploring.{WantedExplored}
use Rattle.cml_host.specs.Replies.{passage, plain_reply}
use Rattle.cml_host.specs.Scripts.{plain_script}
use Rattle.cml_host.specs.Stores.{Content}
use Rattle.cml_host.proofs.BehindLemmas.{refusal_of, store_from}
use Rattle.cml_host.proofs.explore.explore_there.Goals as goal

pub returns-in-Ok-clause-told : goal.returns-in-Ok-clause-told
returns-in-Ok-clause-told g c =
    let s = plain_script c.in-Ok.script in
    let options = c.args.options.now in
    let errors = passage g.E.Write.contents c.args.err.now c.explore_wanted.new.err in
    inl (
      s,
      c.in-Ok.ensures.ok,
      store_from (λ (held : List ℕ → Content). WantedExplored options c.args.shows s held errors (plain_reply [] c.explore_wanted.result))
          (g.S.Store.holds c.args.store.now) (g.S.Store.holds c.open_script.new.store) c.open_script.ensures.same c.explore_wanted.ensures.told,
    )

pub returns-in-Ok-clause-same : goal.returns-in-Ok-clause-same
returns-in-Ok-clause-same g c = λ name. c.explore_wanted.ensures.same name ∙ c.open_script.ensures.same name

pub returns-in-Err-clause-told : goal.returns-in-Err-clause-told
returns-in-Err-clause-told g c = inr (refusal_of _ c.in-Err.why c.in-Err.ensures.err, refl)
