use Rattle.std.proofs.Common.{rules, ◌≡◌, ◌∙◌, Err, List, ℕ, true, inl, inr, refl, subst}
use Rattle.std.proofs.lemmas.Result.{IfOk-weaker}
use Rattle.cml_check.specs.Syntax.{PlainItem}
use Rattle.cml_explore.specs.declared.shrink.replay.Asked.{Asked}
use Rattle.cml_host.specs.Plans.{AreNotBoth}
use Rattle.cml_host.specs.Refused.{RefusesAs}
use Rattle.cml_host.specs.Replies.{plain_of}
use Rattle.cml_host.specs.Shrunk.{GivesShorter, IsNotShorter, IsUnshrunk}
use Rattle.cml_host.specs.Stores.{Content}
use Rattle.cml_host.specs.Wanted.{AreWanted, IsUnwanted, alone}
use Rattle.cml_host.proofs.BehindLemmas.{store_from}
use Rattle.cml_host.proofs.RefusedLemmas.{err_as, wrong_on}
use Rattle.cml_host.proofs.shrink.shrink_file.Goals as goal

pub returns-in_err-both-clause-err : goal.returns-in_err-both-clause-err
returns-in_err-both-clause-err g c =
    let options = c.args.options.now in
    let held = g.S.Store.holds c.args.store.now in
    let why = c.in_err-both.field-0.0 in
    let is : c.from_residual.result ≡ Err why = search rules in
    wrong_on (AreNotBoth options.script.now options.schedule.now held) (IsUnshrunk options held) (λ told status none. inl none) c.from_residual.result why is c.in_err-both.ensures.err

pub returns-in_err-properties-clause-err : goal.returns-in_err-properties-clause-err
returns-in_err-properties-clause-err g c =
    let options = c.args.options.now in
    let held = g.S.Store.holds c.args.store.now in
    let why = c.in_err-properties.field-0.0 in
    let is : c.from_residual-in_err-properties.result ≡ Err why = search rules in
    wrong_on (IsUnwanted true options.properties held) (IsUnshrunk options held) (λ told status none. inr (inl none)) c.from_residual-in_err-properties.result why is
    (store_from (λ (h : List ℕ → Content). RefusesAs (IsUnwanted true options.properties h) why) held (g.S.Store.holds c.open_both.new.store) c.in_ok-both.ensures.same c.in_err-properties.ensures.err)

pub returns-in_err-properties-clause-same : goal.returns-in_err-properties-clause-same
returns-in_err-properties-clause-same g c = λ name. c.find_properties.ensures.same name ∙ c.open_both.ensures.same name

pub returns-clause-same : goal.returns-clause-same
returns-clause-same g c = λ name. c.find_properties.ensures.same name ∙ c.open_both.ensures.same name

pub returns-clause-ok : goal.returns-clause-ok
returns-clause-ok g c =
    let options = c.args.options.now in
    let both = c.in_ok-both.both in
    let are = c.in_ok-both.ensures.ok in
    let wanted = c.in_ok-properties.properties.items in
    let asked : Asked = record { budget = c.budget_of.result; tries = options.tries; properties = c.as_slice.result; stops = options.stop } in
    let found = store_from (λ (h : List ℕ → Content). AreWanted options.properties alone h wanted) (g.S.Store.holds c.args.store.now) (g.S.Store.holds c.open_both.new.store)
    c.in_ok-both.ensures.same c.in_ok-properties.ensures.ok in
    IfOk-weaker c.shrink_plan.result _ _
    (λ told shorter. (
      are.0,
      both.plan,
      are.2,
      (
        wanted,
        found,
        (
          asked,
          record { budget = c.budget_of.ensures.same; tries = refl; wanted = c.as_slice.ensures.value; stops = refl },
          subst (λ (p : List (PlainItem _)). GivesShorter p asked both.plan (plain_of told)) are.1 shorter,
        ),
      ),
    )) c.shrink_plan.ensures.ok

pub returns-clause-err : goal.returns-clause-err
returns-clause-err g c =
    let options = c.args.options.now in
    let held = g.S.Store.holds c.args.store.now in
    let both = c.in_ok-both.both in
    let are = c.in_ok-both.ensures.ok in
    let wanted = c.in_ok-properties.properties.items in
    let asked : Asked = record { budget = c.budget_of.result; tries = options.tries; properties = c.as_slice.result; stops = options.stop } in
    let found = store_from (λ (h : List ℕ → Content). AreWanted options.properties alone h wanted) held (g.S.Store.holds c.open_both.new.store)
    c.in_ok-both.ensures.same c.in_ok-properties.ensures.ok in
    err_as (IsNotShorter both.program asked both.plan) (IsUnshrunk options held)
    (λ told status bad. inr (inr (
      are.0,
      both.plan,
      are.2,
      (
        wanted,
        found,
        (
          asked,
          record { budget = c.budget_of.ensures.same; tries = refl; wanted = c.as_slice.ensures.value; stops = refl },
          subst (λ (p : List (PlainItem _)). IsNotShorter p asked both.plan told status) are.1 bad,
        ),
      ),
    ))) c.shrink_plan.result c.shrink_plan.ensures.err
