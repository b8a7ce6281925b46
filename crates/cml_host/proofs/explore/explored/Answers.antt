use Rattle.std.proofs.Common.{rules, ◌≡◌, ◌∙◌, Err, ap, subst}
use Rattle.cml_stream.specs.Counts.{counted}
use Rattle.cml_host.specs.Exploring.{StopsShowing}
use Rattle.cml_host.specs.Replies.{passage}
use Rattle.cml_host.specs.declared.explain.Halt.{Halt}
use Rattle.cml_host.specs.declared.explain.Halt.TheVariants.{Memory, Write}
use Rattle.cml_host.proofs.ExploringLemmas.{shows_on}
use Rattle.cml_host.proofs.WriteLemmas.{if_err}
use Rattle.cml_host.proofs.explore.explored.Goals as goal

pub returns-in_err-erase-in-Ok-clause-err : goal.returns-in_err-erase-in-Ok-clause-err
returns-in_err-erase-in-Ok-clause-err g c =
    let is : c.from_residual.result ≡ Err Write = search rules in
    let broke : c.erase.new.err.failed ≡ counted c.make_runs.new.err.failed = search rules in
    if_err c.from_residual.result Write _ is (
      shows_on c.args.shows (g.E.Write.contents c.args.err.now.stream.now) (g.E.Write.contents c.make_runs.new.err.stream.now) (g.E.Write.contents c.erase.new.err.stream.now)
          c.in-Ok.ensures.ok.0 c.erase.ensures.shows,
      broke ∙ ap counted c.in-Ok.ensures.ok.1,
    )

pub returns-in_ok-erase-in-Ok-clause-ok : goal.returns-in_ok-erase-in-Ok-clause-ok
returns-in_ok-erase-in-Ok-clause-ok g c = (
  shows_on c.args.shows (g.E.Write.contents c.args.err.now.stream.now) (g.E.Write.contents c.make_runs.new.err.stream.now) (g.E.Write.contents c.erase.new.err.stream.now)
      c.in-Ok.ensures.ok.0 c.erase.ensures.shows,
  c.in_ok-erase-in-Ok.ensures.ok ∙ c.in-Ok.ensures.ok.1,
)

pub returns-in_err-erase-in-Err-Memory-clause-err : goal.returns-in_err-erase-in-Err-Memory-clause-err
returns-in_err-erase-in-Err-Memory-clause-err g c =
    let a = g.E.Write.contents c.args.err.now.stream.now in
    let b = g.E.Write.contents c.make_runs.new.err.stream.now in
    let errors = passage g.E.Write.contents c.args.err.now c.make_runs.new.err in
    let stops : StopsShowing c.args.shows Memory errors =
    subst (λ (w : Halt). StopsShowing c.args.shows w errors) c.in-Err-Memory.field-0-is c.in-Err-Memory.ensures.err in
    let is : c.from_residual-in_err-erase-in-Err-Memory.result ≡ Err Write = search rules in
    let broke : c.erase-in-Err-Memory.new.err.failed ≡ counted c.make_runs.new.err.failed = search rules in
    if_err c.from_residual-in_err-erase-in-Err-Memory.result Write _ is (
      shows_on c.args.shows a b (g.E.Write.contents c.erase-in-Err-Memory.new.err.stream.now) stops.0 c.erase-in-Err-Memory.ensures.shows,
      broke ∙ ap counted stops.1,
    )

pub returns-in_ok-erase-in-Err-Memory-clause-err : goal.returns-in_ok-erase-in-Err-Memory-clause-err
returns-in_ok-erase-in-Err-Memory-clause-err g c =
    let a = g.E.Write.contents c.args.err.now.stream.now in
    let b = g.E.Write.contents c.make_runs.new.err.stream.now in
    let errors = passage g.E.Write.contents c.args.err.now c.make_runs.new.err in
    let stops : StopsShowing c.args.shows Memory errors =
    subst (λ (w : Halt). StopsShowing c.args.shows w errors) c.in-Err-Memory.field-0-is c.in-Err-Memory.ensures.err in (
      shows_on c.args.shows a b (g.E.Write.contents c.erase-in-Err-Memory.new.err.stream.now) stops.0 c.erase-in-Err-Memory.ensures.shows,
      c.in_ok-erase-in-Err-Memory.ensures.ok ∙ stops.1,
    )
