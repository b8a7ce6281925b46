use Rattle.std.proofs.Common.{rules, ◌≡◌, Err, [], ap, inl, inr, refl, subst}
use Rattle.cml_host.specs.Exploring.{StopsShowing}
use Rattle.cml_host.specs.Replies.{passage, plain_reply}
use Rattle.cml_host.specs.declared.explain.Halt.{Halt}
use Rattle.cml_host.specs.declared.refusal.Refusal.TheVariants.{Memory}
use Rattle.cml_host.proofs.explore.explore_program.Goals as goal

pub returns-in_err-told_made-in-Ok-clause-told : goal.returns-in_err-told_made-in-Ok-clause-told
returns-in_err-told_made-in-Ok-clause-told g c =
    let is : c.from_residual.result ≡ Err Memory = search rules in
    (c.in-Ok.ensures.ok.0, inl (c.in-Ok.ensures.ok.1, inr (ap (plain_reply []) is)))

pub returns-in_ok-told_made-in-Ok-clause-told : goal.returns-in_ok-told_made-in-Ok-clause-told
returns-in_ok-told_made-in-Ok-clause-told g c = (
  c.in-Ok.ensures.ok.0,
  inl (c.in-Ok.ensures.ok.1, inl (c.args.asked.now, c.requires.asks, c.requires.beside, (c.in-Ok.made, c.in-Ok.ensures.made, c.in_ok-told_made-in-Ok.ensures))),
)

pub returns-in-Err-Memory-clause-told : goal.returns-in-Err-Memory-clause-told
returns-in-Err-Memory-clause-told g c =
    let errors = passage g.E.Write.contents c.args.err.now c.explored.new.err in
    let stops = subst (λ (w : Halt). StopsShowing c.args.shows w errors) c.in-Err-Memory.field-0-is c.in-Err-Memory.ensures.err in
    (stops.0, inl (stops.1, inr refl))

pub returns-in-Err-Write-clause-told : goal.returns-in-Err-Write-clause-told
returns-in-Err-Write-clause-told g c =
    let errors = passage g.E.Write.contents c.args.err.now c.explored.new.err in
    let stops = subst (λ (w : Halt). StopsShowing c.args.shows w errors) c.in-Err-Write.field-0-is c.in-Err-Write.ensures.err in
    (stops.0, inr (stops.1, refl))
