use Rattle.std.proofs.Common.{ap, sym, ◌∙◌, subst, refl}
use Rattle.cml_step.specs.declared.entry.Entry.TheVariants as entry
use Rattle.cml_step.specs.declared.entry.Wraps.{Wraps}
use Rattle.cml_step.specs.Answers.{top_await, after_answer}
use Rattle.cml_step.specs.Asks.{a_commit}
use Rattle.cml_step.specs.Calls.{text_of}
use Rattle.cml_step.specs.Machines.{plain_held}
use Rattle.cml_step.specs.Shared.{topped, called}
use Rattle.cml_step.specs.Stacks.{StackFits, term_of}
use Rattle.cml_step.proofs.AnswerLemmas.{commit_in_place, commit_given, commit_given_fits}
use Rattle.cml_step.proofs.StackLemmas.{term_pushed}
use Rattle.cml_step.proofs.machine.give_commit.Goals as goal

pub returns-clause-term : goal.returns-clause-term
returns-clause-term c p =
    let s = c.stack.inside in
    let hs = called s.below s.call in
    let w : Wraps = record { left = c.reverse.new.self; value = c.args.value } in
    let r = commit_in_place c.requires.0 s.below s.call s.over c.stack.invariant.0 (ap (λ es. top_await (term_of c.requires.0 es)) c.stack.view_is ∙ c.requires.1) in
    commit_given p hs r.0 r.1 w c.args.wraps.items c.args.value c.reverse.ensures.items refl
    ∙ ap (after_answer (text_of p) (a_commit c.args.value c.args.wraps.items))
    (sym (ap (term_of p) (sym c.stack.view_is) ∙ ap (λ o. term_of p (topped hs o)) r.2 ∙ term_pushed p hs (plain_held (entry.Force r.0 r.1))))

pub returns-clause-fits : goal.returns-clause-fits
returns-clause-fits c p h g =
    let s = c.stack.inside in
    let hs = called s.below s.call in
    let w : Wraps = record { left = c.reverse.new.self; value = c.args.value } in
    let r = commit_in_place c.requires.0 s.below s.call s.over c.stack.invariant.0 (ap (λ es. top_await (term_of c.requires.0 es)) c.stack.view_is ∙ c.requires.1) in
    commit_given_fits p hs (entry.Force r.0 r.1) w c.args.wraps.items c.args.value (subst (StackFits p) (sym c.stack.view_is ∙ ap (topped hs) r.2) h) g c.reverse.ensures.items refl
