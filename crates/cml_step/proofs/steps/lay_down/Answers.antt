use Rattle.std.proofs.Common.{◌≡◌, ◌∷◌, ◌++◌, [], ◌∙◌, List, reverse, ap, sym, subst}
use Rattle.cml_step.specs.declared.call.Call.{Call}
use Rattle.cml_step.specs.declared.entry.Entry.TheVariants as entry
use Rattle.cml_step.specs.Callers.{calls_on, AllCallsFit}
use Rattle.cml_step.specs.Machines.{PlainHeld, plain_held}
use Rattle.cml_step.specs.Stacks.{EachBeneath, term_of}
use Rattle.cml_step.proofs.QuickLemmas.{laid_term, laid_fits}
use Rattle.cml_step.proofs.steps.lay_down.Goals as goal

pub loop-call-preserved : goal.loop-call-preserved
loop-call-preserved c =
    let left = c.pop.new.self.items in
    let call = c.in-Some.call in
    let hs = c.loop-call.below in
    let more : c.in_ok-more.more ≡ hs ++ plain_held (entry.Call call) ∷ [] = c.in_ok-more.ensures ∙ ap (λ all. all ++ plain_held (entry.Call call) ∷ []) c.replace-all.ensures.value in
    record {
      term = λ p.
          ap (λ all. calls_on p (reverse left) (term_of p all)) more
          ∙ sym (laid_term p left call hs)
          ∙ ap (λ cs. calls_on p (reverse cs) (term_of p hs)) (sym c.in-Some.ensures.items)
          ∙ c.loop-call.invariant.term p;
      fits = λ p beneath fit.
          subst (λ (all : List PlainHeld). EachBeneath p all × AllCallsFit p (reverse left)) (sym more)
          (laid_fits p left call hs (subst (λ (cs : List Call). EachBeneath p hs × AllCallsFit p (reverse cs)) c.in-Some.ensures.items (c.loop-call.invariant.fits p beneath fit)));
    }

pub returns-clause-fits : goal.returns-clause-fits
returns-clause-fits c = λ p beneath fit. (c.loop-call.invariant.fits p beneath fit).0
