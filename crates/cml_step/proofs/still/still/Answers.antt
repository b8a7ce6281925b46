use Rattle.std.proofs.Common.{◌≡◌, ◌+◌, ◌<◌, ◌++◌, ◌∷◌, [], ℕ, Option, refl, ap, sym, ◌∙◌, subst, arith}
use Rattle.cml_step.specs.declared.call.Call.{Call}
use Rattle.cml_step.specs.declared.entry.Entry.{Entry}
use Rattle.cml_step.specs.declared.entry.Entry.TheVariants as entry
use Rattle.cml_step.specs.declared.journal.Journal.{Journal}
use Rattle.cml_step.specs.Calls.{text_of}
use Rattle.cml_step.specs.Machines.{PlainHeld, plain_held}
use Rattle.cml_step.specs.Shared.{topped, called}
use Rattle.cml_step.specs.Slices.{GoesIn, sliced_from}
use Rattle.cml_step.specs.Stacks.{StackFits, term_of}
use Rattle.cml_step.specs.Terms.{Term}
use Rattle.cml_step.specs.Undone.{stood, stack_before, wrapped}
use Rattle.cml_step.proofs.SliceLemmas.{slice_then_asks}
use Rattle.cml_step.proofs.UndoLemmas.{kept_before}
use Rattle.cml_step.proofs.still.still.Goals as goal

pub still_steps-requires-clause-fits : goal.still_steps-requires-clause-fits
still_steps-requires-clause-fits c =
    let s = c.stack.inside in
    let st : c.args.stack.now ≡ stood s.below c.in-Some.call s.over = sym c.stack.view_is ∙ ap (λ (o : Option Call). topped (called s.below o) s.over) c.in-Some.is in
    subst (StackFits c.args.program.now) st c.requires.fits

pub returns-then-asks_over-clause-begun : goal.returns-then-asks_over-clause-begun
returns-then-asks_over-clause-begun c =
    let p = c.args.program.now in
    let s = c.stack.inside in
    let hs = s.below in
    let k = c.in-Some.call in
    let d = c.still_steps.new.call in
    let o = c.asks_over.new.over in
    let by = c.in-Some-still_steps.ensures in
    let on = c.if-asks_over.true in
    let all = hs ++ plain_held (entry.Call d) ∷ [] in
    let stands = c.asks_over.ensures.fits on p all by.fits in
    let free = c.asks_over.ensures.no_call (c.still_steps.ensures.no_call c.stack.invariant.2) in
    let st : c.args.stack.now ≡ stood hs k s.over = sym c.stack.view_is ∙ ap (λ (o : Option Call). topped (called hs o) s.over) c.in-Some.is in
    let lower : c.in-Some-still_steps.done < c.args.most = omega (arith, c.in-Some-still_steps.ensures.within, c.if-done-most.false) in
    record {
      noted = record { below = hs; top = d; over = o; no_call = free; now_is = refl; before_is = st ∙ sym by.undone };
      agrees = stands.1;
      something = c.asks_over.ensures.something on;
      fits = stands.0;
      within = (omega arith, omega (arith, lower));
      meant = λ self. ap (λ ks. sliced_from (text_of p) self c.args.most 0 (term_of p ks)) st
          ∙ slice_then_asks (text_of p) self c.args.most c.in-Some-still_steps.done (term_of p (stood hs k s.over))
          (term_of p (stood hs d c.still_steps.new.over)) (term_of p (stood hs d o)) c.asks_over.new.asked
          (by.goes self) lower (c.asks_over.ensures.asks on p self all) (c.asks_over.ensures.something on);
    }

pub asks_call-requires : goal.asks_call-requires
asks_call-requires c =
    let same = ap (stood c.stack.inside.below c.still_steps.new.call) (c.asks_over.ensures.stays c.if-asks_over.false).0 in
    subst (StackFits c.args.program.now) (sym same) c.in-Some-still_steps.ensures.fits

pub returns-then-asks_call-clause-begun : goal.returns-then-asks_call-clause-begun
returns-then-asks_call-clause-begun c =
    let p = c.args.program.now in
    let s = c.stack.inside in
    let hs = s.below in
    let k = c.in-Some.call in
    let d = c.still_steps.new.call in
    let e = c.asks_call.new.call in
    let o = c.asks_over.new.over in
    let n = c.in-Some-still_steps.done in
    let by = c.in-Some-still_steps.ensures in
    let a = c.asks_call.ensures in
    let on = c.if-asks_call.true in
    let j = c.still_steps.new.journal in
    let same : stood hs d o ≡ stood hs d c.still_steps.new.over = ap (stood hs d) (c.asks_over.ensures.stays c.if-asks_over.false).0 in
    let st : c.args.stack.now ≡ stood hs k s.over = sym c.stack.view_is ∙ ap (λ (o : Option Call). topped (called hs o) s.over) c.in-Some.is in
    let lower : c.in-Some-still_steps.done < c.args.most = omega (arith, c.in-Some-still_steps.ensures.within, c.if-done-most.false) in
    record {
      noted = record {
        below = hs;
        top = e;
        over = o;
        no_call = c.asks_over.ensures.no_call (c.still_steps.ensures.no_call c.stack.invariant.2);
        now_is = refl;
        before_is = st ∙ sym by.undone ∙ ap (λ (h : PlainHeld). topped (hs ++ h ∷ []) (wrapped j.over)) (sym (kept_before j d e a.kept.0 (ap (λ vs. vs.items) a.kept.1)));
      };
      agrees = a.agrees on;
      something = a.something on;
      fits = a.fits on;
      within = (omega arith, omega (arith, lower));
      meant = λ self. ap (λ ks. sliced_from (text_of p) self c.args.most 0 (term_of p ks)) st
          ∙ slice_then_asks (text_of p) self c.args.most n (term_of p (stood hs k s.over)) (term_of p (stood hs d o)) (term_of p (stood hs e o)) c.asks_call.new.asked
          (subst (λ (t : Term). GoesIn (text_of p) self n (term_of p (stood hs k s.over)) t) (ap (term_of p) (sym same)) (by.goes self))
          lower (a.asks on self) (a.something on);
    }

pub returns-then-done-most-clause-begun : goal.returns-then-done-most-clause-begun
returns-then-done-most-clause-begun c =
    let p = c.args.program.now in
    let s = c.stack.inside in
    let hs = s.below in
    let k = c.in-Some.call in
    let d = c.still_steps.new.call in
    let o = c.still_steps.new.over in
    let by = c.in-Some-still_steps.ensures in
    let st : c.args.stack.now ≡ stood hs k s.over = sym c.stack.view_is ∙ ap (λ (o : Option Call). topped (called hs o) s.over) c.in-Some.is in
    record {
      noted = record { below = hs; top = d; over = o; no_call = c.still_steps.ensures.no_call c.stack.invariant.2; now_is = refl; before_is = st ∙ sym by.undone };
      asks = c.requires.nothing;
      fits = by.fits;
      within = by.within;
      goes = λ self.
          subst (λ (t : Term). GoesIn (text_of p) self c.in-Some-still_steps.done t (term_of p (stood hs d o))) (ap (term_of p) (sym st)) (by.goes self);
    }

pub returns-clause-begun : goal.returns-clause-begun
returns-clause-begun c =
    let p = c.args.program.now in
    let s = c.stack.inside in
    let hs = s.below in
    let k = c.in-Some.call in
    let d = c.still_steps.new.call in
    let e = c.asks_call.new.call in
    let o = c.asks_over.new.over in
    let n = c.in-Some-still_steps.done in
    let j = c.still_steps.new.journal in
    let by = c.in-Some-still_steps.ensures in
    let stays = c.asks_over.ensures.stays c.if-asks_over.false in
    let kept = c.asks_call.ensures.stays c.if-asks_call.false in
    let st : c.args.stack.now ≡ stood hs k s.over = sym c.stack.view_is ∙ ap (λ (o : Option Call). topped (called hs o) s.over) c.in-Some.is in
    let same : stood hs e o ≡ stood hs d c.still_steps.new.over = ap (λ (x : Call). stood hs x o) kept.0 ∙ ap (stood hs d) stays.0 in
    record {
      noted = record {
        below = hs;
        top = e;
        over = o;
        no_call = c.asks_over.ensures.no_call (c.still_steps.ensures.no_call c.stack.invariant.2);
        now_is = refl;
        before_is = st ∙ sym by.undone ∙ ap (stack_before hs j) (sym kept.0);
      };
      asks = kept.1 ∙ stays.1 ∙ c.requires.nothing;
      fits = subst (StackFits p) (sym same) by.fits;
      within = by.within;
      goes = λ self.
          subst (λ (t : Term). GoesIn (text_of p) self n t (term_of p (stood hs e o))) (ap (term_of p) (sym st))
          (subst (λ (t : Term). GoesIn (text_of p) self n (term_of p (stood hs k s.over)) t) (ap (term_of p) (sym same)) (by.goes self));
    }
