-- A slice that a machine ran.
use Rattle.std.proofs.Common.{◌≡◌, ◌≤◌, ℕ, List, true, refl, subst, Result, Ok, Err}
use Rattle.std.specs.Prelude.{IfOk, OnOk}
use Rattle.cml_check.specs.Syntax.{PlainItem}
use Rattle.cml_check.specs.InOrder.{arities}
use Rattle.cml_step.specs.declared.ask.Ask.{Ask}
use Rattle.cml_step.specs.Agrees.{ask_agrees}
use Rattle.cml_step.specs.Answers as await
use Rattle.cml_step.specs.Answers.{top_await, await_of, IsShort}
use Rattle.cml_step.specs.AskViews.{plain_ask}
use Rattle.cml_step.specs.Calls.{text_of}
use Rattle.cml_step.specs.Machines.{PlainHeld, PlainMachine, machine_term, Fits}
use Rattle.cml_step.specs.Rans.{IsSlice}
use Rattle.cml_step.specs.Slices.{max_steps, sliced}
use Rattle.cml_step.specs.Stacks.{StackFits, term_of}
use Rattle.cml_step.proofs.AwaitLemmas.{sliced_waits}
use Rattle.cml_step.proofs.ShortLemmas.{sliced_short, short_few}
use Rattle.cml_step.proofs.SliceLemmas.{slice_counts}

-- the machine's stack has become this one
pub slice_made : {E : Type 0} (p : List (PlainItem ℕ)) (m : PlainMachine) (es : List PlainHeld) (r : Result ℕ E) (a : Ask) → Fits p m → top_await (machine_term p m) ≡ await.nothing →
    IfOk r (λ n. sliced (text_of p) m.thread (machine_term p m) ≡ record { ask = plain_ask a; end = term_of p es; steps = n }) →
    OnOk r (StackFits p es) → OnOk r (ask_agrees (arities p) (plain_ask a) ≡ true) →
    IfOk r (λ n. IsSlice (record { program = p; start = m; end = record { thread = m.thread; stack = es }; ask = plain_ask a; steps = n }))
slice_made p m es (Err e) a fits waits meant held agrees = tt
slice_made p m es (Ok n) a fits waits meant held agrees =
    let counts = slice_counts (text_of p) m.thread 999 0 (machine_term p m) in
    record {
      meant = meant;
      some = subst (λ s. 1 ≤ s.steps) meant counts.0;
      few = subst (λ s. s.steps ≤ max_steps) meant counts.1;
      thread = refl;
      fits = record {
        order = fits.order;
        stack = held;
        short = subst (λ s. IsShort s.end) meant (sliced_short (text_of p) m.thread max_steps 0 (machine_term p m) waits (short_few (machine_term p m) fits.short));
      };
      awaits = subst (λ s. top_await s.end ≡ await_of s.ask) meant (sliced_waits (text_of p) m.thread max_steps 0 (machine_term p m) waits);
      agrees = agrees;
    }
