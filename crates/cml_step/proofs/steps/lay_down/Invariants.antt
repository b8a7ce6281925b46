use Rattle.std.proofs.Common.{◌≡◌, ℕ, List, reverse, vec_len}
use Rattle.cml_check.specs.Syntax.{PlainItem}
use Rattle.cml_step.specs.Callers.{calls_on, AllCallsFit}
use Rattle.cml_step.specs.Stacks.{EachBeneath, term_of}
use Rattle.cml_step.proofs.steps.lay_down.Given as goal

-- those that are left stand in reverse
abbrev pub invariant-loop-call : goal.invariant-loop-call
invariant-loop-call l = record {
  term : (p : List (PlainItem ℕ)) → calls_on p (reverse l.left.items) (term_of p l.below) ≡ calls_on p l.fn.calls.items (term_of p l.fn.below);
  fits : (p : List (PlainItem ℕ)) → EachBeneath p l.fn.below → AllCallsFit p l.fn.calls.items → EachBeneath p l.below × AllCallsFit p (reverse l.left.items);
}

abbrev pub decreases-loop-call : goal.decreases-loop-call
decreases-loop-call l = vec_len l.left
