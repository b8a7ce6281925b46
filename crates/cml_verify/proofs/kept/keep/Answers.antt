use Rattle.std.proofs.Common.{ap, sym, ◌∙◌}
use Rattle.cml_hub.specs.Runs.{terminal}
use Rattle.std.specs.Prelude.{option_map}
use Rattle.cml_verify.specs.Digests.{digest_at, printed_mixed}
use Rattle.cml_verify.proofs.kept.keep.Goals as goal

pub returns : goal.returns
returns c = record {
  world = c.in_ok-world.ensures ∙ c.book.ensures;
  machines = c.in_ok-machines.ensures;
  began = c.in_ok-began.ensures;
  faults = c.faults-faults.ensures;
  printed = c.in_ok-printed.ensures;
}

pub invariant_of-kept : goal.invariant_of-kept
invariant_of-kept c = (
  c.is_quiet-ends.ensures ∙ ap terminal (sym (c.in_ok-world.ensures ∙ c.book.ensures)),
  c.with_printed-digest.ensures
      ∙ ap (λ d. printed_mixed d (option_map (λ bytes. bytes.items) c.in_ok-printed.printed)) (c.digest_of.ensures ∙ ap (digest_at c.in_ok-world.world) c.as_slice.ensures.value),
)
