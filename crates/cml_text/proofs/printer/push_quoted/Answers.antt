use Rattle.std.proofs.Common.{rules, ◌∙◌, arith}
use Rattle.std.proofs.lemmas.Bool.Decides.{nat_tests}
use Rattle.cml_text.specs.Printed.{needs_no_escape}
use Rattle.cml_text.proofs.WordLemmas.{cut_before}
use Rattle.cml_text.proofs.PrintLemmas.{appended_run, run_needs_escape}
use Rattle.cml_text.proofs.printer.push_quoted.Goals as goal

pub split_at-requires : goal.split_at-requires
split_at-requires c = rw c.plain_len.ensures (rw c.as_bytes.ensures.value (cut_before needs_no_escape (λ b h. grind (arith, nat_tests)) c.loop-rest.rest.now))

pub push_first-requires : goal.push_first-requires
push_first-requires c some = run_needs_escape c.loop-rest.rest.now _ _ _ c.plain_len.ensures c.as_bytes.ensures.value c.split_at.ensures.back some

pub loop-rest-preserved : goal.loop-rest-preserved
loop-rest-preserved c = (
  search rules,
  c.in_ok-rest.ensures.appended
      ∙ appended_run _ _ c.loop-rest.rest.now _ _ _ _ c.plain_len.ensures c.as_bytes.ensures.value c.split_at.ensures.front c.split_at.ensures.back c.in_ok-push_str.ensures.bytes
      ∙ c.loop-rest.invariant.1,
)
