use Rattle.std.proofs.Common.{◌≡◌, ◌∙◌, ◌++◌, false, get_or, rules, arith, ap}
use Rattle.std.proofs.lemmas.Bool.Decides.{nat_tests}
use Rattle.std.specs.String.{string_bytes}
use Rattle.cml_text.specs.Lexemes.{is_plain}
use Rattle.cml_text.proofs.WordLemmas.{cut_before}
use Rattle.cml_text.proofs.LiteralLemmas.{UpTo, up_to_start, up_to_run, up_to_escape, run_stops, endless_from, no_escape_from, closed_from, literal_end, literal_lone, unescaped_low}
use Rattle.cml_text.proofs.word.read_quoted.Goals as goal

pub loop-rest-init : goal.loop-rest-init
loop-rest-init c = (c.utf8.text, up_to_start _ _ c.new-content.ensures.bytes)

pub split_at-requires : goal.split_at-requires
split_at-requires c = rw c.plain_len.ensures (rw c.as_bytes.ensures.value (cut_before is_plain (λ b h. grind (arith, nat_tests)) c.loop-rest.rest.now))

pub returns-then-is_empty : goal.returns-then-is_empty
returns-then-is_empty c =
    let up : UpTo c.args.text.now (string_bytes c.push_str.new.self) c.split_at.result.1.now =
    up_to_run _ _ _ _ _ _ _ c.plain_len.result c.loop-rest.invariant.1 c.in_ok-push_str.ensures.bytes c.split_at.ensures.front c.split_at.ensures.back c.plain_len.ensures c.as_bytes.ensures.value in
    endless_from _ _ _ up (literal_end _ (search rules))

pub returns-then-as_bytes-eq34 : goal.returns-then-as_bytes-eq34
returns-then-as_bytes-eq34 c =
    let up : UpTo c.args.text.now (string_bytes c.push_str.new.self) c.split_at.result.1.now =
    up_to_run _ _ _ _ _ _ _ c.plain_len.result c.loop-rest.invariant.1 c.in_ok-push_str.ensures.bytes c.split_at.ensures.front c.split_at.ensures.back c.plain_len.ensures c.as_bytes.ensures.value in
    closed_from _ _ _ _ up (search rules) (search rules) c.past_ascii-rest.ensures

pub returns-then-special-eq1 : goal.returns-then-special-eq1
returns-then-special-eq1 c =
    let up : UpTo c.args.text.now (string_bytes c.push_str.new.self) c.split_at.result.1.now =
    up_to_run _ _ _ _ _ _ _ c.plain_len.result c.loop-rest.invariant.1 c.in_ok-push_str.ensures.bytes c.split_at.ensures.front c.split_at.ensures.back c.plain_len.ensures c.as_bytes.ensures.value in
    endless_from _ _ _ up (literal_lone _ (search rules) (search rules))

pub returns-in-None : goal.returns-in-None
returns-in-None c =
    let up : UpTo c.args.text.now (string_bytes c.push_str.new.self) c.split_at.result.1.now =
    up_to_run _ _ _ _ _ _ _ c.plain_len.result c.loop-rest.invariant.1 c.in_ok-push_str.ensures.bytes c.split_at.ensures.front c.split_at.ensures.back c.plain_len.ensures c.as_bytes.ensures.value in
    let stop : is_plain (get_or c.split_at.result.1.now 0 0) ≡ false = run_stops _ _ _ _ c.plain_len.ensures c.as_bytes.ensures.value c.split_at.ensures.back (search rules) in
    (no_escape_from _ _ _ up (search rules) (search rules) stop (search rules), omega arith)

pub past_ascii-requires-clause-ascii : goal.past_ascii-requires-clause-ascii
past_ascii-requires-clause-ascii c =
    let stop : is_plain (get_or c.split_at.result.1.now 0 0) ≡ false = run_stops _ _ _ _ c.plain_len.ensures c.as_bytes.ensures.value c.split_at.ensures.back (search rules) in
    grind (arith, nat_tests, stop)

pub loop-rest-preserved : goal.loop-rest-preserved
loop-rest-preserved c =
    let up : UpTo c.args.text.now (string_bytes c.push_str.new.self) c.split_at.result.1.now =
    up_to_run _ _ _ _ _ _ _ c.plain_len.result c.loop-rest.invariant.1 c.in_ok-push_str.ensures.bytes c.split_at.ensures.front c.split_at.ensures.back c.plain_len.ensures c.as_bytes.ensures.value in
    let stop : is_plain (get_or c.split_at.result.1.now 0 0) ≡ false = run_stops _ _ _ _ c.plain_len.ensures c.as_bytes.ensures.value c.split_at.ensures.back (search rules) in (
      c.past_ascii-rest-in-loop-rest.utf8,
      up_to_escape _ _ _ (string_bytes c.push.new.self) _ c.in-Some.character up
          (c.in_ok-push-in-Some.ensures.bytes
          ∙ ap (λ e. string_bytes c.push_str.new.self ++ e)
          (c.in_ok-push-in-Some.ensures.ascii
          (unescaped_low (get_or c.split_at.result.1.now 1 0) c.in-Some.character (search rules)))) (cc)
          (search rules) (search rules) stop (search rules),
    )

pub returns : goal.returns
returns c = endless_from _ _ _ c.loop-rest.invariant.1 (literal_end _ (search rules))
