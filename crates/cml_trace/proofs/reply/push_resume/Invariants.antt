use Rattle.std.proofs.Common.{◌≡◌, ◌++◌, drop}
use Rattle.std.specs.Prelude.{codes}
use Rattle.std.specs.List.{flat_map}
use Rattle.std.specs.String.{string_bytes}
use Rattle.cml_value.specs.Show.{shown}
use Rattle.cml_trace.specs.Replies.{spaced, shown_function}
use Rattle.cml_trace.proofs.reply.push_resume.Given as goal

abbrev pub invariant-loop-function : goal.invariant-loop-function
invariant-loop-function l =
    string_bytes l.text ++ flat_map shown_function (drop l.function-index l.function-items)
    ≡ string_bytes l.fn.text ++ (codes "resume" ++ spaced l.resume.thread ++ codes " " ++ shown l.resume.value ++ flat_map shown_function l.resume.wraps)
