use Rattle.std.proofs.Common.{◌≡◌, map, drop, not, is_some}
use Rattle.std.specs.List.{find}
use Rattle.cml_host.specs.Scripts.{plain_script}
use Rattle.cml_host.specs.Servers.{function_numbered}
use Rattle.cml_host.proofs.servers.first_unknown.Given as goal

-- each of the names that were seen is that of a function
abbrev pub invariant-loop-name : goal.invariant-loop-name
invariant-loop-name l =
    find (λ name. not (is_some (function_numbered (plain_script l.script) name))) (map (λ name. name.now) l.names)
    ≡ find (λ name. not (is_some (function_numbered (plain_script l.script) name))) (map (λ name. name.now) (drop l.name-index l.names))
