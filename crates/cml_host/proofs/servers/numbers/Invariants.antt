use Rattle.std.proofs.Common.{◌≡◌, map, take}
use Rattle.std.specs.List.{flat_map}
use Rattle.cml_host.specs.Scripts.{plain_script}
use Rattle.cml_host.specs.Servers.{function_numbered, numbers_in}
use Rattle.cml_host.proofs.servers.numbers.Given as goal

-- of the names that were seen
abbrev pub invariant-loop-name : goal.invariant-loop-name
invariant-loop-name l =
    l.found.items ≡ flat_map (λ name. numbers_in (function_numbered (plain_script l.script) name)) (map (λ name. name.now) (take l.name-index l.names))
