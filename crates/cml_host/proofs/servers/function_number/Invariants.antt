use Rattle.std.proofs.Common.{◌≡◌, ◌-◌}
use Rattle.std.specs.List.{find, range_with_len}
use Rattle.std.specs.Str.{bytes_eq}
use Rattle.cml_phrase.specs.Names.{function_name}
use Rattle.cml_host.proofs.servers.function_number.Given as goal

-- none of the functions that were seen has the name
abbrev pub invariant-loop-func : goal.invariant-loop-func
invariant-loop-func l =
    find (λ own. bytes_eq (function_name l.forms own) l.name) (range_with_len 0 l.count)
    ≡ find (λ own. bytes_eq (function_name l.forms own) l.name) (range_with_len l.func (l.count - l.func))
