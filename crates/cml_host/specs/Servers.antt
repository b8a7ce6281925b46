-- The functions of servers, as the arguments name them.
use Rattle.std.specs.Prelude.{◌≡◌, ℕ, not, List, [], ◌∷◌, ◌++◌, map, length, codes, find, Option, Some, None, is_some}
use Rattle.std.specs.List.{flat_map, range_with_len}
use Rattle.std.specs.Str.{bytes_eq}
use Rattle.cml_check.specs.Syntax.{Name}
use Rattle.cml_phrase.specs.Names.{function_name}
use Rattle.cml_text.specs.Lines.{line}
use Rattle.cml_arguments.specs.declared.EndOptions.{EndOptions}
use Rattle.cml_host.specs.Refused.{Fault}
use Rattle.cml_host.specs.Scripts.{PlainScript}

-- the number of the function of this name, if the script has one
abbrev pub function_numbered : PlainScript → Name → Option ℕ
function_numbered s name = find (λ func. bytes_eq (function_name s.forms func) name) (range_with_len 0 (length s.program))

-- the first of these names that no function of the script has
abbrev pub first_unknown : PlainScript → List Name → Option Name
first_unknown s names = find (λ name. not (is_some (function_numbered s name))) names

-- a number that may be there, as a list
abbrev pub numbers_in : Option ℕ → List ℕ
numbers_in None = []
numbers_in (Some n) = n ∷ []

-- the numbers of the functions of these names
abbrev pub server_numbers : PlainScript → List Name → List ℕ
server_numbers s names = flat_map (λ name. numbers_in (function_numbered s name)) names

-- the names that the arguments give
abbrev pub server_names : EndOptions → List Name
server_names options = map (λ name. name.now) options.servers.items

-- the line that tells a name that no function has
abbrev pub unknown_line : Name → List ℕ
unknown_line name = line (codes "no function " ++ name)

-- one of these names is of no function, and this tells the first such
abbrev pub IsNoFunction : PlainScript → List Name → Fault
IsNoFunction s names told status = ((name : Name) × (first_unknown s names ≡ Some name) × (told ≡ unknown_line name)) × (status ≡ 1)
