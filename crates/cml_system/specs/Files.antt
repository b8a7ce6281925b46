-- What lies in a store in memory.
use Rattle.std.specs.Prelude.{ℕ, List, [], ◌∷◌, if◌then◌else◌}
use Rattle.std.specs.Str.{bytes_eq}
use Rattle.std.specs.String.{string_bytes}
use Rattle.cml_host.specs.Stores.{Content, nothing, bytes}
use Rattle.cml_system.specs.declared.memory.File.{File}

-- The bytes of the first file of this name; nothing where there is none.
abbrev pub content_under : List File → List ℕ → Content
content_under [] name = nothing
content_under (file ∷ files) name = if bytes_eq (string_bytes file.name) name then bytes file.bytes.items else content_under files name
