-- Where a run breaks each of several properties.
use Rattle.std.specs.Prelude.{ℕ, List, [], ◌∷◌, Option, Some, None}
use Rattle.cml_properties.specs.declared.breach.Run.{Run}
use Rattle.cml_properties.specs.declared.property.Property.{Property}
use Rattle.cml_properties.specs.Breaches.{KeepsBeside, BreaksBeside}

-- The run breaks the property at this line; or, where no line is told, it keeps it. It is held beside a run that printed the first lines.
abbrev pub IsJudged : List (List ℕ) → Run → Property → Option ℕ → Type 0
IsJudged first run property None = KeepsBeside property first run
IsJudged first run property (Some line) = BreaksBeside property first run line

-- the same of each of these properties, in their order
abbrev pub AreJudged : List (List ℕ) → Run → List Property → List (Option ℕ) → Type 0
AreJudged first run [] [] = Unit {0}
AreJudged first run (property ∷ properties) (line ∷ lines) = IsJudged first run property line × AreJudged first run properties lines
AreJudged first run _ _ = ⊥
