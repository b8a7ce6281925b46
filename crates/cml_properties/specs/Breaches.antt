-- Which of several runs break a property.
use Rattle.std.specs.Prelude.{◌≡◌, ◌⊎◌, ℕ, ◌+◌, IsTrue, All, Option, Some, None, List, [], ◌∷◌, length, map}
use Rattle.cml_text.specs.Lines.{lines}
use Rattle.cml_properties.specs.declared.breach.Run.{Run}
use Rattle.cml_properties.specs.declared.breach.Breach.{Breach}
use Rattle.cml_properties.specs.declared.property.Property.{Property}
use Rattle.cml_properties.specs.Agreements.{Agree}
use Rattle.cml_properties.specs.Lines.{PlainLine, IsValueOf}
use Rattle.cml_properties.specs.Properties.{keeps}
use Rattle.cml_properties.specs.Watches.{BreaksAt}

-- these are the lines of these bytes, each with the value that it spells
pub record AreLinesOf (bytes : List (List ℕ)) (printed : List PlainLine) : Type 0 where
  pub texts : map (λ line. line.text) printed ≡ bytes
  pub values : All (λ line. IsValueOf line.text line.value) printed

-- The run keeps the property, and prints like the one that printed the first lines, if the property asks that.
pub record KeepsBeside (property : Property) (first : List (List ℕ)) (run : Run) : Type 0 where
  pub printed : List PlainLine
  pub are : AreLinesOf (lines run.output.now) printed
  pub kept : IsTrue (keeps property printed run.finish)
  pub agrees : Agree property first (lines run.output.now)

-- the lines of the run break the property at one of them or at their end
pub record BreaksIn (property : Property) (run : Run) (at : ℕ) : Type 0 where
  pub printed : List PlainLine
  pub are : AreLinesOf (lines run.output.now) printed
  pub broken : BreaksAt property printed run.finish at

-- or it does not print like the first, which breaks it at its end
abbrev pub BreaksBeside : Property → List (List ℕ) → Run → ℕ → Type 0
BreaksBeside property first run at =
    BreaksIn property run at ⊎ ((Agree property first (lines run.output.now) → ⊥) × (at ≡ length (lines run.output.now)))

-- that the run of this number breaks the property, if it does
abbrev pub breach_told : ℕ → Option ℕ → List Breach
breach_told run (Some line) = record { run = run; line = line } ∷ []
breach_told run None = []

-- what is told of these runs, the first of which has this number: each that breaks the property
abbrev pub AreBreachesFrom : Property → List (List ℕ) → ℕ → List Run → List Breach → Type 0
AreBreachesFrom property first n [] found = found ≡ []
AreBreachesFrom property first n (run ∷ runs) found =
    (KeepsBeside property first run × AreBreachesFrom property first (n + 1) runs found)
    ⊎ ((line : ℕ) × (others : List Breach) × BreaksBeside property first run line × AreBreachesFrom property first (n + 1) runs others
    × (found ≡ record { run = n; line = line } ∷ others))

-- all runs print like the first of them
abbrev pub AreBreaches : Property → List Run → List Breach → Type 0
AreBreaches property [] found = found ≡ []
AreBreaches property (run ∷ runs) found = AreBreachesFrom property (lines run.output.now) 0 (run ∷ runs) found
