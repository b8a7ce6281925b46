-- What holds of every text of properties, of their kinds, of every printed value, and of all runs.
use Rattle.std.specs.Prelude.{◌≡◌, ℕ, ◌≤◌, IsTrue, IsFalse, List, [], ◌∷◌, ◌++◌, length, Some, Result, Contains}
use Rattle.cml_text.specs.Lines.{lines}
use Rattle.cml_text.specs.Forms.{PlainSexpr}
use Rattle.cml_text.specs.Limits.{AreWithinLimits}
use Rattle.cml_text.specs.Printed.{printed_line}
use Rattle.cml_text.specs.Sizes.{text_limit}
use Rattle.cml_properties.specs.declared.breach.Run.{Run}
use Rattle.cml_properties.specs.declared.kind.PropertyKind.{PropertyKind}
use Rattle.cml_properties.specs.declared.property.Property.{Property}
use Rattle.cml_properties.specs.declared.property.Finish.{Finish}
use Rattle.cml_properties.specs.declared.property.Finish.TheVariants.{GoesOn}
use Rattle.cml_properties.specs.declared.fault.PropertyFault.{PropertyFault}
use Rattle.cml_properties.specs.Agreements.{Agree}
use Rattle.cml_properties.specs.Breaches.{KeepsBeside, AreBreaches}
use Rattle.cml_properties.specs.Kinds.{kind_word, kind_of}
use Rattle.cml_properties.specs.Lines.{PlainLine, IsValueOf}
use Rattle.cml_properties.specs.Patterns.{is_text_pattern, matches}
use Rattle.cml_properties.specs.Properties.{keeps}
use Rattle.cml_properties.specs.Reading.{TextSays}

-- a text says something, and nothing else
abbrev pub SaysOneThing : Type 0
SaysOneThing = (text : List ℕ) → (found : Result (List Property) PropertyFault) × TextSays text found
    × ((other : Result (List Property) PropertyFault) → TextSays text other → other ≡ found)

-- no two kinds of properties have the same word
abbrev pub EachHasItsWord : Type 0
EachHasItsWord = (kind : PropertyKind) → kind_of (kind_word kind) ≡ Some kind

-- A value matches the line on which it is printed, if that line is not too long. (A text, which is printed without quotes, does so by the
-- definition.)
abbrev pub MatchesItself : Type 0
MatchesItself = (form : PlainSexpr) (line : PlainLine) → AreWithinLimits (form ∷ []) → length (printed_line (form ∷ [])) ≤ text_limit →
    IsFalse (is_text_pattern form) → line.text ≡ printed_line (form ∷ []) → IsValueOf line.text line.value → IsTrue (matches form line)

-- A property that is broken by the lines so far stays broken, whatever is printed behind them and however the run ends.
abbrev pub StaysBroken : Type 0
StaysBroken = (property : Property) (lines others : List PlainLine) (finish : Finish) →
    IsFalse (keeps property lines GoesOn) → IsFalse (keeps property (lines ++ others) finish)

-- Two runs that each print like a third print alike.
abbrev pub AgreeByAThird : Type 0
AgreeByAThird = (property : Property) (first these those : List (List ℕ)) → Agree property first these → Agree property first those → Agree property these those

-- Where no breach is found among runs, each of them keeps the property and prints like any other, if the property asks that.
abbrev pub NoBreachIsLeftOut : Type 0
NoBreachIsLeftOut = (property : Property) (runs : List Run) → AreBreaches property runs [] →
    (one other : Run) → Contains runs one → Contains runs other → KeepsBeside property (lines one.output.now) other
