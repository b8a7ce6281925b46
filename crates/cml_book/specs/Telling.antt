-- How the table is told when the light of an object is turned on.
use Rattle.std.specs.Prelude.{◌≡◌, Bool, true, false, List, [], ◌∷◌, Result, OnOk, OnErr}
use Rattle.cml_scan.specs.World.{PlainWorld, PlainEntry}
use Rattle.cml_scan.specs.Light.{light_of}
use Rattle.cml_scan.specs.Table.{lit_after}
use Rattle.cml_scan.specs.declared.object.Light.{Light}
use Rattle.cml_book.specs.Keeping.{Keeps, Room}

-- what a table is told of a light that is turned on: nothing, where it was on before
abbrev pub newly_lit : Bool → Light → List Light
newly_lit true light = []
newly_lit false light = light ∷ []

-- A table was told that these lights are turned on, and nothing else; or the call failed, and it was told nothing. It has the same threads.
pub record TurnsOn {A E : Type 0} (result : Result A E) (lights : List Light) (was now : List PlainEntry) (told told' : Light → Bool) : Type 0 where
  pub ok : OnOk result ((l : Light) → told' l ≡ lit_after lights [] l (told l))
  pub err : OnErr result ((l : Light) → told' l ≡ told l)
  pub entries : now ≡ was

-- what was told truly of a light in the one world, is told truly of it in the other
abbrev pub StaysTrue : PlainWorld → (Light → Bool) → PlainWorld → (Light → Bool) → Type 0
StaysTrue w told w' told' = (l : Light) → told l ≡ light_of w l → told' l ≡ light_of w' l

-- what a book keeps of its world and its table, it keeps of these too
abbrev pub StaysKept : PlainWorld → List PlainEntry → (Light → Bool) → PlainWorld → List PlainEntry → (Light → Bool) → Type 0
StaysKept w entries told w' entries' told' = (room : Room) → Keeps w entries told room → Keeps w' entries' told' room
