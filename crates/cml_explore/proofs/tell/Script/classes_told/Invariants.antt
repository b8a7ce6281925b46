use Rattle.std.proofs.Common.{◌≡◌, map, take}
use Rattle.std.specs.List.{All}
use Rattle.cml_explore.specs.Told.{IsClassTold}
use Rattle.cml_explore.proofs.tell.Script.classes_told.Given as goal

-- those so far
abbrev pub invariant-loop-index : goal.invariant-loop-index
invariant-loop-index l = record {
  numbers : map (λ c. c.number) l.told.items ≡ take l.index l.numbers;
  each : All (IsClassTold (map (λ own. own.items) l.self.places.now) l.self.program.now l.self.asked l.classes) l.told.items;
}
