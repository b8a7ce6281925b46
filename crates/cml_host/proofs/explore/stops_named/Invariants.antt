use Rattle.std.proofs.Common.{◌≡◌, map, take}
use Rattle.std.specs.List.{flat_map}
use Rattle.cml_arguments.specs.Words.{until_named}
use Rattle.cml_host.specs.Exploring.{stop_in}
use Rattle.cml_host.proofs.explore.stops_named.Given as goal

-- of the words that were seen
abbrev pub invariant-loop-word : goal.invariant-loop-word
invariant-loop-word l = l.stops.items ≡ flat_map (λ name. stop_in (until_named name)) (map (λ name. name.now) (take l.word-index l.words))
