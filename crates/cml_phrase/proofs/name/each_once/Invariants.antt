use Rattle.std.proofs.Common.{◌≡◌, [], map, take}
use Rattle.std.specs.List.{fold}
use Rattle.cml_check.specs.Names.{with_name}
use Rattle.cml_phrase.proofs.name.each_once.Given as goal

abbrev pub invariant-loop-name : goal.invariant-loop-name
invariant-loop-name l = map (λ name. name.now) l.seen.keys ≡ fold with_name [] (map (λ name. name.now) (take l.name-index l.names))
