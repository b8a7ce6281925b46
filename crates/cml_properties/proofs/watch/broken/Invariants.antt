use Rattle.std.proofs.Common.{◌≡◌, take}
use Rattle.cml_properties.specs.Watches.{HasSeen}
use Rattle.cml_properties.proofs.watch.broken.Given as goal

-- the lines so far keep the property
abbrev pub invariant-loop-index : goal.invariant-loop-index
invariant-loop-index l = HasSeen l.watch (take l.index l.lines) × (l.watch.property.now ≡ l.property)
