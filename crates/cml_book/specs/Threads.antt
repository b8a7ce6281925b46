-- The group that a thread waits on.
use Rattle.std.specs.Prelude.{Option, Some, None}
use Rattle.cml_value.specs.Group.{PlainGroup}
use Rattle.cml_scan.specs.World.{PlainThread, running, pending_on, ended}

abbrev pub flat_of : PlainThread → Option PlainGroup
flat_of running = None
flat_of (pending_on g) = Some g
flat_of ended = None
