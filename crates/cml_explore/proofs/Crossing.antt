-- Programs and properties may be shared among threads.
use denote.Param.Send.{IsSend, IsSync, sendable}
use Rattle.std.proofs.Crossing.{crosses}
use Rattle.cml_text.proofs.Crossing.{forms_cross}
use Rattle.cml_check.proofs.Crossing.{programs_cross}
use Rattle.cml_properties.specs.contracts.pattern.Pattern as Pattern
use Rattle.cml_properties.specs.contracts.property.Property as Property

pattern_send : IsSend Pattern.the_row
pattern_send = search (sendable, crosses, forms_cross) depth 60 fits 100000

pattern_sync : IsSync Pattern.the_row
pattern_sync = search (sendable, crosses, forms_cross) depth 60 fits 100000

pub property_sync : IsSync Property.the_row
property_sync = search (sendable, crosses, pattern_send, pattern_sync) depth 60 fits 100000

pub ruleset program_crosses = (sendable, crosses, programs_cross, property_sync)
