-- What happens to a nack, as feeds of a source.
use Rattle.std.specs.Prelude.{◌≡◌, Option, Some, None, Result, Ok, Err, IsTrue}
use Rattle.cml_value.specs.Nack.{PlainNack, fresh_of, live, fired, held}
use Rattle.cml_objects.specs.Feeds.{PlainRefusal, spent}
use Rattle.cml_objects.specs.NackCell.{is_fired, after_enter, after_fire, after_hold}
use Rattle.cml_objects.specs.declared.nack.NackFeed.{NackFeed}
use Rattle.cml_objects.specs.declared.nack.NackFeed.TheVariants.{Enter, Fire, Hold}

-- what can't happen to a nack is refused
abbrev pub or_spent : Option PlainNack → Result PlainNack PlainRefusal
or_spent None = Err spent
or_spent (Some nack) = Ok nack

abbrev pub nack_fed : PlainNack → NackFeed → Result PlainNack PlainRefusal
nack_fed nack Enter = or_spent (after_enter nack)
nack_fed nack Fire = or_spent (after_fire nack)
nack_fed nack Hold = or_spent (after_hold nack)

-- a nack that has fired takes no feed
pub nack_stays_lit : (s t : PlainNack) (feed : NackFeed) → nack_fed s feed ≡ Ok t → IsTrue (is_fired s) → IsTrue (is_fired t)
nack_stays_lit (fresh_of owner) t feed e h = cc
nack_stays_lit live t feed e h = cc
nack_stays_lit fired t Enter e h = cc
nack_stays_lit fired t Fire e h = cc
nack_stays_lit fired t Hold e h = cc
nack_stays_lit held t feed e h = cc
