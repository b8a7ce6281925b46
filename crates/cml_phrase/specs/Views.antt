-- What the structs of `src/` say.
use Rattle.std.specs.Option.{option_map}
use Rattle.cml_phrase.specs.declared.thread.Who.{Who}
use Rattle.cml_phrase.specs.declared.event.Told.{Told}
use Rattle.cml_phrase.specs.Phrases.{PlainWho}
use Rattle.cml_phrase.specs.Events.{PlainSaid}

abbrev pub plain_who : Who → PlainWho
plain_who who = record { thread = who.thread.0; began = option_map (λ f. f.now) who.began }

abbrev pub plain_told : Told → PlainSaid
plain_told told = record { base = told.base.now; state = told.state; who = option_map plain_who told.who }
