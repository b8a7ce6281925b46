-- How what an item did is seen: an arrow for a value that goes over, two for a swap; a diamond for an item that is fed; a dot for an event that is taken alone; nacks that fire; a
-- thread that begins; what is printed; the end of a thread, by itself or at a fault; and a move of the time. Other turns are not seen.
use Rattle.std.specs.Prelude.{ℕ, Bool, true, false, if◌then◌else◌, List, [], ◌∷◌, ◌++◌, Option, Some, None}
use Rattle.cml_value.specs.declared.number.NackId.{NackId}
use Rattle.cml_value.specs.Value.{PlainBase, swap}
use Rattle.cml_group.specs.declared.flat.Chosen.{Chosen}
use Rattle.cml_step.specs.declared.ask.Ask.{Ask}
use Rattle.cml_step.specs.declared.ask.Ask.TheVariants as ask
use Rattle.cml_facts.specs.declared.narrative.deed.Deed.{Deed}
use Rattle.cml_facts.specs.declared.narrative.deed.Deed.TheVariants.{Turned as ATurn, Took as ATake, Met as AMeeting, Moved}
use Rattle.cml_facts.specs.declared.narrative.deed.Turned.{Turned}
use Rattle.cml_facts.specs.declared.narrative.deed.Came.{Came}
use Rattle.cml_facts.specs.declared.narrative.deed.Came.TheVariants.{Done, Waits, Failed}
use Rattle.cml_facts.specs.declared.narrative.deed.Party.{Party}
use Rattle.cml_picture.specs.declared.layout.mark.Shape.{Shape}
use Rattle.cml_picture.specs.declared.layout.mark.Shape.TheVariants as shape
use Rattle.cml_picture.specs.declared.sheet.feed.Store.{Store}
use Rattle.cml_picture.specs.declared.sheet.sign.Sign.{Sign}
use Rattle.cml_picture.specs.Feeds.{store_asked}

-- of one thread
abbrev pub own_sign : Shape → ℕ → Sign
own_sign s t = record { shape = s; thread = t; other = t }

-- from one thread to another
abbrev pub led_sign : Shape → ℕ → ℕ → Sign
led_sign s t u = record { shape = s; thread = t; other = u }

-- what it asked that feeds something
abbrev pub fed_sign : ℕ → Option Store → Option Sign
fed_sign t None = None
fed_sign t (Some s) = Some (own_sign shape.Fed t)

-- what a thread asked that was done, with the number of what was made
abbrev pub done_sign : ℕ → Ask → ℕ → Option Sign
done_sign t (ask.Spawn f) n = Some (led_sign shape.Spawn t n)
done_sign t (ask.Print v) n = Some (own_sign shape.Print t)
done_sign t ask.End n = Some (own_sign shape.End t)
done_sign t a n = fed_sign t (store_asked a)

abbrev pub came_sign : ℕ → Ask → Came → Option Sign
came_sign t a (Done n) = done_sign t a n
came_sign t a (Waits awaited) = None
came_sign t a (Failed name) = Some (own_sign shape.Fault t)

abbrev pub turned_sign : Turned → Option Sign
turned_sign x = came_sign x.thread.thread x.ask x.came

abbrev pub listed_sign : Option Sign → List Sign
listed_sign None = []
listed_sign (Some sign) = sign ∷ []

-- the nacks that a thread fires, if it fires any
abbrev pub fired_signs : ℕ → List NackId → List Sign
fired_signs t [] = []
fired_signs t (n ∷ ns) = own_sign shape.Nack t ∷ []

abbrev pub alone_signs : ℕ → Option Chosen → List Sign
alone_signs t None = []
alone_signs t (Some x) = own_sign shape.Dot t ∷ fired_signs t x.lost.items

unfoldable pub took_signs : Party → List Sign
took_signs p = alone_signs p.thread.thread p.chosen

-- a thread that takes this gets a value for its own
abbrev pub hands_back : PlainBase → Bool
hands_back (swap s v) = true
hands_back b = false

-- what goes from the head of a pair to the other, and for a swap back
abbrev pub arrow_signs : ℕ → ℕ → PlainBase → List Sign
arrow_signs h o b = led_sign shape.Arrow h o ∷ (if hands_back b then led_sign shape.Arrow o h ∷ [] else [])

abbrev pub both_signs : ℕ → ℕ → Option Chosen → Option Chosen → List Sign
both_signs h o (Some x) (Some y) = arrow_signs h o x.base ++ (fired_signs h x.lost.items ++ fired_signs o y.lost.items)
both_signs h o x y = []

unfoldable pub met_signs : Party → Party → List Sign
met_signs p q = both_signs p.thread.thread q.thread.thread p.chosen q.chosen

-- how what an item did is seen
unfoldable pub signs_of : Deed → List Sign
signs_of (ATurn x) = listed_sign (turned_sign x)
signs_of (ATake x) = took_signs x.taker
signs_of (AMeeting x) = met_signs x.head x.other
signs_of (Moved tick) = own_sign shape.Tick 0 ∷ []
