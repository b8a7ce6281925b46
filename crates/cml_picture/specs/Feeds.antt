-- Which item took what another one had fed to a variable, to a mailbox or to the ports of a multicast channel.
use Rattle.std.specs.Prelude.{ℕ, ◌==◌, ◌-◌, Bool, false, nat_lt, if◌then◌else◌, List, [], ◌∷◌, length, Option, Some, None, option_map, option_and_then, unwrap_or, slice_get}
use Rattle.std.specs.List.{flat_map, list_any}
use Rattle.cml_value.specs.Value.{PlainBase, iget, mtake, mget, mswap, mail_recv, port_recv}
use Rattle.cml_scan.specs.World.{PlainWorld}
use Rattle.cml_group.specs.declared.flat.Chosen.{Chosen}
use Rattle.cml_step.specs.declared.ask.Ask.{Ask}
use Rattle.cml_step.specs.declared.ask.Ask.TheVariants as ask
use Rattle.cml_facts.specs.declared.narrative.deed.Deed.{Deed}
use Rattle.cml_facts.specs.declared.narrative.deed.Deed.TheVariants.{Turned as ATurn, Took as ATake}
use Rattle.cml_facts.specs.declared.narrative.deed.Came.{Came}
use Rattle.cml_facts.specs.declared.narrative.deed.Came.TheVariants.{Done}
use Rattle.cml_facts.specs.declared.narrative.deed.Happened.{Happened}
use Rattle.cml_picture.specs.declared.sheet.feed.Fed.{Fed}
use Rattle.cml_picture.specs.declared.sheet.feed.Store.{Store}
use Rattle.cml_picture.specs.declared.sheet.feed.Store.TheVariants.{IVar, MVar, Mailbox, Channel, Port}

-- what an ask feeds, what an event feeds as it is taken, and from what it takes
abbrev pub store_asked : Ask → Option Store
store_asked (ask.IPut i v) = Some (IVar i.0)
store_asked (ask.MPut m v) = Some (MVar m.0)
store_asked (ask.Mail m v) = Some (Mailbox m.0)
store_asked (ask.Multicast c v) = Some (Channel c.0)
store_asked a = None

abbrev pub store_swapped : PlainBase → Option Store
store_swapped (mswap m v) = Some (MVar m)
store_swapped b = None

abbrev pub store_of : PlainBase → Option Store
store_of (iget i) = Some (IVar i)
store_of (mtake m) = Some (MVar m)
store_of (mget m) = Some (MVar m)
store_of (mswap m v) = Some (MVar m)
store_of (mail_recv m) = Some (Mailbox m)
store_of (port_recv p) = Some (Port p)
store_of b = None

-- from what an item took, and what it fed
abbrev pub store_taken : Deed → Option Store
store_taken (ATake x) = option_and_then (λ (c : Chosen). store_of c.base) x.taker.chosen
store_taken d = None

abbrev pub store_done : Came → Ask → Option Store
store_done (Done n) a = store_asked a
store_done came a = None

abbrev pub store_fed : Deed → Option Store
store_fed (ATurn x) = store_done x.came x.ask
store_fed (ATake x) = option_and_then (λ (c : Chosen). store_swapped c.base) x.taker.chosen
store_fed d = None

-- what is fed to the one is taken from the other: they are one object, or the port is of the channel
abbrev pub is_port_of : PlainWorld → ℕ → ℕ → Bool
is_port_of w c p = list_any (λ n. n == p) (unwrap_or (slice_get w.mchans c) [])

abbrev pub reaches : PlainWorld → Store → Store → Bool
reaches w (IVar n) (IVar m) = n == m
reaches w (MVar n) (MVar m) = n == m
reaches w (Mailbox n) (Mailbox m) = n == m
reaches w (Channel n) (Port m) = is_port_of w n m
reaches w fed taken = false

abbrev pub reached_by : PlainWorld → Store → Option Store → Bool
reached_by w taken None = false
reached_by w taken (Some fed) = reaches w fed taken

abbrev pub feeds : PlainWorld → Store → Deed → Bool
feeds w taken d = reached_by w taken (store_fed d)

-- the numbers of the items that fed this
abbrev pub number_if : Bool → ℕ → List ℕ
number_if is n = if is then n ∷ [] else []

abbrev pub feeders : PlainWorld → Store → List Happened → List ℕ
feeders w taken shown = flat_map (λ (x : Happened). number_if (feeds w taken x.deed) x.number) shown

-- how many items stand in a mailbox or a port
abbrev pub left_in : PlainWorld → Store → ℕ
left_in w (Mailbox m) = unwrap_or (option_map length (slice_get w.mailboxes m)) 0
left_in w (Port p) = unwrap_or (option_map length (slice_get w.ports p)) 0
left_in w s = 0

-- the last of these but for so many behind it
abbrev pub last_but : ℕ → List ℕ → Option ℕ
last_but behind all = if nat_lt behind (length all) then slice_get all (length all - 1 - behind) else None

-- Items are taken in the order in which they were fed. So what an item took that led to this world was fed by the last of the items that did, but
-- for as many as still stand there.
abbrev pub feeder : PlainWorld → List Happened → Store → Option ℕ
feeder w shown taken = last_but (left_in w taken) (feeders w taken shown)

abbrev pub fed_by : PlainWorld → List Happened → Happened → Option Fed
fed_by w shown x = option_map (λ n. record { from = n; to = x.number }) (option_and_then (feeder w shown) (store_taken x.deed))
