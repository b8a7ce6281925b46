-- Which M-variables a thread holds: it took from one, and nobody has put anything into it before the thread does.
use Rattle.std.specs.Prelude.{ℕ, ◌==◌, Bool, false, if◌then◌else◌, List, [], ◌∷◌, ◌++◌, Option, Some, None, option_map, option_and_then}
use Rattle.std.specs.Option.{option_to_list}
use Rattle.cml_group.specs.declared.flat.Chosen.{Chosen}
use Rattle.cml_step.specs.declared.ask.Ask.{Ask}
use Rattle.cml_step.specs.declared.ask.Ask.TheVariants as ask
use Rattle.cml_facts.specs.Takes.{emptied_by}
use Rattle.cml_facts.specs.declared.narrative.deed.Deed.{Deed}
use Rattle.cml_facts.specs.declared.narrative.deed.Deed.TheVariants.{Turned as ATurn, Took as ATake}
use Rattle.cml_facts.specs.declared.narrative.deed.Came.{Came}
use Rattle.cml_facts.specs.declared.narrative.deed.Came.TheVariants.{Done}
use Rattle.cml_facts.specs.declared.narrative.deed.Happened.{Happened}
use Rattle.cml_picture.specs.declared.sheet.hold.Held.{Held}
use Rattle.cml_picture.specs.declared.sheet.hold.Hand.{Hand}

-- the thread that takes by an item, and from which M-variable
abbrev pub emptied : Option Chosen → Option ℕ
emptied chosen = option_and_then (λ (c : Chosen). emptied_by c.base) chosen

abbrev pub hand_of : Deed → Option Hand
hand_of (ATake x) = option_map (λ m. record { thread = x.taker.thread.thread; variable = m }) (emptied x.taker.chosen)
hand_of d = None

-- the thread that fills this M-variable by an item
abbrev pub fills : ℕ → Came → Ask → Bool
fills m (Done n) (ask.MPut k v) = k.0 == m
fills m came a = false

abbrev pub filler : ℕ → Deed → Option ℕ
filler m (ATurn x) = if fills m x.came x.ask then Some x.thread.thread else None
filler m d = None

abbrev pub held_until : Hand → ℕ → ℕ → ℕ → Option Held
held_until hand from t until = if t == hand.thread then Some (record { from = from; until = Some until }) else None

abbrev pub held_or : Hand → ℕ → Option ℕ → ℕ → Option Held → Option Held
held_or hand from None number later = later
held_or hand from (Some t) number later = held_until hand from t number

-- what is held from this item on, where these come behind it: up to the first that fills the M-variable, if it is of the same thread
abbrev pub held_behind : Hand → ℕ → List Happened → Option Held
held_behind hand from [] = Some (record { from = from; until = None })
held_behind hand from (x ∷ xs) = held_or hand from (filler hand.variable x.deed) x.number (held_behind hand from xs)

abbrev pub held_first : List Happened → Option Held
held_first [] = None
held_first (x ∷ xs) = option_and_then (λ hand. held_behind hand x.number xs) (hand_of x.deed)

abbrev pub all_held : List Happened → List Held
all_held [] = []
all_held (x ∷ xs) = option_to_list (held_first (x ∷ xs)) ++ all_held xs
