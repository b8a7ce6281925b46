-- How the entries of a stack are kept: the call on top and what stands over it in two places of their own, those below in frames that
-- copies share.
use Rattle.std.specs.Prelude.{◌≡◌, List, [], ◌∷◌, ◌++◌, Option, Some, None, option_copied}
use Rattle.std.specs.declared.sync.Arc.{Arc}
use Rattle.cml_step.specs.declared.call.Call.{Call}
use Rattle.cml_step.specs.declared.entry.Entry.{Entry}
use Rattle.cml_step.specs.declared.entry.Entry.TheVariants as entry
use Rattle.cml_step.specs.declared.entry.Seen.{Seen}
use Rattle.cml_step.specs.declared.entry.Seen.TheVariants as seen
use Rattle.cml_step.specs.declared.entries.Walk.{Walk}
use Rattle.cml_step.specs.Machines.{PlainHeld, call, force, wraps, plain_held}

-- the entries of a frame, if there is one: its own is the last
abbrev pub frame_entries : {Z : Type 0} → Option (Arc (List PlainHeld) Z) → List PlainHeld
frame_entries None = []
frame_entries (Some f) = f.value

-- the entries with this one on top, if there is one
abbrev pub topped : List PlainHeld → Option Entry → List PlainHeld
topped hs None = hs
topped hs (Some e) = hs ++ plain_held e ∷ []

-- the same with this call on top, if there is one
abbrev pub called : List PlainHeld → Option Call → List PlainHeld
called hs None = hs
called hs (Some c) = hs ++ plain_held (entry.Call c) ∷ []

-- an entry, where it stands
abbrev pub plain_seen : Seen → PlainHeld
plain_seen (seen.Call c) = plain_held (entry.Call c.now)
plain_seen (seen.Force g asked) = force g.now asked
plain_seen (seen.Wraps w) = wraps w.now.left.items w.now.value

-- what is left of a walk through the entries, from the top
abbrev pub entries_left : Option (List PlainHeld) → List PlainHeld
entries_left None = []
entries_left (Some hs) = hs

abbrev pub left_of : Walk → List PlainHeld
left_of w = topped (called (entries_left (option_copied w.below)) (option_copied w.call)) (option_copied w.over)

-- the top entry of the old ones is taken off, and the new ones are left
abbrev pub TakesOff : Option Entry → List PlainHeld → List PlainHeld → Type 0
TakesOff None old new = (old ≡ []) × (new ≡ [])
TakesOff (Some e) old new = old ≡ new ++ plain_held e ∷ []

-- no value is held: nothing is there but calls without values
abbrev pub HoldsNoValue : List PlainHeld → Type 0
HoldsNoValue [] = Unit {0}
HoldsNoValue (call f at slots w ∷ hs) = (slots ≡ []) × HoldsNoValue hs
HoldsNoValue (h ∷ hs) = ⊥

-- the entry is no call
abbrev pub IsNoCall : Entry → Type 0
IsNoCall e = (c : Call) → e ≡ entry.Call c → ⊥

-- no call stands there
abbrev pub HasNoCall : Option Entry → Type 0
HasNoCall over = (c : Call) → over ≡ Some (entry.Call c) → ⊥

-- the top one of these entries, if there is one, is no call
unfoldable pub HasNoCallOnTop : List PlainHeld → Type 0
HasNoCallOnTop hs = (gs : List PlainHeld) (c : Call) → hs ≡ gs ++ plain_held (entry.Call c) ∷ [] → ⊥
