-- What a table of communications was told, and how a change alters it.
use Rattle.std.specs.Prelude.{ℕ, ◌≡◌, ◌≢◌, ◌==◌, Bool, true, false, if◌then◌else◌, not, nat_lt, List, ◌∷◌, ◌++◌, filter, Option, Some, None, All, AllPairs, Any, Contains}
use Rattle.std.specs.List.{list_any, flat_map}
use Rattle.std.specs.Borrow.{Bor}
use Rattle.cml_value.specs.Group.{PlainGroup, scopes, nacks_of}
use Rattle.cml_value.specs.declared.number.Tid.{Tid}
use Rattle.cml_scan.specs.World.{PlainEntry, PlainWorld, pending}
use Rattle.cml_scan.specs.Light.{light, light_of, is_told}
use Rattle.cml_scan.specs.Scan.{offers_of, is_among}
use Rattle.cml_scan.specs.declared.object.Light.{Light}
use Rattle.cml_scan.specs.declared.object.Light.TheVariants as of

-- all pending threads except these
abbrev pub without : List Tid → List PlainEntry → List PlainEntry
without gone entries = filter (λ e. not (is_among gone e.thread)) entries

-- the pending threads with one more, in its place by the number of its thread
abbrev pub with_entry : PlainEntry → List PlainEntry → List PlainEntry
with_entry e entries = filter (λ x. nat_lt x.thread e.thread) entries ++ e ∷ filter (λ x. nat_lt e.thread x.thread) entries

abbrev pub with_came : Option (Tid × Bor PlainGroup) → List PlainEntry → List PlainEntry
with_came None entries = entries
with_came (Some c) entries = with_entry (record { thread = c.0.0; group = c.1.now }) entries

-- the pending threads after a change: these go, and then this one comes
abbrev pub changed : List PlainEntry → List Tid → Option (Tid × Bor PlainGroup) → List PlainEntry
changed entries gone came = with_came came (without gone entries)

-- the thread is pending
abbrev pub IsThere : List PlainEntry → Tid → Type 0
IsThere entries t = Any (λ e. e.thread ≡ t.0) entries

-- the thread that comes, if there is one, is not pending
abbrev pub IsNew : List PlainEntry → Option (Tid × Bor PlainGroup) → Type 0
IsNew entries None = Unit {0}
IsNew entries (Some c) = All (λ e. e.thread ≢ c.0.0) entries

abbrev pub same_light : Light → Light → Bool
same_light (of.IVar i) (of.IVar j) = i.0 == j.0
same_light (of.MVar m) (of.MVar n) = m.0 == n.0
same_light (of.Mbox b) (of.Mbox c) = b.0 == c.0
same_light (of.Port p) (of.Port q) = p.0 == q.0
same_light (of.Joined t) (of.Joined u) = t.0 == u.0
same_light (of.Alarm t) (of.Alarm u) = t == u
same_light (of.Nack k) (of.Nack l) = k.0 == l.0
same_light _ _ = false

-- the light is one of these
abbrev pub has_light : List Light → Light → Bool
has_light lights l = list_any (same_light l) lights

-- Whether a light is lit after these were told to be lit and those to be unlit: any other is as it was.
abbrev pub lit_after : List Light → List Light → Light → Bool → Bool
lit_after lit unlit l was = if has_light lit l then true else (if has_light unlit l then false else was)

-- no light stands in both lists
abbrev pub AreApart : List Light → List Light → Type 0
AreApart lit unlit = All (λ l. has_light unlit l ≡ false) lit

-- The change can be told: each thread that goes is pending and is named once, the one that comes is not pending, and no light is
-- turned both on and off.
pub record CanChange (entries : List PlainEntry) (gone : List Tid) (came : Option (Tid × Bor PlainGroup)) (lit unlit : List Light) : Type 0 where
  pub there : All (IsThere entries) gone
  pub once : AllPairs (λ a b. a.0 ≢ b.0) gone
  pub new : IsNew entries came
  pub apart : AreApart lit unlit

-- the nacks of the scopes in the groups of these threads
abbrev pub nacks_among : List Tid → List PlainEntry → List ℕ
nacks_among gone entries = flat_map (λ e. nacks_of (scopes e.group)) (filter (λ e. is_among gone e.thread) entries)

-- the light is that of one of these nacks
abbrev pub IsNackOf : List ℕ → Light → Type 0
IsNackOf nacks (of.Nack k) = Contains nacks k.0
IsNackOf nacks _ = ⊥

-- the two say the same of each light that a leaf of these pending threads waits for
abbrev pub AgreeFor : List PlainEntry → (Light → Bool) → (Light → Bool) → Type 0
AgreeFor entries told lit = All (λ o. is_told told (light o.base) ≡ is_told lit (light o.base)) (offers_of entries)

-- What was told of each light that a pending leaf waits for is what the world says of it. Nothing is asked of the other lights, of
-- which there is no end, since each tick is one.
abbrev pub TellsLights : PlainWorld → (Light → Bool) → Type 0
TellsLights w told = AgreeFor (pending w) told (light_of w)
