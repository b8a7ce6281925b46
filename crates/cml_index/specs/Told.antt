-- What was told of lights, by the numbers of their objects.
use Rattle.std.specs.Prelude.{refl, ℕ, ◌≡◌, ◌==◌, ◌+◌, Bool, true, false, List, [], ◌∷◌, ◌++◌, map, Option, is_some, slice_get}
use Rattle.std.specs.Option.{option_map_or}
use Rattle.std.specs.Coded.{Coded, code_by, coded×, coded_list, coded_bool}
use Rattle.indexmap.specs.IndexMap.{get}
use Rattle.cml_scan.specs.declared.object.Light.{Light}
use Rattle.cml_scan.specs.declared.object.Light.TheVariants as of
use Rattle.cml_index.specs.declared.slot.Slot.{Slot}
use Rattle.cml_index.specs.declared.slot.Slot.TheVariants.{Waiters}
use Rattle.cml_index.specs.declared.told.Told.{Told}
use Rattle.cml_index.specs.Posts.{slot_code}

-- what is kept of a light
abbrev pub flag_of : Told → Light → Option Bool
flag_of x (of.IVar i) = slice_get x.ivars.items i.0
flag_of x (of.MVar m) = slice_get x.mvars.items m.0
flag_of x (of.Mbox b) = slice_get x.mailboxes.items b.0
flag_of x (of.Port p) = slice_get x.ports.items p.0
flag_of x (of.Joined t) = slice_get x.joins.items t.0
flag_of x (of.Nack k) = slice_get x.nacks.items k.0
flag_of x (of.Alarm t) = get (λ a b. a == b) x.ticks t

-- what was told of a light; where nothing was, it is unlit
abbrev pub lit_in : Option Bool → Bool
lit_in flag = option_map_or (λ b. b) flag false

-- the same was told of each, and none lost its place; some may have got theirs
pub record AreReserved (old new : List Bool) : Type 0 where
  pub same : (i : ℕ) → lit_in (slice_get new i) ≡ lit_in (slice_get old i)
  pub named : (i : ℕ) → is_some (slice_get old i) ≡ true → is_some (slice_get new i) ≡ true

pub record IsReserved (old new : Told) : Type 0 where
  pub same : (l : Light) → lit_in (flag_of new l) ≡ lit_in (flag_of old l)
  pub named : (l : Light) → is_some (flag_of old l) ≡ true → is_some (flag_of new l) ≡ true

-- the lights of one kind, by their numbers from this one on, with what was told of each
abbrev pub flags_from : (ℕ → Light) → ℕ → List Bool → List (Slot × Bool)
flags_from light n [] = []
flags_from light n (b ∷ bs) = (Waiters (light n), b) ∷ flags_from light (n + 1) bs

-- the ticks, with what was told of each
abbrev pub ticking : List (ℕ × Bool) → List (Slot × Bool)
ticking ticks = map (λ e. (Waiters (of.Alarm e.0), e.1)) ticks

-- all lights that have their places, kind by kind, with what was told last of each
abbrev pub all_told : Told → List (Slot × Bool)
all_told x =
    flags_from (λ n. of.IVar (record { 0 = n })) 0 x.ivars.items
    ++ (flags_from (λ n. of.MVar (record { 0 = n })) 0 x.mvars.items
    ++ (flags_from (λ n. of.Mbox (record { 0 = n })) 0 x.mailboxes.items
    ++ (flags_from (λ n. of.Port (record { 0 = n })) 0 x.ports.items
    ++ (flags_from (λ n. of.Joined (record { 0 = n })) 0 x.joins.items
    ++ (flags_from (λ n. of.Nack (record { 0 = n })) 0 x.nacks.items
    ++ ticking x.ticks.entries)))))

-- the lights of which something was told, or whose place is reserved, with what was told last
pub record PlainFlags : Type 0 where
  pub entries : List (Slot × Bool)

-- The code of the above, a tree of numbers from which it can be read back. The toolchain asks for it; no rule uses it.
abbrev pub flags_code : Coded PlainFlags
flags_code = code_by (List (Slot × Bool)) (coded_list (coded× slot_code coded_bool)) (λ x. x.entries) (λ es. record { entries = es }) (λ _. refl)
