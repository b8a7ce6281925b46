-- The commands that make ports of multicast channels.
use Rattle.std.specs.Prelude.{ℕ, Bool, ◌==◌, not, if◌then◌else◌, ◌++◌, List, [], ◌∷◌, length, map, nat_lt, nat_le, slice_get, slice_set, unwrap_or, Ok}
use Rattle.std.specs.List.{list_any}
use Rattle.cml_value.specs.declared.number.PortId.{PortId}
use Rattle.cml_scan.specs.World.{PlainWorld}
use Rattle.cml_book.specs.declared.refusal.Refusal.TheVariants.{Object, Full}
use Rattle.cml_book.specs.Outcomes.{Outcome, refuse_if, max_objects}

-- the ports of the multicast channel of this number
abbrev pub ports_at : List (List ℕ) → ℕ → List ℕ
ports_at channels x = unwrap_or (slice_get channels x) []

-- the port is one of these
abbrev pub has_port : List ℕ → ℕ → Bool
has_port ports p = list_any (λ q. q == p) ports

-- the channel of this number has this port after its others
abbrev pub with_port : List (List ℕ) → ℕ → ℕ → List (List ℕ)
with_port channels x port = slice_set channels x (ports_at channels x ++ port ∷ [])

-- A new port of the channel, to which later messages come (Reppy's port).
abbrev pub make_port : PlainWorld → ℕ → Outcome PortId
make_port w x = refuse_if (not (nat_lt x (length w.mchans))) Object
    (refuse_if (nat_le max_objects (length w.ports)) Full
    (Ok (record w { mchans = with_port w.mchans x (length w.ports); ports = w.ports ++ [] ∷ [] }, record { 0 = length w.ports })))

-- the ports of a channel once the port `copy` hears what the port `p` hears
abbrev pub heard_by : ℕ → ℕ → List ℕ → List ℕ
heard_by copy p ports = if has_port ports p then ports ++ copy ∷ [] else ports

-- A new port that has the same unread messages as this one, and belongs to the same channel (Reppy's copy).
abbrev pub copy_port : PlainWorld → ℕ → Outcome PortId
copy_port w p = refuse_if (not (nat_lt p (length w.ports))) Object
    (refuse_if (nat_le max_objects (length w.ports)) Full
    (Ok (
      record w { mchans = map (heard_by (length w.ports) p) w.mchans; ports = w.ports ++ unwrap_or (slice_get w.ports p) [] ∷ [] },
      record { 0 = length w.ports },
    )))
