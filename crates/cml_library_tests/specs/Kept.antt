-- What a table that keeps every row was told, and what of it a change keeps.
use Rattle.std.specs.Prelude.{ℕ, Bool, true, not, ◌&&◌, nat_lt, List, filter, refl}
use Rattle.std.specs.Coded.{Coded, code_by, coded×, coded_list}
use Rattle.cml_value.specs.declared.number.Tid.{Tid}
use Rattle.cml_scan.specs.World.{PlainEntry}
use Rattle.cml_scan.specs.Codes.{entry_code, light_code}
use Rattle.cml_scan.specs.Scan.{is_among}
use Rattle.cml_scan.specs.Table.{has_light}
use Rattle.cml_scan.specs.declared.object.Light.{Light}
use Rattle.cml_library_tests.specs.declared.kept.Side.{Side}
use Rattle.cml_library_tests.specs.declared.kept.Side.TheVariants.{All, Below, Above}

-- the pending threads, ascending, each with its group, and the lights that are lit; any other is unlit
pub record PlainTold : Type 0 where
  pub entries : List PlainEntry
  pub lit : List Light

-- the thread stands on this side
abbrev pub on_side : Side → ℕ → Bool
on_side All thread = true
on_side (Below t) thread = nat_lt thread t.0
on_side (Above t) thread = nat_lt t.0 thread

-- the thread stays, and stands on this side
abbrev pub is_kept : List Tid → Side → ℕ → Bool
is_kept gone side thread = not (is_among gone thread) && on_side side thread

-- the entries of the threads that stay, on this side
abbrev pub kept_entries : List Tid → Side → List PlainEntry → List PlainEntry
kept_entries gone side entries = filter (λ e. is_kept gone side e.thread) entries

-- nothing is told of the light
abbrev pub is_untold : List Light → List Light → Light → Bool
is_untold lit unlit l = not (has_light lit l) && not (has_light unlit l)

-- The code of the above: a tree of numbers from which it can be read back. The toolchain asks for it; no rule uses it.
abbrev pub told_code : Coded PlainTold
told_code = code_by (List PlainEntry × List Light) (coded× (coded_list entry_code) (coded_list light_code)) (λ t. (t.entries, t.lit)) (λ p. record { entries = p.0; lit = p.1 }) (λ _. refl)
