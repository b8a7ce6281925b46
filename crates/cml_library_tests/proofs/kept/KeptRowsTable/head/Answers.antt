use Rattle.std.proofs.Common.{◌≡◌, ◌<◌, length, rules, refl}
use Rattle.std.proofs.lemmas.Option.{slice_get_read}
use Rattle.cml_scan.specs.Scan.{scan_of, heads_of}
use Rattle.cml_scan.specs.Table.{has_light}
use Rattle.cml_library_tests.proofs.kept.KeptRowsTable.head.Goals as goal

pub index-requires : goal.index-requires
index-requires c =
    let heads : heads_of (scan_of c.args.self.now.entries (has_light c.args.self.now.lit)) ≡ c.self.inside.heads.items = rw (← c.self.view_is) (rw c.self.invariant.1) in
    let within : c.args.k < length c.self.inside.heads.items = rw heads at c.requires in
    search rules

pub returns : goal.returns
returns c =
    let heads : heads_of (scan_of c.args.self.now.entries (has_light c.args.self.now.lit)) ≡ c.self.inside.heads.items = rw (← c.self.view_is) (rw c.self.invariant.1) in
    let within : c.args.k < length c.self.inside.heads.items = rw heads at c.requires in
    rw heads (slice_get_read c.self.inside.heads.items _ c.args.k _ refl within c.index.ensures)
