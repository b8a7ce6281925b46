use Rattle.std.proofs.Common.{◌≡◌, ◌≤◌, ◌<◌, ◌+◌, ◌*◌, map, length, drop}
use Rattle.std.specs.Prelude.{slice_get}
use Rattle.std.specs.List.{filter}
use Rattle.cml_scan.specs.Order.{place}
use Rattle.cml_scan.specs.Scan.{offers_of}
use Rattle.cml_index.specs.Heads.{is_sought}
use Rattle.cml_index.specs.Seats.{seated}
use Rattle.cml_index.proofs.heads.seek.Given as goal

-- the leaf that is sought is the left-th of those of the threads to come
abbrev pub invariant-loop-seat : goal.invariant-loop-seat
invariant-loop-seat l = record {
  more : l.left < length (filter (is_sought l.kind l.core.flags.entries (offers_of l.core.entries.items)) (offers_of (seated (drop l.seat-index l.seats))));
  same : slice_get (map place (filter (is_sought l.kind l.core.flags.entries (offers_of l.core.entries.items)) (offers_of (seated (drop l.seat-index l.seats))))) l.left
      ≡ slice_get (map place (filter (is_sought l.kind l.core.flags.entries (offers_of l.core.entries.items)) (offers_of l.core.entries.items))) l.k;
  cost : l.tally + 3 * length (offers_of (seated (drop l.seat-index l.seats))) ≤ l.fn.tally + 3 * length (offers_of l.core.entries.items);
}
