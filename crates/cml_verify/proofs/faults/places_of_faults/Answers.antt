use Rattle.std.proofs.Common.{◌≡◌, ℕ, ◌<◌, List, [], Some, length, map, get_or, slice_get, ap, sym, subst, ◌∙◌, arith}
use Rattle.std.specs.List.{All}
use Rattle.std.proofs.lemmas.List.{take_all}
use Rattle.std.proofs.lemmas.List.Elements.{All-nil}
use Rattle.std.proofs.lemmas.Option.{slice_get-get_or}
use Rattle.cml_schedule.specs.declared.item.Item.{Item}
use Rattle.cml_schedule.specs.declared.item.Item.TheVariants.{Turn}
use Rattle.cml_step.specs.Calls.{text_of}
use Rattle.cml_verify.specs.Searches.{IsEdge}
use Rattle.cml_verify.specs.Places.{all_at}
use Rattle.cml_verify.specs.{Cores.{program_system}, Kept.{core_kept}, Falling.{FallsFrom, EdgeIsNoted}}
use Rattle.cml_verify.proofs.Faulting.{noted_more}
use Rattle.cml_verify.proofs.faults.places_of_faults.Goals as goal

-- the edge at a place
edge_at : (row edges : List (ℕ × Item × ℕ)) (i : ℕ) → row ≡ edges → i < length row → slice_get edges i ≡ Some (get_or row i (0, Turn (record { 0 = 0 }), 0))
edge_at row edges i same lt = ap (λ l. slice_get l i) (sym same) ∙ slice_get-get_or row i (0, Turn (record { 0 = 0 }), 0) lt

pub loop-edge-init : goal.loop-edge-init
loop-edge-init c =
    let p = c.args.system.now.program in
    let s = c.args.system.now.with_output in
    let keys = c.args.found.now.kept.keys in
    record {
      each = subst (All (FallsFrom p s keys)) (sym c.new-told.ensures.items) (All-nil (FallsFrom p s keys));
      noted = All-nil (EdgeIsNoted p s keys c.new-told.result.items);
    }

pub note_edge-requires-clause-edge : goal.note_edge-requires-clause-edge
note_edge-requires-clause-edge c =
    let p = c.args.system.now.program in
    let edges = c.args.found.now.edges.items in
    let i = c.loop-edge.edge-index in
    let row = c.edges-edges.result.now in
    let e = get_or row i (0, Turn (record { 0 = 0 }), 0) in
    all_at (IsEdge (program_system (text_of p) c.args.system.now.with_output) (map (core_kept p) c.args.found.now.kept.keys)) edges i e c.requires
    (edge_at row edges i c.edges-edges.ensures (omega arith))

pub loop-edge-preserved : goal.loop-edge-preserved
loop-edge-preserved c =
    let p = c.args.system.now.program in
    let s = c.args.system.now.with_output in
    let keys = c.args.found.now.kept.keys in
    let edges = c.args.found.now.edges.items in
    let i = c.loop-edge.edge-index in
    let row = c.edges-edges.result.now in
    let e = get_or row i (0, Turn (record { 0 = 0 }), 0) in
    let old = c.loop-edge.told.items in
    let new = c.note_edge.new.told.items in
    let after = c.in_ok-note_edge.ensures in
    let at : slice_get edges i ≡ Some e = edge_at row edges i c.edges-edges.ensures (omega arith) in
    record {
      each = after.each;
      noted = noted_more p s keys edges i e old new at after.longer c.loop-edge.invariant.noted after.noted;
    }

pub returns-clause-noted : goal.returns-clause-noted
returns-clause-noted c =
    let p = c.args.system.now.program in
    let edges = c.args.found.now.edges.items in
    subst (All (EdgeIsNoted p c.args.system.now.with_output c.args.found.now.kept.keys c.loop-edge.told.items)) (take_all c.loop-edge.edge-index edges (omega (arith, ap length c.edges-edges.ensures))) c.loop-edge.invariant.noted
