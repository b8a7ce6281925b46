use Rattle.std.proofs.Common.{◌≡◌, ◌++◌, ◌∷◌, ◌∙◌, [], List, map, drop, cond, ◌+◌, ap, sym, append_assoc}
use Rattle.std.specs.List.{filter}
use Rattle.cml_value.specs.Group.{bases}
use Rattle.cml_scan.specs.declared.meet.Meet.{Meet}
use Rattle.cml_scan.specs.declared.meet.Meet.TheVariants.{Single}
use Rattle.cml_scan.specs.declared.meet.Place.{Place}
use Rattle.cml_scan.specs.Light.{lit_by}
use Rattle.cml_scan.specs.Scan.{single, leaves_from}
use Rattle.cml_index.specs.Posts as spec
use Rattle.cml_index.proofs.OneLeaf.{single_step}
use Rattle.cml_index.proofs.rows.push_singles_of.Goals.{then-is_lit_by+in_ok-push, else-is_lit_by}
use Rattle.cml_index.proofs.rows.push_singles_of.Goals as goal

pub loop-leaf-preserved : goal.loop-leaf-preserved
loop-leaf-preserved c =
    let told = spec.told c.args.core.now.flags.entries in
    let t = c.args.entry.now.thread in
    let i = c.loop-leaf.leaf in
    let bs = bases c.args.entry.now.group in
    let was = c.loop-leaf.rows.items in
    let one : Meet = Single (record { 0 = t }) i in
    let all : List Meet = map single (filter (λ o. lit_by told o.base) (leaves_from t i (drop i bs))) in
    let later : List Meet = map single (filter (λ o. lit_by told o.base) (leaves_from t (i + 1) (drop (i + 1) bs))) in
    let step : all ≡ cond c.is_lit_by.result (one ∷ later) later = single_step told t i bs c.waits-wait-items.result.now
    _ c.is_lit_by.result c.waits-wait-items.ensures.same c.loop-leaf-test.true c.is_lit_by.ensures.value in
    elim c.if-is_lit_by.branch [
      | then-is_lit_by+in_ok-push w ↦
          ap (λ rs. rs.items ++ later) w.rows-is
          ∙ ap (λ xs. xs ++ later) (w.in_ok-push.ensures.items ∙ ap (λ (p : Place). was ++ Single p.tid p.leaf ∷ []) w.place-place.ensures)
          ∙ append_assoc was (one ∷ []) later
          ∙ ap (λ xs. was ++ xs) (sym (step ∙ ap (λ v. cond v (one ∷ later) later) w.if-is_lit_by.true))
          ∙ c.loop-leaf.invariant
      | else-is_lit_by w ↦
          ap (λ rs. rs.items ++ later) w.rows-is
          ∙ ap (λ xs. was ++ xs) (sym (step ∙ ap (λ v. cond v (one ∷ later) later) w.if-is_lit_by.false))
          ∙ c.loop-leaf.invariant
    ]
