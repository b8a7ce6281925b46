use Rattle.std.proofs.Common.{◌≡◌, ℕ, suc, Bool, true, nat_eq, refl, ◌∷◌, List, ◌≤◌, ◌+◌, ◌*◌, ◌∙◌, [], length, ap, sym, subst, arith}
use Rattle.std.specs.Prelude.{Result}
use Rattle.std.proofs.lemmas.Bool.Decides.{nat_tests}
use Rattle.cml_value.specs.Group.{bases}
use Rattle.cml_value.specs.GroupViews.{plain_group}
use Rattle.cml_value.specs.declared.number.Tid.{Tid}
use Rattle.cml_scan.specs.World.{PlainEntry}
use Rattle.cml_scan.specs.Table.{without, with_entry}
use Rattle.cml_scan.specs.declared.object.Light.{Light}
use Rattle.cml_index.specs.Posts as spec
use Rattle.cml_index.proofs.Going.{without_none}
use Rattle.cml_index.proofs.Alone.{on_ok}
use Rattle.cml_index.proofs.state.IndexState.leave_and_come.Goals as goal

pub come_lone-requires-clause-lone : goal.come_lone-requires-clause-lone
come_lone-requires-clause-lone c = record { base = c.in-Leaf.base; is = sym c.kind.ensures ∙ ap plain_group c.in-Leaf.is; same = c.of.ensures }

-- nobody goes
none_go : (xs : List Tid) (b : Bool) → b ≡ nat_eq (length xs) 0 → b ≡ true → xs ≡ []
none_go [] b e is = refl
none_go (x ∷ xs) b e is = absurd (not_none (length xs) (sym e ∙ is))
  where
    not_none : (n : ℕ) → nat_eq (suc n) 0 ≡ true → ⊥
    not_none n h = grind (arith, nat_tests)

-- where nobody goes, all stay
all_stay : {A E : Type 0} (r : Result A E) (e : PlainEntry) (es : List PlainEntry) (gone : List Tid) (lit unlit : List Light) (old new : spec.PlainIndex) (t0 t1 : ℕ)
    → gone ≡ [] → spec.HasTold r (with_entry e es) lit unlit old new t0 t1 → spec.HasTold r (with_entry e (without gone es)) lit unlit old new t0 t1
all_stay r e es gone lit unlit old new t0 t1 none told =
    subst (λ xs. spec.HasTold r (with_entry e xs) lit unlit old new t0 t1) (without_none es ∙ ap (λ g. without g es) (sym none)) told

pub returns-in-Leaf-clause-told : goal.returns-in-Leaf-clause-told
returns-in-Leaf-clause-told c =
    all_stay c.come_lone.result (record { thread = c.args.comer.0.0; group = c.args.comer.1.now }) c.args.self.now.entries.items c.args.gone.now
    c.args.lit.now c.args.unlit.now _ _ c.args.tally.now c.come_lone.new.tally
    (none_go c.args.gone.now c.is_empty.result c.is_empty.ensures c.if-is_empty.true) c.come_lone.ensures.told

pub returns-in-Leaf-clause-cost : goal.returns-in-Leaf-clause-cost
returns-in-Leaf-clause-cost c = on_ok c.come_lone.result c.come_lone.ensures.cost (λ cost digits few.
    let one : length (bases c.args.comer.1.now) ≡ 1 = ap (λ g. length (bases g)) (sym c.kind.ensures ∙ ap plain_group c.in-Leaf.is) in
    let sum = cost digits few in
    subst (λ n. c.come_lone.new.tally + c.come_lone.new.self.leaves * (digits + 2)
    ≤ c.args.tally.now + (c.args.self.now.leaves + 2 * n) * (digits + 2) + (length c.args.lit.now + length c.args.unlit.now)) (sym one) sum)
