-- The derivations of a group are its leaves.
use Rattle.std.proofs.Common.{ap}
use Rattle.cml_value.specs.Group.{PlainGroup}
use Rattle.cml_rules.specs.Laws.{Derivation, OffersAreLeaves}
use Rattle.cml_rules.proofs.Derivations.{Derived, leaf_is, reached, one_each}
use Rattle.cml_rules.proofs.Losing.{lost_is}

abbrev as_offer : (g : PlainGroup) → Derived g → Derivation g
as_offer g d = record { base = d.0; sequel = d.1; derivation = d.2 }

pub offers_are_leaves : (g : PlainGroup) → OffersAreLeaves g
offers_are_leaves g = record {
  leaf = λ o. leaf_is o.derivation;
  fired = λ o. lost_is o.derivation;
  each = λ n h. let r = reached g n h in (record { base = r.base; sequel = r.sequel; derivation = r.derivation }, r.at);
  once = λ o p e. ap (as_offer g) (one_each (o.base, o.sequel, o.derivation) (p.base, p.sequel, p.derivation) e);
}
