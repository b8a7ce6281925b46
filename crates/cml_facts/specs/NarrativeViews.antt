-- What the structs of `src/` say.
use Rattle.std.specs.Prelude.{ℕ, List}
use Rattle.cml_value.specs.Value.{PlainBase}
use Rattle.cml_group.specs.declared.flat.Chosen.{Chosen}
use Rattle.cml_group.specs.Leaves.{numbers}

-- what is taken at a leaf: the base event, and the nacks that fire
pub record PlainTaken : Type 0 where
  pub base : PlainBase
  pub fired : List ℕ

abbrev pub plain_taken : Chosen → PlainTaken
plain_taken x = record { base = x.base; fired = numbers x.lost.items }
