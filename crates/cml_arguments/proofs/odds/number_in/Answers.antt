use Rattle.std.proofs.Common.{◌≡◌, ◌++◌, codes, List, ℕ, Some, None}
use Rattle.std.proofs.lemmas.Bool.Decides.{Decides-eqb}
use Rattle.std.proofs.lemmas.Slice.Eq.{strip_prefix_is, strip_suffix_is}
use Rattle.cml_arguments.proofs.OddsLemmas.{number_in_rest}
use Rattle.cml_arguments.proofs.odds.number_in.Goals as goal

pub returns-in-Some : goal.returns-in-Some
returns-in-Some c =
    number_in_rest c.args.rest.now c.in-Some.number.now c.strip_suffix.result
    (strip_prefix_is Decides-eqb c.args.rest.now (codes "-") (Some c.in-Some.number) c.in-Some.ensures.cases)
    (strip_suffix_is Decides-eqb c.in-Some.number.now (codes ".schedule") c.strip_suffix.result c.strip_suffix.ensures.cases)

pub returns-in-None : goal.returns-in-None
returns-in-None c =
    let none : (rest : List ℕ) → c.args.rest.now ≡ codes "-" ++ rest → ⊥ = strip_prefix_is Decides-eqb c.args.rest.now (codes "-") None c.in-None.ensures.cases in
    λ digits e. none (digits ++ codes ".schedule") e
