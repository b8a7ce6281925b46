use Rattle.std.proofs.Common.{◌≡◌, ◌++◌, List, ℕ, Some, None}
use Rattle.std.proofs.lemmas.Bool.Decides.{Decides-eqb}
use Rattle.std.proofs.lemmas.Slice.Eq.{strip_prefix_is}
use Rattle.cml_arguments.specs.Words.{saved_end}
use Rattle.cml_arguments.proofs.OddsLemmas.{number_after_start}
use Rattle.cml_arguments.proofs.odds.number_after.Goals as goal

pub returns-in-Some : goal.returns-in-Some
returns-in-Some c =
    number_after_start c.args.start.now c.args.name.now c.in-Some.rest.now c.number_in.result
    (strip_prefix_is Decides-eqb c.args.name.now c.args.start.now (Some c.in-Some.rest) c.in-Some.ensures.cases) c.number_in.ensures

pub returns-in-None : goal.returns-in-None
returns-in-None c =
    let none : (rest : List ℕ) → c.args.name.now ≡ c.args.start.now ++ rest → ⊥ =
    strip_prefix_is Decides-eqb c.args.name.now c.args.start.now None c.in-None.ensures.cases in
    λ digits e. none (saved_end digits) e
