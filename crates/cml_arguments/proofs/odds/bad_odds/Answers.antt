use Rattle.std.proofs.Common.{rules, ◌≡◌, false}
use Rattle.cml_arguments.specs.Words.{start_of}
use Rattle.cml_arguments.proofs.odds.bad_odds.Goals as goal

pub returns : goal.returns
returns c =
    let named : c.as_str.result.now ≡ start_of c.args.start.now false = search rules in
    rw named at c.saved_odds.ensures
