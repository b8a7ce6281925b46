use Rattle.std.proofs.Common.{◌++◌, ap, sym, ◌∙◌}
use Rattle.std.proofs.lemmas.List.{append-nil}
use Rattle.cml_value.specs.Group.{bases}
use Rattle.cml_scan.specs.World.{pending}
use Rattle.cml_book.specs.Clock.{bases_awaited}
use Rattle.cml_book.specs.Keeping.{lights_in}
use Rattle.cml_book.specs.Leaving.{bases_of}
use Rattle.cml_book.proofs.Quiet.{none_left}
use Rattle.cml_book.proofs.state.State.push_left_ticks.Goals as goal

pub returns-then-is_tickless-clause-lights : goal.returns-then-is_tickless-clause-lights
returns-then-is_tickless-clause-lights c =
    let bs = bases c.args.flat.now in
    let none = none_left (bases_awaited (pending c.args.self.now)) bs (bases_of c.args.other) bs (c.is_tickless.ensures c.if-is_tickless.true) in
    sym (append-nil c.args.lights.now.items) ∙ ap (λ ls. c.args.lights.now.items ++ lights_in ls) (sym none)
