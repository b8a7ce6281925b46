use Rattle.std.proofs.Common.{◌∙◌, ◌≤◌, arith}
use Rattle.cml_book.proofs.Dimmed.{keeps_clock}
use Rattle.cml_book.proofs.Pendings.{without_none}
use Rattle.cml_book.proofs.book.Book.clock.Goals as goal

pub invariant_of-self-2 : goal.invariant_of-self-2
invariant_of-self-2 g c =
    let w = c.self.inside.state in
    let es = g.T.Table.entries c.self.inside.table in
    let later : w.tick ≤ c.args.to = omega (arith, c.if-to-now.false, c.now.ensures) in
    let k = keeps_clock w es (g.T.Table.entries c.change.new.self) (g.T.Table.is_lit c.self.inside.table) (g.T.Table.is_lit c.change.new.self) _ c.args.to c.deref.result.now c.self.invariant.0 later
    (c.in-Ok.ensures.ok ∙ without_none es) c.in-Ok.ensures.ok_lit (rw c.deref.ensures.value c.in_ok-ticks.ensures.only) (rw c.deref.ensures.value c.in_ok-ticks.ensures.all) in
    (rw c.advance.ensures k, c.self.invariant.1, c.self.invariant.2)
