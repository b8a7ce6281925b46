use Rattle.cml_book.proofs.Commits.{scan_is}
use Rattle.cml_book.proofs.book.Book.table.Goals as goal

pub returns-clause-rows : goal.returns-clause-rows
returns-clause-rows g c =
    rw (← c.self.view_is) (scan_is c.self.inside.state (g.T.Table.entries c.self.inside.table) (g.T.Table.is_lit c.self.inside.table) _ c.self.invariant.0)
