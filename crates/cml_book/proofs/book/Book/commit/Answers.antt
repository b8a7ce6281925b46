use Rattle.std.proofs.Common.{refl}
use Rattle.cml_book.proofs.Commits.{row_refused, row_there}
use Rattle.cml_book.proofs.book.Book.commit.Goals as goal

pub returns-then-not-has-clause-step : goal.returns-then-not-has-clause-step
returns-then-not-has-clause-step g c = (
  rw (← c.self.view_is) (row_refused c.self.inside.state (g.T.Table.entries c.self.inside.table)
      (g.T.Table.is_lit c.self.inside.table) _ c.args.row c.has.result c.self.invariant.0 c.has.ensures (cc)),
  refl,
)

pub commit_known-requires : goal.commit_known-requires
commit_known-requires g c =
    rw (← c.self.view_is) (row_there c.self.inside.state (g.T.Table.entries c.self.inside.table)
    (g.T.Table.is_lit c.self.inside.table) _ c.args.row c.args.row c.has.result c.self.invariant.0 c.has.ensures
    (cc) refl)
