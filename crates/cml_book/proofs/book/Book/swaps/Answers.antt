use Rattle.std.proofs.Common.{◌≡◌, Bool, true, false, ◌&&◌, refl, sym, ◌∙◌}
use Rattle.cml_book.proofs.Commits.{has_is}
use Rattle.cml_book.proofs.book.Book.swaps.Goals as goal

not_both : (a b : Bool) → b ≡ false → a && b ≡ false
not_both true b off = off
not_both false b off = refl

first_of : (a b : Bool) → b ≡ true → a && b ≡ a
first_of true b on = on
first_of false b on = refl

pub returns-then-not-are_swaps : goal.returns-then-not-are_swaps
returns-then-not-are_swaps g c = rw (← c.self.view_is) (sym (not_both _ _ (sym c.are_swaps.ensures ∙ c.if-not-are_swaps.true)))

pub returns : goal.returns
returns g c =
    let w = c.self.inside.state in
    let has = has_is w (g.T.Table.entries c.self.inside.table) (g.T.Table.is_lit c.self.inside.table) _ c.args.row.now c.has.result c.self.invariant.0 c.has.ensures in
    rw (← c.self.view_is) (sym (first_of _ _ (sym c.are_swaps.ensures ∙ c.if-not-are_swaps.false) ∙ has))
