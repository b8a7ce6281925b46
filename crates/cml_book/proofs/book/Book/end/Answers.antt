use Rattle.std.proofs.Common.{sym, ◌∙◌}
use Rattle.cml_book.proofs.Accepted.{runs_none}
use Rattle.cml_book.proofs.Keepings.{keeps_end}
use Rattle.cml_book.proofs.book.Book.end.Goals as goal

pub invariant_of-self-2 : goal.invariant_of-self-2
invariant_of-self-2 g c =
    let runs = runs_none _ (sym c.thread_refusal.ensures ∙ c.in_default.is) in
    rw c.end.ensures (keeps_end c.self.inside.state _ _ _ c.args.thread _ _ c.self.invariant.0 runs c.in_ok-change.ensures.ok c.in_ok-change.ensures.ok_lit, c.self.invariant.1, c.self.invariant.2)
