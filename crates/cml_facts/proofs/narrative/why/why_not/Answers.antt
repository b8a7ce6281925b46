use Rattle.cml_facts.proofs.narrative.why.why_not.Goals as goal

pub returns-in-Exchange : goal.returns-in-Exchange
returns-in-Exchange c = rw c.in-Exchange.is (rw c.book-book.ensures at c.swap_why.ensures)
