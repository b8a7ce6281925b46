use Rattle.std.proofs.Common.{true, false, length, List, Bool, ap, sym, ◌∙◌, subst}
use Rattle.cml_value.specs.Group.{scopes, nacks_of}
use Rattle.cml_book.specs.Sync.{with_each}
use Rattle.cml_book.specs.NackMarks.{AreClear}
use Rattle.cml_book.proofs.NackLemmas.{length-with_each}
use Rattle.cml_book.proofs.Marking.{each_once, clear_again}
use Rattle.cml_book.proofs.marks.NackMarks.each_once.Goals as goal

pub invariant_of-self : goal.invariant_of-self
invariant_of-self c =
    let ks = nacks_of (scopes c.args.group.now) in
    let new = c.set_each.ensures.marks ∙ ap (λ ms. with_each ks false ms) c.set_each-once.ensures.marks in
    subst (λ (ms : List Bool). AreClear ms) (sym new) (clear_again ks c.self.inside.marks.items c.self.invariant)

pub returns-clause-once : goal.returns-clause-once
returns-clause-once c =
    let ks = nacks_of (scopes c.args.group.now) in
    let inside = rw (← c.self.view_is) at c.requires in
    c.set_each-once.ensures.other ∙ each_once ks c.self.inside.marks.items c.self.invariant inside

pub returns-clause-same : goal.returns-clause-same
returns-clause-same c =
    let ks = nacks_of (scopes c.args.group.now) in
    let new = c.set_each.ensures.marks ∙ ap (λ ms. with_each ks false ms) c.set_each-once.ensures.marks in
    ap length new
    ∙ length-with_each ks false (with_each ks true c.self.inside.marks.items)
    ∙ length-with_each ks true c.self.inside.marks.items
    ∙ c.self.view_is
