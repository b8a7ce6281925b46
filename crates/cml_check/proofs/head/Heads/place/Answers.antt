use Rattle.std.proofs.Common.{sym}
use Rattle.cml_check.proofs.HeadLemmas.{place-some}
use Rattle.cml_check.proofs.head.Heads.place.Goals as goal

pub returns-in-Some : goal.returns-in-Some
returns-in-Some c =
    let h = c.in-Some.ensures.lookup in
    rw (← c.self.view_is) (sym (place-some c.self.inside.items.items c.args.number c.in-Some.head.now (rw (← c.deref.ensures.value) h.3.0) (rw (← c.deref.ensures.value) (h.3.1 c.in-Some.head.now))))
