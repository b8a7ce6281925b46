use Rattle.std.proofs.Common.{sym}
use Rattle.cml_check.proofs.HeadLemmas.{takes-some, takes-none}
use Rattle.cml_check.proofs.head.Heads.takes.Goals as goal

pub returns-in-Some : goal.returns-in-Some
returns-in-Some c =
    let h = c.in-Some.ensures.lookup in
    rw (← c.self.view_is, c.len.ensures.len)
    (sym (takes-some c.self.inside.items.items c.args.number c.args.count c.in-Some.head.now
    (rw (← c.deref.ensures.value) h.3.0) (rw (← c.deref.ensures.value) (h.3.1 c.in-Some.head.now))))

pub returns-in-None : goal.returns-in-None
returns-in-None c =
    let h = c.in-None.ensures.lookup in
    rw (← c.self.view_is) (sym (takes-none c.self.inside.items.items c.args.number c.args.count (rw (← c.deref.ensures.value) h.3)))
