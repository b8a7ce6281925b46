use Rattle.std.proofs.Common.{[], ◌∷◌, length, map, ap, sym, subst, ◌∙◌, append-nil, length-append, arith}
use Rattle.indexmap.proofs.CallerLemmas.{Contains-insert_key}
use Rattle.cml_verify.specs.Searches.{Keeps}
use Rattle.cml_verify.specs.Places.{came_last, was_there, mapped_last, mapped_has}
use Rattle.cml_verify.proofs.Following.{keeps_new, leads_on}
use Rattle.cml_verify.proofs.Broad.{broad_new, broad_old}
use Rattle.cml_verify.proofs.Edges.{step_to}
use Rattle.cml_verify.proofs.search.found.follow.Goals as goal

pub returns-in_ok-push-clause-keeps : goal.returns-in_ok-push-clause-keeps
returns-in_ok-push-clause-keeps g c =
    let y = g.Y.System.rules c.args.system.now in
    let f = g.Y.System.state_of c.args.system.now in
    let keys = c.args.found.now.kept.keys in
    let came = c.in_ok-next.ensures in
    keeps_new y (map f keys) c.args.found.now.origins.items c.args.at c.args.item came.0 (f c.in_ok-next.next) (sym c.requires.leads ∙ came.1) came.2
    (map f c.insert_full.new.self.keys) c.push.new.self.items
    (mapped_last f keys c.insert_full.new.self.keys c.in_ok-next.next
    (came_last g.Y.Kept.PartialEq.eq keys c.insert_full.new.self.keys c.in_ok-next.next c.in_ok-to.new c.in_ok-to.ensures.added c.in_ok-to.ensures.keys c.if-new.true))
    c.in_ok-push.ensures.items c.requires.keeps

pub returns-in_ok-push-clause-leads : goal.returns-in_ok-push-clause-leads
returns-in_ok-push-clause-leads g c =
    let y = g.Y.System.rules c.args.system.now in
    let f = g.Y.System.state_of c.args.system.now in
    let keys = c.args.found.now.kept.keys in
    let came = c.in_ok-next.ensures in (
      came.0,
      came.1,
      leads_on y (map f keys) c.args.found.now.origins.items c.args.at c.args.item came.0 (f c.in_ok-next.next) (sym c.requires.leads ∙ came.1) came.2
          (map f c.insert_full.new.self.keys)
          (mapped_has f c.insert_full.new.self.keys c.in_ok-next.next (rw c.in_ok-to.ensures.keys (Contains-insert_key g.Y.Kept.PartialEq.eq g.met.Y.System.same keys c.in_ok-next.next))),
    )

pub returns-in_ok-push-clause-longer : goal.returns-in_ok-push-clause-longer
returns-in_ok-push-clause-longer g c =
    let f = g.Y.System.state_of c.args.system.now in
    let keys = c.args.found.now.kept.keys in (
      f c.in_ok-next.next ∷ [],
      mapped_last f keys c.insert_full.new.self.keys c.in_ok-next.next
          (came_last g.Y.Kept.PartialEq.eq keys c.insert_full.new.self.keys c.in_ok-next.next c.in_ok-to.new c.in_ok-to.ensures.added c.in_ok-to.ensures.keys c.if-new.true),
    )

pub returns-in_ok-push-clause-one : goal.returns-in_ok-push-clause-one
returns-in_ok-push-clause-one g c =
    let keys = c.args.found.now.kept.keys in
    let after = c.insert_full.new.self.keys in
    let came = came_last g.Y.Kept.PartialEq.eq keys after c.in_ok-next.next c.in_ok-to.new c.in_ok-to.ensures.added c.in_ok-to.ensures.keys c.if-new.true in
    omega (arith, ap length came, length-append keys (c.in_ok-next.next ∷ []))

pub returns-in_ok-push-clause-broad : goal.returns-in_ok-push-clause-broad
returns-in_ok-push-clause-broad g c =
    let y = g.Y.System.rules c.args.system.now in
    let f = g.Y.System.state_of c.args.system.now in
    let keys = c.args.found.now.kept.keys in
    let came = c.in_ok-next.ensures in
    λ q begun b. broad_new y q c.args.at (map f keys) c.args.found.now.origins.items begun c.args.item came.0 (f c.in_ok-next.next) (sym c.requires.leads ∙ came.1) came.2 b
    c.requires.keeps.trail (map f c.insert_full.new.self.keys) c.push.new.self.items
    (mapped_last f keys c.insert_full.new.self.keys c.in_ok-next.next
    (came_last g.Y.Kept.PartialEq.eq keys c.insert_full.new.self.keys c.in_ok-next.next c.in_ok-to.new c.in_ok-to.ensures.added c.in_ok-to.ensures.keys c.if-new.true))
    c.in_ok-push.ensures.items

pub returns-else-new-clause-keeps : goal.returns-else-new-clause-keeps
returns-else-new-clause-keeps g c =
    let y = g.Y.System.rules c.args.system.now in
    let f = g.Y.System.state_of c.args.system.now in
    subst (λ l. Keeps y (map f l) c.args.found.now.origins.items)
    (sym (was_there g.Y.Kept.PartialEq.eq c.args.found.now.kept.keys c.insert_full.new.self.keys c.in_ok-next.next c.in_ok-to.new c.in_ok-to.ensures.added c.in_ok-to.ensures.keys c.if-new.false))
    c.requires.keeps

pub returns-else-new-clause-longer : goal.returns-else-new-clause-longer
returns-else-new-clause-longer g c =
    let f = g.Y.System.state_of c.args.system.now in
    let keys = c.args.found.now.kept.keys in (
      [],
      ap (map f) (was_there g.Y.Kept.PartialEq.eq keys c.insert_full.new.self.keys c.in_ok-next.next c.in_ok-to.new c.in_ok-to.ensures.added c.in_ok-to.ensures.keys c.if-new.false)
          ∙ sym (append-nil (map f keys)),
    )

pub returns-else-new-clause-leads : goal.returns-else-new-clause-leads
returns-else-new-clause-leads g c =
    let y = g.Y.System.rules c.args.system.now in
    let f = g.Y.System.state_of c.args.system.now in
    let keys = c.args.found.now.kept.keys in
    let came = c.in_ok-next.ensures in (
      came.0,
      came.1,
      leads_on y (map f keys) c.args.found.now.origins.items c.args.at c.args.item came.0 (f c.in_ok-next.next) (sym c.requires.leads ∙ came.1) came.2
          (map f c.insert_full.new.self.keys)
          (mapped_has f c.insert_full.new.self.keys c.in_ok-next.next (rw c.in_ok-to.ensures.keys (Contains-insert_key g.Y.Kept.PartialEq.eq g.met.Y.System.same keys c.in_ok-next.next))),
    )

pub returns-else-new-clause-one : goal.returns-else-new-clause-one
returns-else-new-clause-one g c =
    let keys = c.args.found.now.kept.keys in
    let after = c.insert_full.new.self.keys in
    let same = was_there g.Y.Kept.PartialEq.eq keys after c.in_ok-next.next c.in_ok-to.new c.in_ok-to.ensures.added c.in_ok-to.ensures.keys c.if-new.false in
    omega (arith, ap length same)

pub returns-else-new-clause-broad : goal.returns-else-new-clause-broad
returns-else-new-clause-broad g c =
    let y = g.Y.System.rules c.args.system.now in
    let f = g.Y.System.state_of c.args.system.now in
    let keys = c.args.found.now.kept.keys in
    let came = c.in_ok-next.ensures in
    λ q begun b. broad_old y q c.args.at (map f keys) c.args.found.now.origins.items begun c.args.item came.0 (f c.in_ok-next.next) (sym c.requires.leads ∙ came.1) came.2 b
    (map f c.insert_full.new.self.keys)
    (ap (map f) (was_there g.Y.Kept.PartialEq.eq keys c.insert_full.new.self.keys c.in_ok-next.next c.in_ok-to.new c.in_ok-to.ensures.added c.in_ok-to.ensures.keys c.if-new.false))
    (mapped_has f c.insert_full.new.self.keys c.in_ok-next.next (rw c.in_ok-to.ensures.keys (Contains-insert_key g.Y.Kept.PartialEq.eq g.met.Y.System.same keys c.in_ok-next.next)))

pub returns-in_ok-push-clause-place : goal.returns-in_ok-push-clause-place
returns-in_ok-push-clause-place g c =
    let f = g.Y.System.state_of c.args.system.now in
    let came = c.in_ok-next.ensures in
    let stored = c.in_ok-to.ensures.stored in
    let y = g.Y.System.rules c.args.system.now in
    (came.0, came.1, step_to f (g.met.Y.System.same c.in_ok-next.next stored.0 stored.2) y came.0 c.args.item c.insert_full.new.self.keys c.in_ok-to.to stored.1 came.2)

pub returns-else-new-clause-place : goal.returns-else-new-clause-place
returns-else-new-clause-place g c =
    let f = g.Y.System.state_of c.args.system.now in
    let came = c.in_ok-next.ensures in
    let stored = c.in_ok-to.ensures.stored in
    let y = g.Y.System.rules c.args.system.now in
    (came.0, came.1, step_to f (g.met.Y.System.same c.in_ok-next.next stored.0 stored.2) y came.0 c.args.item c.insert_full.new.self.keys c.in_ok-to.to stored.1 came.2)
