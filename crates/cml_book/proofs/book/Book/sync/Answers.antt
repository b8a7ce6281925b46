use Rattle.std.proofs.Common.{rules, ◌≡◌, Bool, not, List, None, sym, ◌∙◌, ap, refl, arith, subst}
use Rattle.cml_value.specs.Group.{bases}
use Rattle.cml_scan.specs.World.{PlainWorld, PlainEntry}
use Rattle.cml_scan.specs.Light.{light_of}
use Rattle.cml_scan.specs.declared.object.Light.{Light}
use Rattle.cml_book.specs.Sync.{sync_refusal, waiting}
use Rattle.cml_book.specs.Keeping.{lights_in, Room, Keeps}
use Rattle.cml_book.specs.Walks.{IsStanding, IsQuiet}
use Rattle.cml_book.proofs.Pendings.{running_is_new}
use Rattle.cml_book.proofs.Accepted.{Accepted, accepted}
use Rattle.cml_book.proofs.Commits.{flat_is, found}
use Rattle.cml_book.proofs.Keepings.{keeps_same, keeps_roomier}
use Rattle.cml_book.proofs.Syncs.{sync_refused, sync_accepted, apart_of, enters_flat, keeps_arrives, waits_now, fresh_now, entered_now, back_now, fits_same, grows_same}
use Rattle.cml_book.proofs.AwaitedLights.{split_all}
use Rattle.cml_book.proofs.book.Book.sync.Given.{Over}
use Rattle.cml_book.proofs.book.Book.sync.Goals.{In_default}
use Rattle.cml_book.proofs.book.Book.sync.Goals as goal

keeps_again : {v w : PlainWorld} {es : List PlainEntry} {told : Light → Bool} {room : Room} → w ≡ v → Keeps v es told room → Keeps w es told room
keeps_again {es = es} {told = told} {room = room} same k = subst (λ (x : PlainWorld). Keeps x es told room) (sym same) k

pub returns-in-Some : goal.returns-in-Some
returns-in-Some g c = (
  rw (← c.self.view_is) (sync_refused c.self.inside.state c.args.thread.0 c.args.group.now c.in-Some.why
      (sym c.sync_refusal.ensures.why ∙ c.in-Some.is)),
  c.sync_refusal.ensures.same ∙ c.self.view_is,
)

pub returns-in_default-make_room : goal.returns-in_default-make_room
returns-in_default-make_room g c =
    let none : sync_refusal c.self.inside.state c.args.thread.0 c.args.group.now ≡ None = sym c.sync_refusal.ensures.why ∙ c.in_default.is in
    (rw (← c.self.view_is) (rw (sync_accepted c.self.inside.state c.args.thread.0 c.args.group.now none) refl), c.sync_refusal.ensures.same ∙ c.self.view_is)

pub returns-in_default-wait : goal.returns-in_default-wait
returns-in_default-wait g c =
    let none : sync_refusal c.self.inside.state c.args.thread.0 c.args.group.now ≡ None = sym c.sync_refusal.ensures.why ∙ c.in_default.is in
    (rw (← c.self.view_is) (rw (sync_accepted c.self.inside.state c.args.thread.0 c.args.group.now none) refl), c.in_default-wait.ensures.err ∙ c.sync_refusal.ensures.same ∙ c.self.view_is)

pub entered-requires-clause-standing : goal.entered-requires-clause-standing
entered-requires-clause-standing g c =
    subst (λ (x : PlainWorld). IsStanding x c.args.group.now c.standing-standing.result.scoped) (sym c.sync_refusal.ensures.same) c.standing-standing.ensures.standing

pub entered-requires-clause-quiet : goal.entered-requires-clause-quiet
entered-requires-clause-quiet g c = λ is.
    subst (λ (x : PlainWorld). IsQuiet x c.args.group.now) (sym c.sync_refusal.ensures.same) (c.standing-standing.ensures.quiet is)

-- the wait is not refused
none_here : (g : Over) (c : In_default g) → sync_refusal c.sync_refusal.new.self c.args.thread.0 c.args.group.now ≡ None
none_here g c =
    ap (λ (x : PlainWorld). sync_refusal x c.args.thread.0 c.args.group.now) c.sync_refusal.ensures.same
    ∙ sym c.sync_refusal.ensures.why ∙ c.in_default.is

accepted_here : (g : Over) (c : In_default g) → Accepted c.sync_refusal.new.self c.args.thread.0 c.args.group.now
accepted_here g c = accepted c.sync_refusal.new.self c.args.thread.0 c.args.group.now (none_here g c)

pub unreachable-requires : goal.unreachable-requires
unreachable-requires g c =
    let w = c.sync_refusal.new.self in
    let a = accepted_here g (goal.at.unreachable-requires g c).In_default in
    let flat = c.in_ok-flat.flat in
    let waits = waits_now w c.wait.new.self c.args.thread.0 flat a.thread_runs c.in-Ok-wait.ensures.ok in
    found c.waiting.result c.wait.new.self c.args.thread.0 flat c.waiting.ensures waits c.in_default-waiting.is

pub change-told-requires : goal.change-told-requires
change-told-requires g c = record {
  ready = record {
    there = search rules;
    once = search rules;
    new =
        let w = c.sync_refusal.new.self in
        let same = c.sync_refusal.ensures.same in
        let a = accepted_here g (goal.at.change-told-requires g c).In_default in
        let k = keeps_again same c.self.invariant.0 in
        rw (k.told_groups) (running_is_new c.args.thread.0 0 c.args.thread.0 w.threads (omega arith) a.thread_runs);
    apart =
        let w = c.sync_refusal.new.self in
        let flat = c.in_ok-flat.flat in
        let on = split_all (light_of w) (lights_in (bases flat)) _ c.push_awaited.new.lit.items c.deref.result.now
        (c.make_room.ensures.lit ∙ c.self.invariant.1) c.push_awaited.ensures.lit c.deref.ensures.value in
        let off = split_all (λ l. not (light_of w l)) (lights_in (bases flat)) _ c.push_awaited.new.unlit.items
        c.deref-2.result.now (c.make_room.ensures.unlit ∙ c.self.invariant.2) c.push_awaited.ensures.unlit
        c.deref-2.ensures.value in
        apart_of (light_of w) (lights_in (bases flat)) _ _ on off;
  };
}

pub invariant_of-self-in_default-told : goal.invariant_of-self-in_default-told
invariant_of-self-in_default-told g c =
    let w = c.sync_refusal.new.self in
    let same = c.sync_refusal.ensures.same in
    let a = accepted_here g (goal.at.invariant_of-self-in_default-told g c).In_default in
    let k = keeps_again same c.self.invariant.0 in
    let flat = c.in_ok-flat.flat in
    let world = back_now w c.wait.new.self c.withdraw.new.self c.args.thread.0 flat a.thread_runs c.in-Ok-wait.ensures.ok c.withdraw.ensures in
    let again = keeps_same w (g.T.Table.entries c.self.inside.table) (g.T.Table.is_lit c.self.inside.table) _
    (g.T.Table.entries c.change-told.new.self) (g.T.Table.is_lit c.change-told.new.self)
    c.in_default-told.ensures.err c.in_default-told.ensures.err_lit k in
    let size_on = c.clear-2.ensures.capacity ∙ c.push_awaited.ensures.room.0 in
    let size_off = c.clear-3.ensures.capacity ∙ c.push_awaited.ensures.room.1 in (
      rw world (keeps_roomier w (g.T.Table.entries c.change-told.new.self) (g.T.Table.is_lit c.change-told.new.self) _ _
          (grows_same _ _ _ _ _ c.make_room.ensures.grows size_on size_off) again),
      c.clear-2.ensures.items,
      c.clear-3.ensures.items,
    )

pub returns-in_default-told : goal.returns-in_default-told
returns-in_default-told g c =
    let w = c.sync_refusal.new.self in
    let same = c.sync_refusal.ensures.same in
    let none = none_here g (goal.at.returns-in_default-told g c).In_default in
    let a = accepted_here g (goal.at.returns-in_default-told g c).In_default in
    let flat = c.in_ok-flat.flat in
    let world = back_now w c.wait.new.self c.withdraw.new.self c.args.thread.0 flat a.thread_runs c.in-Ok-wait.ensures.ok c.withdraw.ensures in
    (rw (← c.self.view_is, ← same) (rw (sync_accepted w c.args.thread.0 c.args.group.now none) refl), world ∙ same ∙ c.self.view_is)

pub enter_nacks-requires : goal.enter_nacks-requires
enter_nacks-requires g c =
    let w = c.sync_refusal.new.self in
    let a = accepted_here g (goal.at.enter_nacks-requires g c).In_default in
    let flat = c.in_ok-flat.flat in
    fresh_now w c.wait.new.self c.args.thread.0 flat a.thread_runs c.in-Ok-wait.ensures.ok (enters_flat w c.args.thread.0 c.args.group.now flat a c.in_ok-flat.ensures)

pub invariant_of-self-2 : goal.invariant_of-self-2
invariant_of-self-2 g c =
    let w = c.sync_refusal.new.self in
    let same = c.sync_refusal.ensures.same in
    let a = accepted_here g (goal.at.invariant_of-self-2 g c).In_default in
    let k = keeps_again same c.self.invariant.0 in
    let flat = c.in_ok-flat.flat in
    let waits = waits_now w c.wait.new.self c.args.thread.0 flat a.thread_runs c.in-Ok-wait.ensures.ok in
    let is = flat_is c.waiting.result c.in-Some-waiting.flat c.wait.new.self c.args.thread.0 flat c.waiting.ensures waits c.in-Some-waiting.is in
    let world = entered_now w c.wait.new.self c.enter_nacks.new.self c.args.thread.0 flat a.thread_runs c.in-Ok-wait.ensures.ok c.enter_nacks.ensures in
    let on = split_all (light_of w) (lights_in (bases flat)) _ c.push_awaited.new.lit.items c.deref.result.now
    (c.make_room.ensures.lit ∙ c.self.invariant.1) c.push_awaited.ensures.lit c.deref.ensures.value in
    let off = split_all (λ l. not (light_of w l)) (lights_in (bases flat)) _ c.push_awaited.new.unlit.items
    c.deref-2.result.now (c.make_room.ensures.unlit ∙ c.self.invariant.2) c.push_awaited.ensures.unlit
    c.deref-2.ensures.value in
    let size_on = c.clear-2.ensures.capacity ∙ c.push_awaited.ensures.room.0 in
    let size_off = c.clear-3.ensures.capacity ∙ c.push_awaited.ensures.room.1 in
    let kept = keeps_arrives w (g.T.Table.entries c.self.inside.table) (g.T.Table.is_lit c.self.inside.table) _ c.args.thread.0 c.args.group.now flat _
    (g.T.Table.entries c.change-told.new.self) (g.T.Table.is_lit c.change-told.new.self) c.deref.result.now c.deref-2.result.now c.group.result.now
    k a c.in_ok-flat.ensures (fits_same flat _ _ _ _ (c.in-Ok.ensures.fits c.self.invariant.1 c.self.invariant.2) size_on size_off) (grows_same _ _ _ _ _ c.make_room.ensures.grows size_on size_off)
    (c.group.ensures ∙ is) c.in-Ok-told.ensures.ok c.in-Ok-told.ensures.ok_lit on off in
    (rw world kept, c.clear-2.ensures.items, c.clear-3.ensures.items)

pub returns : goal.returns
returns g c =
    let w = c.sync_refusal.new.self in
    let same = c.sync_refusal.ensures.same in
    let none = none_here g (goal.at.returns g c).In_default in
    let a = accepted_here g (goal.at.returns g c).In_default in
    let flat = c.in_ok-flat.flat in
    let world = entered_now w c.wait.new.self c.enter_nacks.new.self c.args.thread.0 flat a.thread_runs c.in-Ok-wait.ensures.ok c.enter_nacks.ensures in
    let new = world ∙ ap (waiting w c.args.thread.0) c.in_ok-flat.ensures in
    rw (← c.self.view_is, ← same, new) (sync_accepted w c.args.thread.0 c.args.group.now none)
