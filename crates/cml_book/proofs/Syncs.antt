-- A wait on a group that is not refused.
use Rattle.std.proofs.Common.{◌≡◌, ℕ, Bool, true, false, not, List, [], ◌∷◌, refl, ap, sym, subst, ◌∙◌, Some, None, Ok, Err, cond}
use Rattle.std.specs.Prelude.{All, slice_get}
use Rattle.std.specs.List.{filter}
use Rattle.std.proofs.lemmas.List.Elements.{All-nil, All-cons}
use Rattle.cml_value.specs.Group.{PlainGroup, bases, scopes, nacks_of}
use Rattle.cml_scan.specs.World.{PlainWorld, PlainEntry, running, pending_on, live}
use Rattle.cml_scan.specs.Light.{light_of}
use Rattle.cml_scan.specs.Table.{has_light, same_light, AreApart, with_entry, without, lit_after}
use Rattle.cml_scan.specs.declared.object.Light.{Light}
use Rattle.cml_scan.proofs.Telling.{same_light_is}
use Rattle.cml_book.specs.declared.refusal.Refusal.{Refusal}
use Rattle.cml_book.specs.Entering.{entered}
use Rattle.cml_book.specs.Sync.{sync, sync_refusal, waiting, with_each}
use Rattle.cml_book.specs.Outcomes.{with_thread}
use Rattle.cml_book.specs.Commit.{awaited, group_awaited}
use Rattle.cml_book.specs.Keeping.{lights_in, AreFresh, Room, FitsIn, RoomGrows, Keeps}
use Rattle.cml_book.proofs.Given.{set_back}
use Rattle.cml_book.proofs.Accepted.{Accepted}
use Rattle.cml_book.proofs.Entered.{scopes-entered}
use Rattle.cml_book.proofs.NackLemmas.{CanEnter, can_enter_is, can_enter_fresh, get-set_same}
use Rattle.cml_book.proofs.Keepings.{keeps_wait}

pub sync_refused : (w : PlainWorld) (t : ℕ) (g : PlainGroup) (why : Refusal) → sync_refusal w t g ≡ Some why → sync w t g ≡ Err why
sync_refused w t g why e = rw e refl

pub sync_accepted : (w : PlainWorld) (t : ℕ) (g : PlainGroup) → sync_refusal w t g ≡ None → sync w t g ≡ Ok (waiting w t (entered w.tick g), tt)
sync_accepted w t g e = rw e refl

-- a light that is lit is not among those that are not
not_among : (p : Light → Bool) (ls : List Light) (l : Light) → p l ≡ true → has_light (filter (λ x. not (p x)) ls) l ≡ false
not_among p [] l h = refl
not_among p (m ∷ ls) l h = at (p m) (same_light l m) refl refl (not_among p ls l h)
  where
    at : (b s : Bool) → p m ≡ b → same_light l m ≡ s → has_light (filter (λ x. not (p x)) ls) l ≡ false
        → has_light (cond (not b) (m ∷ filter (λ x. not (p x)) ls) (filter (λ x. not (p x)) ls)) l ≡ false
    at true s e f ih = ih
    at false true e f ih = let same : l ≡ m = same_light_is l m f in let on : p m ≡ true = ap p (sym same) ∙ h in cc
    at false false e f ih = rw f ih

-- no light is told to be both
pub lights_apart : (p : Light → Bool) (ls : List Light) → AreApart (filter p ls) (filter (λ x. not (p x)) ls)
lights_apart p ls = each ls
  where
    each : (ms : List Light) → All (λ l. has_light (filter (λ x. not (p x)) ls) l ≡ false) (filter p ms)
    each [] = All-nil _
    each (m ∷ ms) = at (p m) refl (each ms)
      where
        at : (b : Bool) → p m ≡ b → All (λ l. has_light (filter (λ x. not (p x)) ls) l ≡ false) (filter p ms)
            → All (λ l. has_light (filter (λ x. not (p x)) ls) l ≡ false) (cond b (m ∷ filter p ms) (filter p ms))
        at true e ih = All-cons (λ (l : Light). has_light (filter (λ x. not (p x)) ls) l ≡ false) m (filter p ms) (not_among p ls m e) ih
        at false e ih = ih

pub apart_of : (p : Light → Bool) (ls lit unlit : List Light) → lit ≡ filter p ls → unlit ≡ filter (λ x. not (p x)) ls → AreApart lit unlit
apart_of p ls lit unlit e f = rw (e, f) (lights_apart p ls)

-- the nacks of the group as it entered are those of the group
pub enters_flat : (w : PlainWorld) (t : ℕ) (g flat : PlainGroup) → Accepted w t g → flat ≡ entered w.tick g → CanEnter t (nacks_of (scopes flat)) w.nacks
enters_flat w t g flat a is =
    let ks : nacks_of (scopes flat) ≡ nacks_of (scopes g) = ap (λ x. nacks_of (scopes x)) is ∙ ap nacks_of (scopes-entered w.tick g) in
    subst (λ xs. CanEnter t xs w.nacks) (sym ks) (can_enter_is w t (nacks_of (scopes g)) a.enters)

-- what a book keeps when a group has arrived
pub keeps_arrives : (w : PlainWorld) (es : List PlainEntry) (told : Light → Bool) (room : Room) (t : ℕ)
    (g flat : PlainGroup) (room' : Room) (es' : List PlainEntry) (told' : Light → Bool) (lit unlit : List Light)
    (shown : PlainGroup)
    → Keeps w es told room → Accepted w t g → flat ≡ entered w.tick g
    → FitsIn flat room' → ((x : PlainGroup) → FitsIn x room → FitsIn x room')
    → shown ≡ flat → es' ≡ with_entry (record { thread = t; group = shown }) (without [] es)
    → ((l : Light) → told' l ≡ lit_after lit unlit l (told l))
    → lit ≡ filter (light_of w) (lights_in (bases flat)) → unlit ≡ filter (λ l. not (light_of w l)) (lights_in (bases flat))
    → Keeps (waiting w t flat) es' told' room'
keeps_arrives w es told room t g flat room' es' told' lit unlit shown k a is own more same came tells on off =
    keeps_wait w es told room t flat room' es' told' k a.thread_runs (enters_flat w t g flat a is)
    own more (came ∙ ap (λ x. with_entry (record { thread = t; group = x }) (without [] es)) same)
    (λ l. tells l ∙ ap (λ x. lit_after x unlit l (told l)) on ∙ ap (λ x. lit_after (filter (light_of w) (lights_in (bases flat))) x l (told l)) off)

-- the thread waits, and its nacks are as they were
pub waits_now : (w w' : PlainWorld) (t : ℕ) (flat : PlainGroup) → slice_get w.threads t ≡ Some running → w' ≡ with_thread w t (pending_on flat) → slice_get w'.threads t ≡ Some (pending_on flat)
waits_now w w' t flat runs is = ap (λ (x : PlainWorld). slice_get x.threads t) is ∙ get-set_same w.threads t (pending_on flat) running runs

pub fresh_now : (w w' : PlainWorld) (t : ℕ) (flat : PlainGroup) → slice_get w.threads t ≡ Some running → w' ≡ with_thread w t (pending_on flat) → CanEnter t (nacks_of (scopes flat)) w.nacks
    → AreFresh (nacks_of (scopes (group_awaited w' t))) w'.nacks
fresh_now w w' t flat runs is can =
    let group : group_awaited w' t ≡ flat = ap awaited (waits_now w w' t flat runs is) in
    let nacks : w'.nacks ≡ w.nacks = ap (λ (x : PlainWorld). x.nacks) is in
    rw (group, nacks) (can_enter_fresh t _ w.nacks can)

-- the thread waits, and its nacks are live
pub entered_now : (w w' w'' : PlainWorld) (t : ℕ) (flat : PlainGroup) → slice_get w.threads t ≡ Some running → w' ≡ with_thread w t (pending_on flat)
    → w'' ≡ record w' { nacks = with_each (nacks_of (scopes (group_awaited w' t))) live w'.nacks } → w'' ≡ waiting w t flat
entered_now w w' w'' t flat runs is then_is =
    let group : group_awaited w' t ≡ flat = ap awaited (waits_now w w' t flat runs is) in
    then_is ∙ ap (λ f. record w' { nacks = with_each (nacks_of (scopes f)) live w'.nacks }) group ∙ ap (λ (x : PlainWorld). record x { nacks = with_each (nacks_of (scopes flat)) live x.nacks }) is

-- the thread runs again
pub back_now : (w w' w'' : PlainWorld) (t : ℕ) (flat : PlainGroup) → slice_get w.threads t ≡ Some running → w' ≡ with_thread w t (pending_on flat) → w'' ≡ with_thread w' t running → w'' ≡ w
back_now w w' w'' t flat runs is again = again ∙ ap (λ (x : PlainWorld). with_thread x t running) is ∙ ap (λ ts. record w { threads = ts }) (set_back w.threads t (pending_on flat) running runs)

-- there is as much room as after it was made
pub grows_same : (old : Room) (a b a' b' : ℕ) → RoomGrows old (record { lit = a; unlit = b }) → a' ≡ a → b' ≡ b → RoomGrows old (record { lit = a'; unlit = b' })
grows_same old a b a' b' grows e f = rw (e, f) grows

pub fits_same : (g : PlainGroup) (a b a' b' : ℕ) → FitsIn g (record { lit = a; unlit = b }) → a' ≡ a → b' ≡ b → FitsIn g (record { lit = a'; unlit = b' })
fits_same g a b a' b' fits e f = rw (e, f) fits
