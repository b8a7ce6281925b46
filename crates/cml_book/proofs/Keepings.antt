-- What a book keeps after each kind of change.
use Rattle.std.proofs.Common.{◌≡◌, ◌≢◌, ℕ, ◌+◌, Bool, true, false, not, ◌||◌, nat_eq, nat_lt, cond, List, [], ◌∷◌}
use Rattle.std.proofs.Common.{◌++◌, length, map, nat_le, refl, ap, sym, ◌∙◌, arith, zero, suc, Option, Some, None}
use Rattle.std.proofs.Common.{Result, Ok, Err, slice_index_or}
use Rattle.std.specs.Prelude.{All, slice_get, slice_set}
use Rattle.std.specs.List.{filter, list_any}
use Rattle.std.proofs.lemmas.Bool.Decides.{nat_tests}
use Rattle.std.proofs.lemmas.List.Elements.{All-cons, All-append, All-filter, All-weaker}
use Rattle.cml_value.specs.Group.{PlainGroup, scopes, nacks_of, lost, bases}
use Rattle.cml_value.specs.declared.number.Tid.{Tid}
use Rattle.cml_value.specs.declared.number.ChanId.{ChanId}
use Rattle.cml_value.specs.declared.number.SwapId.{SwapId}
use Rattle.cml_value.specs.declared.number.NackId.{NackId}
use Rattle.cml_scan.specs.World.{PlainThread, running, pending_on, ended, fresh_of, PlainWorld, PlainEntry, pending}
use Rattle.cml_scan.specs.Light.{has_ended, has_fired, light, light_of, is_told}
use Rattle.cml_scan.specs.Table.{without, with_entry, lit_after, AgreeFor}
use Rattle.cml_scan.specs.declared.object.Light.{Light}
use Rattle.cml_scan.specs.declared.object.Light.TheVariants as of
use Rattle.cml_scan.proofs.Telling.{AgreeForGroup, AgreeFor-without, AgreeFor-with_entry}
use Rattle.cml_book.specs.declared.refusal.Refusal.{Refusal}
use Rattle.cml_book.specs.declared.refusal.Refusal.TheVariants.{Full}
use Rattle.cml_book.specs.declared.refusal.Fault.{Fault}
use Rattle.cml_book.specs.declared.refusal.Fault.TheVariants.{Refused, Memory}
use Rattle.cml_book.specs.Outcomes.{Outcome, refuse_if, refuse_by, thread_refusal, with_thread, Does, max_threads, max_objects}
use Rattle.cml_book.specs.Spawn.{spawn}
use Rattle.cml_book.specs.MakeChan.{make_chan}
use Rattle.cml_book.specs.MakeSwap.{make_swap}
use Rattle.cml_book.specs.Nack.{nack}
use Rattle.cml_book.specs.Sync.{times_named, waiting}
use Rattle.cml_book.specs.Commit.{released, settled}
use Rattle.cml_book.specs.Keeping.{AreLiveNacks, nack_light, lights_in, Room, FitsIn, RoomGrows, Keeps}
use Rattle.cml_book.specs.Telling.{StaysTrue}
use Rattle.cml_book.proofs.Pendings.{pending-push, pending-end, pending-wait, pending-resume, without_none}
use Rattle.cml_book.proofs.LightLemmas.{agree_still, has_ended-push, has_ended-set, has_fired-push, light_of-same}
use Rattle.cml_book.proofs.NackLemmas.{CanEnter, lives-push, nacks-wait, nacks-resume, lives-settled_group, fired-settled_group, lives-enter, fired-enter, get-set_other}
use Rattle.cml_book.proofs.ObjectLemmas.{stays_kept}
use Rattle.cml_book.proofs.Retold.{retold, group_told, has_nack_light, no_nack_light}

-- what is refused is not accepted
not_refused : {R : Type 0} (b : Bool) (why : Refusal) (rest : Outcome R) (next : PlainWorld × R) → refuse_if b why rest ≡ Ok next → rest ≡ Ok next
not_refused true why rest next e = cc
not_refused false why rest next e = e

not_refused_by : {R : Type 0} (o : Option Refusal) (rest : Outcome R) (next : PlainWorld × R) → refuse_by o rest ≡ Ok next → rest ≡ Ok next
not_refused_by (Some why) rest next e = cc
not_refused_by None rest next e = e

-- the world of what is accepted
abbrev next_of : {R : Type 0} → PlainWorld → Outcome R → PlainWorld
next_of w (Ok next) = next.0
next_of w (Err why) = w

module _ (w : PlainWorld) (es : List PlainEntry) (told : Light → Bool) (room : Room) where
  -- the same is kept of what says the same
  pub keeps_same : (es' : List PlainEntry) (told' : Light → Bool) → es' ≡ es → ((l : Light) → told' l ≡ told l) → Keeps w es told room → Keeps w es' told' room
  keeps_same es' told' same lights k = record {
    told_groups = same ∙ k.told_groups;
    told_lights = agree_still (pending w) told told' (light_of w) (light_of w) (λ l e. lights l ∙ e) k.told_lights;
    nacks_live = k.nacks_live;
    roomy = rw same k.roomy;
  }

  -- and with more room
  pub keeps_roomier : (room' : Room) → RoomGrows room room' → Keeps w es told room → Keeps w es told room'
  keeps_roomier room' more k = record {
    told_groups = k.told_groups;
    told_lights = k.told_lights;
    nacks_live = k.nacks_live;
    roomy = All-weaker (λ (x : PlainEntry). FitsIn x.group room) (λ x. FitsIn x.group room') (λ x h. more x.group h) es k.roomy;
  }

  -- a new thread
  pub keeps_spawn : (r : Result Tid Fault) (w' : PlainWorld) → Does r (spawn w) w w' → Keeps w es told room → Keeps w' es told room
  keeps_spawn (Err (Refused why)) w' d k = rw d.1 k
  keeps_spawn (Err Memory) w' d k = rw d.1 k
  keeps_spawn (Ok t) w' d k =
      let e = not_refused (nat_le max_threads (length w.threads)) _ _ _ d in
      let new : w' ≡ record w { threads = w.threads ++ running ∷ [] } = sym (ap (λ (o : Outcome Tid). next_of w o) e) in
      rw new
      (record {
        told_groups = k.told_groups ∙ sym (pending-push 0 w.threads);
        told_lights = rw (pending-push 0 w.threads) (agree_still (pending w) told told (light_of w) (light_of (record w { threads = w.threads ++ running ∷ [] }))
            (λ l h. h ∙ sym (light_of-same w (w.threads ++ running ∷ []) w.nacks (has_ended-push w.threads) (λ i. refl) l)) k.told_lights);
        nacks_live = λ j. rw (pending-push 0 w.threads) (k.nacks_live j);
        roomy = k.roomy;
      })

  -- something was made that is no thread and no nack, and every light is as it was
  keeps_made : {R : Type 0} (full : Bool) (why : Refusal) (made : PlainWorld) (id : R) (r : Result R Fault)
      (w' : PlainWorld) → made.threads ≡ w.threads → made.nacks ≡ w.nacks → StaysTrue w told made told
      → Does r (refuse_if full why (Ok (made, id))) w w' → Keeps w es told room → Keeps w' es told room
  keeps_made full why made id (Err (Refused x)) w' threads nacks same d k = rw d.1 k
  keeps_made full why made id (Err Memory) w' threads nacks same d k = rw d.1 k
  keeps_made {R = R} full why made id (Ok x) w' threads nacks same d k =
      let e = not_refused full why _ _ d in
      let new : w' ≡ made = sym (ap (λ (o : Outcome R). next_of w o) e) in
      rw new (stays_kept w made es es told told threads nacks refl same room k)

  -- a new channel
  pub keeps_chan : (r : Result ChanId Fault) (w' : PlainWorld) → Does r (make_chan w) w w' → Keeps w es told room → Keeps w' es told room
  keeps_chan r w' d k = keeps_made {R = ChanId} (nat_le max_objects w.channels) Full (record w { channels = w.channels + 1 }) (record { 0 = w.channels }) r w' refl refl same d k
    where
      same : (l : Light) → told l ≡ light_of w l → told l ≡ light_of (record w { channels = w.channels + 1 }) l
      same (of.Joined t) h = h
      same _ h = h

  -- a new swap channel
  pub keeps_swap : (r : Result SwapId Fault) (w' : PlainWorld) → Does r (make_swap w) w w' → Keeps w es told room → Keeps w' es told room
  keeps_swap r w' d k = keeps_made {R = SwapId} (nat_le max_objects w.swaps) Full (record w { swaps = w.swaps + 1 }) (record { 0 = w.swaps }) r w' refl refl same d k
    where
      same : (l : Light) → told l ≡ light_of w l → told l ≡ light_of (record w { swaps = w.swaps + 1 }) l
      same (of.Joined t) h = h
      same _ h = h

  -- a new nack
  pub keeps_nack : (t : ℕ) (r : Result NackId Fault) (w' : PlainWorld) → Does r (nack w t) w w' → Keeps w es told room → Keeps w' es told room
  keeps_nack t (Err (Refused why)) w' d k = rw d.1 k
  keeps_nack t (Err Memory) w' d k = rw d.1 k
  keeps_nack t (Ok c) w' d k =
      let e = not_refused (nat_le max_objects (length w.nacks)) _ _ _ (not_refused_by (thread_refusal (slice_get w.threads t)) _ _ d) in
      let new : w' ≡ record w { nacks = w.nacks ++ fresh_of t ∷ [] } = sym (ap (λ (o : Outcome NackId). next_of w o) e) in
      rw new
      (record {
        told_groups = k.told_groups;
        told_lights = agree_still (pending w) told told (light_of w) (light_of (record w { nacks = w.nacks ++ fresh_of t ∷ [] }))
            (λ l h. h ∙ sym (light_of-same w w.threads (w.nacks ++ fresh_of t ∷ []) (λ i. refl) (λ i. has_fired-push w.nacks i t) l)) k.told_lights;
        nacks_live = λ j. k.nacks_live j ∙ sym (lives-push w.nacks j t);
        roomy = k.roomy;
      })

  -- a running thread ends
  pub keeps_end : (t : Tid) (es' : List PlainEntry) (told' : Light → Bool) → Keeps w es told room → slice_get w.threads t.0 ≡ Some running
      → es' ≡ without [] es → ((l : Light) → told' l ≡ lit_after (of.Joined t ∷ []) [] l (told l)) → Keeps (with_thread w t.0 ended) es' told' room
  keeps_end t es' told' k runs gone lit = record {
    told_groups = gone ∙ without_none es ∙ k.told_groups ∙ sym (pending-end 0 t.0 w.threads runs);
    told_lights = rw (pending-end 0 t.0 w.threads runs) (agree_still (pending w) told told' (light_of w) (light_of (with_thread w t.0 ended)) (λ l e. lit l ∙ after l e) k.told_lights);
    nacks_live = λ j. rw (pending-end 0 t.0 w.threads runs) (k.nacks_live j);
    roomy = rw (gone, without_none es) k.roomy;
  }
    where
      there : (xs : List PlainThread) (i : ℕ) → slice_get xs i ≡ Some running → has_ended (slice_get (slice_set xs i ended) i) ≡ true
      there [] i h = cc
      there (x ∷ xs) zero h = refl
      there (x ∷ xs) (suc i) h = there xs i h

      thread : (u : Tid) (b : Bool) → nat_eq u.0 t.0 ≡ b → told (of.Joined u) ≡ has_ended (slice_get w.threads u.0)
          → cond (b || false) true (told (of.Joined u)) ≡ has_ended (slice_get (slice_set w.threads t.0 ended) u.0)
      thread u true e h = let same : t.0 ≡ u.0 = grind (arith, nat_tests) in sym (rw (← same) (there w.threads t.0 runs))
      thread u false e h = let differ : t.0 ≢ u.0 = grind (arith, nat_tests) in h ∙ sym (ap has_ended (get-set_other w.threads t.0 u.0 ended differ))

      after : (l : Light) → told l ≡ light_of w l → lit_after (of.Joined t ∷ []) [] l (told l) ≡ light_of (with_thread w t.0 ended) l
      after (of.Joined u) e = thread u (nat_eq u.0 t.0) refl e
      after _ e = e

  -- a running thread waits on a group, whose lights are told as they are
  pub keeps_wait : (t : ℕ) (g : PlainGroup) (room' : Room) (es' : List PlainEntry) (told' : Light → Bool) → Keeps w es told room → slice_get w.threads t ≡ Some running
      → CanEnter t (nacks_of (scopes g)) w.nacks → FitsIn g room' → ((x : PlainGroup) → FitsIn x room → FitsIn x room')
      → es' ≡ with_entry (record { thread = t; group = g }) (without [] es)
      → ((l : Light) → told' l ≡ lit_after (filter (light_of w) (lights_in (bases g))) (filter (λ x. not (light_of w x)) (lights_in (bases g))) l (told l))
      → Keeps (waiting w t g) es' told' room'
  keeps_wait t g room' es' told' k runs enters own more came lit =
      let w' : PlainWorld = waiting w t g in
      let e : PlainEntry = record { thread = t; group = g } in
      let now : es' ≡ with_entry e (pending w) = came ∙ ap (with_entry e) (without_none es ∙ k.told_groups) in
      let new : pending w' ≡ with_entry e (pending w) = pending-wait t 0 t w.threads g (omega arith) runs in
      let same : (l : Light) → light_of w' l ≡ light_of w l =
      light_of-same w w'.threads w'.nacks (λ i. has_ended-set w.threads t i (pending_on g) (ap has_ended runs) refl) (λ i. fired-enter t (nacks_of (scopes g)) w.nacks i enters) in
      let old_lights : AgreeFor (pending w) told' (light_of w') =
      agree_still (pending w) told told' (light_of w) (light_of w') (λ l h. lit l ∙ retold (light_of w) (lights_in (bases g)) l (told l) h ∙ sym (same l)) k.told_lights in
      let new_lights : AgreeForGroup g told' (light_of w') =
      λ i d h. told_as told' (λ l. lit_after (filter (light_of w) (lights_in (bases g))) (filter (λ x. not (light_of w x)) (lights_in (bases g))) l (told l)) lit (light (slice_index_or (bases g) i d))
      ∙ group_told (light_of w) told g i d h ∙ sym (told_as (light_of w') (light_of w) same (light (slice_index_or (bases g) i d))) in
      record {
        told_groups = now ∙ sym new;
        told_lights = rw new (AgreeFor-with_entry e (pending w) told' (light_of w') old_lights new_lights);
        nacks_live = λ j. nacks-wait j 0 t w.threads g runs ∙ ap (λ n. n + times_named j (nacks_of (scopes g))) (k.nacks_live j) ∙ sym (lives-enter t (nacks_of (scopes g)) w.nacks j enters);
        roomy = rw now (All-append (λ (x : PlainEntry). FitsIn x.group room') (filter (λ x. nat_lt x.thread t) (pending w)) (e ∷ filter (λ x. nat_lt t x.thread) (pending w))
            (some_roomy (λ x. nat_lt x.thread t)) (All-cons (λ (x : PlainEntry). FitsIn x.group room') e (filter (λ x. nat_lt t x.thread) (pending w)) own (some_roomy (λ x. nat_lt t x.thread))));
      }
    where
      told_as : (a b : Light → Bool) → ((l : Light) → a l ≡ b l) → (o : Option Light) → is_told a o ≡ is_told b o
      told_as a b h None = refl
      told_as a b h (Some l) = h l

      some_roomy : (test : PlainEntry → Bool) → All (λ x. FitsIn x.group room') (filter test (pending w))
      some_roomy test =
          All-filter test (λ x. FitsIn x.group room') (pending w)
          (rw (← k.told_groups) (All-weaker (λ (x : PlainEntry). FitsIn x.group room) (λ x. FitsIn x.group room') (λ x h. more x.group h) es k.roomy))

  -- a pending thread goes on from a leaf, and the nacks that the leaf loses are told to be lit
  pub keeps_resume : (t : Tid) (n : ℕ) (g : PlainGroup) → Keeps w es told room → slice_get w.threads t.0 ≡ Some (pending_on g)
      → Keeps (released w t.0 n) (without (t ∷ []) es) (λ l. lit_after (map nack_light (lost g n)) [] l (told l)) room
  keeps_resume t n g k waits =
      let w' : PlainWorld = record w { threads = slice_set w.threads t.0 running; nacks = settled n g w.nacks } in
      let new : pending w' ≡ without (t ∷ []) (pending w) = pending-resume t 0 t.0 w.threads (omega arith) in
      rw waits
      (record {
        told_groups = ap (without (t ∷ [])) k.told_groups ∙ sym new;
        told_lights = rw new (AgreeFor-without (t ∷ []) (pending w) _ (light_of w')
            (agree_still (pending w) told (λ l. lit_after (map nack_light (lost g n)) [] l (told l)) (light_of w)
            (light_of w') after k.told_lights));
        nacks_live = λ j.
            let a = nacks-resume j 0 t.0 w.threads g waits in
            let b = k.nacks_live j in
            let d = lives-settled_group n g w.nacks j alive in
            omega arith;
        roomy = All-filter _ (λ x. FitsIn x.group room) es k.roomy;
      })
    where
      alive : AreLiveNacks (nacks_of (scopes g)) w.nacks
      alive = record { each = λ j. let a = nacks-resume j 0 t.0 w.threads g waits in let b = k.nacks_live j in omega arith }

      after : (l : Light) → told l ≡ light_of w l → lit_after (map nack_light (lost g n)) [] l (told l)
          ≡ light_of (record w { threads = slice_set w.threads t.0 running; nacks = settled n g w.nacks }) l
      after (of.Joined u) e = rw (no_nack_light (lost g n) (of.Joined u) (λ j. refl)) (e ∙ sym (has_ended-set w.threads t.0 u.0 running (ap has_ended waits) refl))
      after (of.Nack m) e = rw (has_nack_light (lost g n) m, fired-settled_group n g w.nacks m.0 alive, e) (same (list_any (λ j. nat_eq j m.0) (lost g n)) (has_fired (slice_get w.nacks m.0)))
        where
          same : (a b : Bool) → cond a true b ≡ a || b
          same true b = refl
          same false b = refl
      after l e = rw (no_nack_light (lost g n) l (λ j. refl)) e
