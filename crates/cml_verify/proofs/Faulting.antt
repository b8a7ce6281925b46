-- Where a thread ends at a fault.
use Rattle.std.proofs.Common.{◌≡◌, ℕ, zero, suc, ◌+◌, ◌<◌, ◌≤◌, Bool, true, false, if◌then◌else◌, List, [], ◌∷◌, ◌++◌, length, map, take, Option, Some, None, slice_get, Contains}
use Rattle.std.proofs.Common.{◌⊎◌, inl, inr, refl, ap, sym, subst, ◌∙◌, arith, true≢false, length-append, append-nil}
use Rattle.std.specs.Prelude.{option_map, option_and_then, count_by}
use Rattle.std.specs.List.{All}
use Rattle.std.proofs.lemmas.List.Elements.{All-contains, All-more, All-push, All-weaker, Contains-append_left, Contains-push}
use Rattle.std.proofs.lemmas.List.{length-map}
use Rattle.std.proofs.lemmas.Option.{same_Some, slice_get-map, slice_get_within, get_or_from_slice_get}
use Rattle.cml_check.specs.Syntax.{PlainItem}
use Rattle.cml_value.specs.declared.number.Tid.{Tid}
use Rattle.cml_schedule.specs.declared.item.Item.{Item}
use Rattle.cml_schedule.specs.declared.item.Item.TheVariants.{Turn}
use Rattle.cml_step.specs.Calls.{text_of}
use Rattle.cml_step.specs.Machines.{PlainMachine, machine_term}
use Rattle.cml_step.specs.Slices.{sliced}
use Rattle.cml_step.specs.Terms.{Program, Term}
use Rattle.cml_hub.specs.Performed.{PlainDone, goes, gets, spawns, prints, waits, ends, fails, performed}
use Rattle.cml_hub.specs.Runs.{Run, stands, is_allowed, after_item, advance, turned_by}
use Rattle.cml_hub.specs.Deeds.{deed, after_deed, is_fault}
use Rattle.cml_verify.specs.Systems.{System, run}
use Rattle.cml_verify.specs.Searches.{IsLonger, LeadsOnBy, IsEdge, AreEdges}
use Rattle.cml_verify.specs.Places.{there, place_in, either_way, get_push_cases}
use Rattle.cml_verify.specs.Cores.{Past, past, more, Core, core_of, run_at, done_by, core_step, whose_turn, program_system}
use Rattle.cml_verify.specs.Kept.{PlainKept, core_kept}
use Rattle.cml_verify.specs.Verdicts.{IsWithin}
use Rattle.cml_verify.specs.Faults.{turn_of, FaultComesLast, HasFault, AreFaults}
use Rattle.cml_verify.specs.Falling.{FaultsBy, FallsFrom, stood_at, IsFallNoted, EdgeIsNoted, IsScheduleBy, AreSchedulesBy, AreFollowed}
use Rattle.cml_verify.specs.Lawful.{is_lawful}
use Rattle.cml_verify.proofs.Verdicts.{all_from, kept_behind}
use Rattle.cml_verify.proofs.Viewed.{runs_core, run_behind, step_core}

-- a deed that counts as a fault is one
one_fault : (o : Option PlainDone) → 0 < count_by is_fault (after_deed o []) → (name : List ℕ) × (o ≡ Some (fails name))
one_fault None h = absurd (omega (arith, h))
one_fault (Some goes) h = absurd (omega (arith, h))
one_fault (Some (gets answer)) h = absurd (omega (arith, h))
one_fault (Some (spawns n f)) h = absurd (omega (arith, h))
one_fault (Some (prints text)) h = absurd (omega (arith, h))
one_fault (Some waits) h = absurd (omega (arith, h))
one_fault (Some ends) h = absurd (omega (arith, h))
one_fault (Some (fails name)) h = (name, refl)

where_allowed : (b : Bool) (o : Option Run) (new : Run) → (if b then o else None) ≡ Some new → (b ≡ true) × (o ≡ Some new)
where_allowed true o new e = (refl, e)
where_allowed false o new e = absurd (cc)

-- where a thread ends at a fault by a turn, the turn does so
fault_by : (p : Program) (s : Bool) (c : Core) (thread : ℕ) → FaultsBy p s c (turn_of thread) → (name : List ℕ) × (deed p (run_at c) (turn_of thread) ≡ Some (fails name))
fault_by p s c thread f =
    let i = turn_of thread in
    let ds = done_by p (run_at c) i in
    let b = run_behind s (more c.past ds) (advance p (run_at c) i) f.next f.leads in
    let count : c.past.faults + count_by is_fault ds ≡ f.next.past.faults = ap (λ (x : Core). x.past.faults) b.2 in
    one_fault (deed p (run_at c) i) (omega (arith, count, f.one_more))

-- the turn can come
comes_by : (p : Program) (s : Bool) (c : Core) (thread : ℕ) → FaultsBy p s c (turn_of thread) → is_allowed c.world (turn_of thread) ≡ true
comes_by p s c thread f =
    let i = turn_of thread in
    let b = run_behind s (more c.past (done_by p (run_at c) i)) (advance p (run_at c) i) f.next f.leads in
    (where_allowed (is_allowed c.world i) (after_item p (run_at c) i) b.0 b.1).0

-- what was taken further was there
taken : {A B : Type 0} (f : A → B) (o : Option A) (b : B) → option_map f o ≡ Some b → (a : A) × (o ≡ Some a)
taken f None b e = absurd (cc)
taken f (Some a) b e = (a, refl)

-- a schedule to where a thread ends at a fault by its turn, and then the turn
module _ (p : Program) (s : Bool) (before : List Item) (c : Core) (thread : ℕ) (leads : run (program_system p s) (program_system p s).start before ≡ Some c)
    (falls : FaultsBy p s c (turn_of thread)) where
  comes_last : (schedule : List Item) (stood : Term) → schedule ≡ before ++ turn_of thread ∷ [] → slice_get c.terms thread ≡ Some stood → FaultComesLast p schedule thread stood
  comes_last schedule stood last from =
      let b = run_behind s (past p before) (stands p before) c (sym (runs_core p s before) ∙ leads) in
      let f : FaultsBy p s (core_of s (past p before) b.0) (turn_of thread) = subst (λ x. FaultsBy p s x (turn_of thread)) (sym b.2) falls in
      let n = fault_by p s (core_of s (past p before) b.0) thread f in
      record {
        before = before;
        last = last;
        run = b.0;
        leads = b.1;
        comes = comes_by p s (core_of s (past p before) b.0) thread f;
        from = ap (λ (x : Core). slice_get x.terms thread) b.2 ∙ from;
        name = n.0;
        falls = n.1;
      }

  stands_somewhere : (stood : Term) × (slice_get c.terms thread ≡ Some stood)
  stands_somewhere =
      let n = fault_by p s c thread falls in
      taken (λ term. (performed c.world thread (sliced p thread term).ask).1) (slice_get c.terms thread) (fails n.0) n.1

-- where the turn of a thread ends it at a fault, it is an item by which a thread does so
module _ (p : Program) (s : Bool) where
  turn_leads : (r : Run) (thread : ℕ) (d : PlainDone) (o : Option Term) → option_map (λ term. (performed r.world thread (sliced p thread term).ask).1) o ≡ Some d
      → (new : Run) × (option_map (λ term. turned_by p r thread (sliced p thread term)) o ≡ Some new)
  turn_leads r thread d None e = absurd (cc)
  turn_leads r thread d (Some term) e = (turned_by p r thread (sliced p thread term), refl)

  fails_at : (a : Past) (r : Run) (thread : ℕ) (name : List ℕ) → is_allowed r.world (turn_of thread) ≡ true → deed p r (turn_of thread) ≡ Some (fails name)
      → FaultsBy p s (core_of s a r) (turn_of thread)
  fails_at a r thread name comes fault =
      let i = turn_of thread in
      let t = turn_leads r thread (fails name) (slice_get r.terms thread) fault in
      let goes_on : advance p r i ≡ Some t.0 = ap (λ b. if b then after_item p r i else None) comes ∙ t.1 in
      let ds : done_by p r i ≡ fails name ∷ [] = ap (λ o. after_deed o []) fault in
      let one : count_by is_fault (done_by p r i) ≡ 1 = ap (count_by is_fault) ds in
      record {
        next = core_of s (more a (done_by p r i)) t.0;
        leads = step_core p s a r i ∙ ap (option_map (core_of s (more a (done_by p r i)))) goes_on;
        one_more = omega (arith, one);
      }

module _ (p : List (PlainItem ℕ)) (s : Bool) (keys : List PlainKept) where
  abbrev states : List Core
  states = map (core_kept p) keys

  abbrev y : System Core Item
  y = program_system (text_of p) s

  -- the state at a place
  state_at : (k : ℕ) (a : PlainKept) → slice_get keys k ≡ Some a → slice_get states k ≡ Some (core_kept p a)
  state_at k a h = slice_get-map (core_kept p) keys k ∙ ap (option_map (core_kept p)) h

  -- where a thread stands in the state at a place
  term_at : (k : ℕ) (thread : Tid) (a : PlainKept) → slice_get keys k ≡ Some a → slice_get (core_kept p a).terms thread.0 ≡ option_map (machine_term p) (stood_at keys k thread)
  term_at k thread a h =
      slice_get-map (machine_term p) a.machines thread.0
      ∙ ap (option_map (machine_term p)) (sym (ap (option_and_then (λ (one : PlainKept). slice_get one.machines thread.0)) h))

  -- the thread ends at a fault from a core on
  falls_from : (k : ℕ) (thread : Tid) (c : Core) → slice_get states k ≡ Some c → FaultsBy (text_of p) s c (Turn thread) → FallsFrom p s keys (k, thread)
  falls_from k thread c at f =
      let b = kept_behind p s keys k c at in
      record { one = b.0; at = b.1; falls = subst (λ x. FaultsBy (text_of p) s x (Turn thread)) (sym b.2) f }

  module _ (told : List (ℕ × Tid)) (each : All (FallsFrom p s keys) told) (schedules : List (List Item)) (made : AreSchedulesBy y states told (length told) schedules) where
    -- such a schedule, and what was told by it
    comes_so : (f : ℕ × Tid) (schedule : List Item) → Contains told f → IsScheduleBy y states f schedule → (stood : Term) → option_map (machine_term p) (stood_at keys f.0 f.1) ≡ Some stood
        → FaultComesLast (text_of p) schedule f.1.0 stood
    comes_so f schedule has so stood from =
        let a = All-contains (FallsFrom p s keys) told f each has in
        comes_last (text_of p) s so.before (core_kept p a.one) f.1.0 (so.leads ∙ state_at f.0 a.one a.at) a.falls schedule stood so.last (term_at f.0 f.1 a.one a.at ∙ from)

    contains_at : {X : Type 0} (xs : List X) (i : ℕ) (x : X) → slice_get xs i ≡ Some x → Contains xs x
    contains_at xs i x h = (i, slice_get_within xs i x h, get_or_from_slice_get xs i x x h)

    has_fault : (i : ℕ) (schedule : List Item) → slice_get schedules i ≡ Some schedule → HasFault (text_of p) schedule
    has_fault i schedule h =
        let q = made.each i schedule h in
        let has = contains_at told i q.0 q.1 in
        let a = All-contains (FallsFrom p s keys) told q.0 each has in
        let t = stands_somewhere (text_of p) s q.2.before (core_kept p a.one) q.0.1.0 (q.2.leads ∙ state_at q.0.0 a.one a.at) a.falls in
        (q.0.1.0, t.0, comes_so q.0 schedule has q.2 t.0 (sym (term_at q.0.0 q.0.1 a.one a.at) ∙ t.1))

    -- the schedule that was made for what was told
    pub record IsMadeFor (f : ℕ × Tid) : Type 0 where
      pub one : List Item
      pub has : Contains schedules one
      pub so : IsScheduleBy y states f one

    made_for : (f : ℕ × Tid) → Contains told f → IsMadeFor f
    made_for f has =
        let one = there schedules has.0 (omega (arith, made.count, has.1)) in
        let q = made.each has.0 one.0 one.1 in
        let same : q.0 ≡ f = same_Some q.0 f (sym q.1 ∙ place_in told f has) in
        record { one = one.0; has = contains_at schedules has.0 one.0 one.1; so = subst (λ g. IsScheduleBy y states g one.0) same q.2 }

    module _ (followed : ℕ) (edges : List (ℕ × Item × ℕ)) (graph : AreEdges y false followed states edges []) (noted : All (EdgeIsNoted p s keys told) edges)
        (before : List Item) (c : Core) (leads : run y y.start before ≡ Some c) (thread : Tid) (falls : FaultsBy (text_of p) s c (Turn thread))
        (stood : Term) (from : slice_get c.terms thread.0 ≡ Some stood) where
      -- it was noted of the state at this place
      noted_at : (k : ℕ) → k < followed → slice_get states k ≡ Some c → IsFallNoted keys told k thread
      noted_at k lt at =
          let d = graph.done k c lt at in
          let mine : Contains d.0 (Turn thread) = elim d.1 [
            | inl e ↦ subst (λ l. Contains l (Turn thread)) (sym e) (((is_lawful (text_of p) s).lists c (before, leads)).only (Turn thread) falls.next falls.leads)
            | inr q ↦ absurd (true≢false (sym q.1))
          ] in
          let on : LeadsOnBy edges k (Turn thread) = All-contains (LeadsOnBy edges k) d.0 (Turn thread) d.2 mine in
          All-contains (EdgeIsNoted p s keys told) edges (k, Turn thread, on.0) noted on.1 thread refl (falls_from k thread c at falls)

      -- one by which the thread ends at a fault from where it stands the same, and that has no more items than so many and one
      abbrev Shorter : Type 0
      Shorter = (one : List Item) × Contains schedules one × FaultComesLast (text_of p) one thread.0 stood × (length one ≤ length before + 1)

      from_noted : (k : ℕ) → slice_get states k ≡ Some c → ((j : ℕ) → j < k → slice_get states j ≡ Some c → Shorter) → IsFallNoted keys told k thread → Shorter
      from_noted k at rest n =
          let m = made_for (n.0, thread) n.1 in
          let b = kept_behind p s keys k c at in
          let here : option_map (machine_term p) (stood_at keys n.0 thread) ≡ Some stood =
          ap (option_map (machine_term p)) n.3 ∙ sym (term_at k thread b.0 b.1) ∙ ap (λ (x : Core). slice_get x.terms thread.0) b.2 ∙ from in
          let long : length m.one ≡ length m.so.before + 1 = ap length m.so.last ∙ length-append m.so.before (Turn thread ∷ []) in
          elim (either_way (length m.so.before) (length before)) [
            | inl few ↦ (m.one, m.has, comes_so (n.0, thread) m.one n.1 m.so stood here, omega (arith, few, long))
            | inr less ↦ let q = m.so.fewest before c (leads, λ f. absurd (true≢false (sym f))) less in rest q.0 (omega (arith, q.1, n.2)) q.2
          ]

      -- Told is a schedule by the first place at which this core stands; it has no more items.
      first_noted : (n k : ℕ) → k < n → k < followed → slice_get states k ≡ Some c → Shorter
      first_noted zero k lt in' at = absurd (omega (arith, lt))
      first_noted (suc n) k lt in' at = from_noted k at (λ j less there_. first_noted n j (omega (arith, less, lt)) (omega (arith, less, in')) there_) (noted_at k in' at)

    pub are_faults : (followed : ℕ) (edges : List (ℕ × Item × ℕ)) → AreEdges y false followed states edges [] → All (EdgeIsNoted p s keys told) edges → (most : Option ℕ)
        → AreFollowed y states followed most → AreFaults (text_of p) most schedules
    are_faults followed edges graph noted most found = record {
      each = all_from (HasFault (text_of p)) schedules has_fault;
      all = λ schedule thread stood within h.
          let c = core_of s (past (text_of p) h.before) h.run in
          let leads : run y y.start h.before ≡ Some c = runs_core (text_of p) s h.before ∙ ap (option_map (core_of s (past (text_of p) h.before))) h.leads in
          let k = found h.before c thread (subst (IsWithin most) h.last within) leads in
          let f = fails_at (text_of p) s (past (text_of p) h.before) h.run thread h.name h.comes h.falls in
          let one = first_noted followed edges graph noted h.before c leads (record { 0 = thread }) f stood h.from (suc k.0) k.0 (omega arith) k.1 k.2 in
          (one.0, one.1, one.2, omega (arith, one.3, ap length h.last, length-append h.before (turn_of thread ∷ [])));
    }

  -- what was noted stays noted
  pub noted_longer : (old new : List (ℕ × Tid)) (e : ℕ × Item × ℕ) → IsLonger old new → EdgeIsNoted p s keys old e → EdgeIsNoted p s keys new e
  noted_longer old new e l h thread is falls =
      let n = h thread is falls in
      (n.0, subst (λ m. Contains m (n.0, thread)) (sym l.1) (Contains-append_left old l.0 (n.0, thread) n.1), n.2, n.3)

  -- one edge more
  pub noted_more : (edges : List (ℕ × Item × ℕ)) (i : ℕ) (e : ℕ × Item × ℕ) (old new : List (ℕ × Tid)) → slice_get edges i ≡ Some e → IsLonger old new
      → All (EdgeIsNoted p s keys old) (take i edges) → EdgeIsNoted p s keys new e → All (EdgeIsNoted p s keys new) (take (i + 1) edges)
  noted_more edges i e old new at l before one =
      All-more (EdgeIsNoted p s keys new) edges i e (slice_get_within edges i e at)
      (All-weaker (EdgeIsNoted p s keys old) (EdgeIsNoted p s keys new) (λ x h. noted_longer old new x l h) (take i edges) before)
      (subst (EdgeIsNoted p s keys new) (sym (get_or_from_slice_get edges i e e at)) one)

  -- by this edge no thread ends at a fault
  pub no_fault : (told : List (ℕ × Tid)) (e : ℕ × Item × ℕ) (edge : IsEdge y states e) → edge.to.past.faults ≤ edge.from.past.faults → EdgeIsNoted p s keys told e
  no_fault told e edge few thread is f =
      let same : core_kept p f.one ≡ edge.from = same_Some (core_kept p f.one) edge.from (sym (state_at e.0 f.one f.at) ∙ edge.stands) in
      let next : f.falls.next ≡ edge.to =
      same_Some f.falls.next edge.to (sym f.falls.leads ∙ ap (λ i. core_step (text_of p) s (core_kept p f.one) i) (sym is) ∙ ap (λ x. core_step (text_of p) s x e.1) same ∙ edge.leads) in
      let a : f.one.faults ≡ edge.from.past.faults = ap (λ (x : Core). x.past.faults) same in
      let b : f.falls.next.past.faults ≡ edge.to.past.faults = ap (λ (x : Core). x.past.faults) next in
      absurd (omega (arith, few, a, b, f.falls.one_more))

  -- how many threads have ended at faults where the edge begins and where it leads
  pub edge_counts : (e : ℕ × Item × ℕ) (edge : IsEdge y states e) (few many : ℕ) → ((a : PlainKept) → slice_get keys e.0 ≡ Some a → few ≡ a.faults)
      → ((b : PlainKept) → slice_get keys e.2 ≡ Some b → many ≡ b.faults) → (few ≡ edge.from.past.faults) × (many ≡ edge.to.past.faults)
  edge_counts e edge few many f g =
      let a = kept_behind p s keys e.0 edge.from edge.stands in
      let b = kept_behind p s keys e.2 edge.to edge.there in
      (f a.0 a.1 ∙ ap (λ (x : Core). x.past.faults) a.2, g b.0 b.1 ∙ ap (λ (x : Core). x.past.faults) b.2)

  -- the edge leads from one place to another
  pub edge_within : (e : ℕ × Item × ℕ) → IsEdge y states e → (e.0 < length keys) × (e.2 < length keys)
  edge_within e edge = (
    omega (arith, slice_get_within states e.0 edge.from edge.stands, length-map keys (core_kept p)),
    omega (arith, slice_get_within states e.2 edge.to edge.there, length-map keys (core_kept p)),
  )

  -- the item of the edge is a turn, at which its thread ends at a fault
  pub turn_falls : (e : ℕ × Item × ℕ) (edge : IsEdge y states e) (thread : Tid) → e.1 ≡ Turn thread → edge.from.past.faults < edge.to.past.faults → FallsFrom p s keys (e.0, thread)
  turn_falls e edge thread is lt =
      falls_from e.0 thread edge.from edge.stands (record { next = edge.to; leads = ap (core_step (text_of p) s edge.from) (sym is) ∙ edge.leads; one_more = lt })

  -- what is told of a turn
  same_turn : (t u : Tid) → Turn t ≡ Turn u → t ≡ u
  same_turn t u e = cc

  pub turn_noted : (told : List (ℕ × Tid)) (e : ℕ × Item × ℕ) (thread : Tid) → e.1 ≡ Turn thread → IsFallNoted keys told e.0 thread → EdgeIsNoted p s keys told e
  turn_noted told e thread is n t at f = subst (IsFallNoted keys told e.0) (same_turn thread t (sym is ∙ at)) n

  -- the item of the edge is no turn
  pub no_turn : (told : List (ℕ × Tid)) (e : ℕ × Item × ℕ) → whose_turn e.1 ≡ None → EdgeIsNoted p s keys told e
  no_turn told e none t at f = let g : None ≡ Some t.0 = sym none ∙ ap whose_turn at in absurd (cc)

  -- one more is told, or none
  pub each_told : (old new : List (ℕ × Tid)) (f : ℕ × Tid) → All (FallsFrom p s keys) old → FallsFrom p s keys f → (new ≡ old) ⊎ (new ≡ old ++ f ∷ []) → All (FallsFrom p s keys) new
  each_told old new f all one (inl e) = subst (All (FallsFrom p s keys)) (sym e) all
  each_told old new f all one (inr e) = subst (All (FallsFrom p s keys)) (sym e) (All-push (FallsFrom p s keys) old f all one)

pub told_longer : (old new : List (ℕ × Tid)) (f : ℕ × Tid) → (new ≡ old) ⊎ (new ≡ old ++ f ∷ []) → IsLonger old new
told_longer old new f (inl e) = ([], e ∙ sym (append-nil old))
told_longer old new f (inr e) = (f ∷ [], e)

-- threads of one number are one
pub same_thread : (t u : Tid) → t.0 ≡ u.0 → t ≡ u
same_thread t u e = let numbered : ℕ → Tid = λ n. record { 0 = n } in ap numbered e

-- a thread that was told is among those that are
pub is_noted : (keys : List PlainKept) (told new : List (ℕ × Tid)) (place : ℕ) (thread : Tid) → new ≡ told ++ (place, thread) ∷ [] → IsFallNoted keys new place thread
is_noted keys told new place thread e = (place, subst (λ l. Contains l (place, thread)) (sym e) (Contains-push told (place, thread)), omega arith, refl)

-- no schedule yet
pub by_none : (y : System Core Item) (states : List Core) (told : List (ℕ × Tid)) (schedules : List (List Item)) → schedules ≡ [] → AreSchedulesBy y states told 0 schedules
by_none y states told schedules e = subst (AreSchedulesBy y states told 0) (sym e) (record { count = refl; each = λ i one h. absurd (nothing i one h) })
  where
    nothing : (i : ℕ) (one : List Item) → slice_get [] i ≡ Some one → ⊥
    nothing i one h = omega (arith, slice_get_within [] i one h)

-- one schedule more
pub by_more : (y : System Core Item) (states : List Core) (told : List (ℕ × Tid)) (n : ℕ) (f : ℕ × Tid) (schedules after : List (List Item)) (schedule : List Item)
    → AreSchedulesBy y states told n schedules → after ≡ schedules ++ schedule ∷ [] → slice_get told n ≡ Some f → IsScheduleBy y states f schedule → AreSchedulesBy y states told (n + 1) after
by_more y states told n f schedules after schedule t e at so = subst (AreSchedulesBy y states told (n + 1)) (sym e) here
  where
    by : (i : ℕ) (one : List Item) → (slice_get schedules i ≡ Some one) ⊎ ((i ≡ length schedules) × (schedule ≡ one))
        → (g : ℕ × Tid) × (slice_get told i ≡ Some g) × IsScheduleBy y states g one
    by i one (inl h) = t.each i one h
    by i one (inr h) = let is : i ≡ n = h.0 ∙ t.count in (f, ap (slice_get told) is ∙ at, subst (IsScheduleBy y states f) h.1 so)

    here : AreSchedulesBy y states told (n + 1) (schedules ++ schedule ∷ [])
    here = record {
      count = omega (arith, length-append schedules (schedule ∷ []), t.count);
      each = λ i one h. by i one (get_push_cases schedules schedule i one h);
    }
