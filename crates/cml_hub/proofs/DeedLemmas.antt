-- What the turns did, once one item more has come.
use Rattle.std.proofs.Common.{◌≡◌, ℕ, ◌+◌, ◌≤◌, cond, List, [], ◌∷◌, ◌++◌, length, map, refl, ap, sym, subst, ◌∙◌, arith, Option, Some, None, Ok, Err, append-nil, Box}
use Rattle.std.specs.declared.alloc.Global.{Global}
use Rattle.std.specs.Prelude.{slice_get, option_map, option_and_then, count_by}
use Rattle.std.specs.List.{filter_map}
use Rattle.std.proofs.lemmas.List.Elements.{filter_map-append}
use Rattle.std.proofs.lemmas.List.Sums.{sum_by-append, count_by-le-length}
use Rattle.std.proofs.lemmas.Option.{slice_get-map}
use Rattle.cml_value.specs.Value.{PlainFunction, function, no_values}
use Rattle.cml_value.specs.declared.number.Tid.{Tid}
use Rattle.cml_scan.specs.World.{running, PlainWorld}
use Rattle.cml_scan.specs.declared.meet.Meet.{Meet}
use Rattle.cml_step.specs.Asks as ask
use Rattle.cml_step.specs.Asks.{PlainAsk}
use Rattle.cml_step.specs.Calls.{text_of}
use Rattle.cml_step.specs.Machines.{PlainMachine, machine_term}
use Rattle.cml_step.specs.Slices.{sliced}
use Rattle.cml_step.specs.Terms.{Program}
use Rattle.cml_book.specs.Outcomes.{Outcome}
use Rattle.cml_book.specs.MakeChan.{make_chan}
use Rattle.cml_book.specs.MakeSwap.{make_swap}
use Rattle.cml_book.specs.MakeObjects.{make_ivar, make_mvar, make_mailbox, make_mchan}
use Rattle.cml_book.specs.MakePort.{make_port, copy_port}
use Rattle.cml_book.specs.Put.{iput, mput}
use Rattle.cml_book.specs.Mail.{mail}
use Rattle.cml_book.specs.Multicast.{multicast}
use Rattle.cml_book.specs.Nack.{nack}
use Rattle.cml_book.specs.Sync.{sync}
use Rattle.cml_book.specs.End.{end as end_thread}
use Rattle.cml_schedule.specs.declared.item.Item.{Item}
use Rattle.cml_schedule.specs.declared.item.Item.TheVariants.{Turn, Meet as Commit, Exchange, Clock}
use Rattle.cml_hub.specs.declared.done.Done.{Done}
use Rattle.cml_hub.specs.declared.done.Done.TheVariants.{Goes, Gets, Takes, Spawns, Prints, Waits, Ends, Fails}
use Rattle.cml_hub.specs.Performed.{PlainDone, spawns, done, or_fails, performed}
use Rattle.cml_hub.specs.Runs.{Run, main_of, opening, advance, stands, stands_from}
use Rattle.cml_hub.specs.Dones.{plain_done, function_asked}
use Rattle.cml_hub.specs.Courses.{PlainCourse, run_of, Leads, TakesRow}
use Rattle.cml_hub.specs.Deeds.{deed, after_deed, deeds_from, deeds, begotten, is_fault, IsKnown, WasAsked}
use Rattle.cml_hub.proofs.Standing.{found_is}
use Rattle.cml_hub.proofs.Turning.{TurnDone}

after_append : (d : Option PlainDone) (xs ys : List PlainDone) → after_deed d (xs ++ ys) ≡ after_deed d xs ++ ys
after_append None xs ys = refl
after_append (Some d) xs ys = refl

deeds_push : (p : Program) (r : Option Run) (items : List Item) (item : Item)
    → deeds_from p r (items ++ item ∷ []) ≡ deeds_from p r items ++ after_deed (option_and_then (λ now. deed p now item) (stands_from p r items)) []
deeds_push p r [] item = refl
deeds_push p r (x ∷ items) item =
    let d = option_and_then (λ now. deed p now x) r in
    let next = option_and_then (λ now. advance p now x) r in
    ap (after_deed d) (deeds_push p next items item) ∙ after_append d (deeds_from p next items) (after_deed (option_and_then (λ now. deed p now item) (stands_from p next items)) [])

-- what one item more adds
deeds_on : (p : Program) (items : List Item) (item : Item) (r : Run) (d : Option PlainDone) → stands p items ≡ Some r
    → deed p r item ≡ d → deeds p (items ++ item ∷ []) ≡ deeds p items ++ after_deed d []
deeds_on p items item r d leads is =
    deeds_push p (Some (opening p)) items item
    ∙ (ap (λ o. deeds p items ++ after_deed (option_and_then (λ now. deed p now item) o) []) leads ∙ ap (λ e. deeds p items ++ after_deed e []) is)

-- a turn adds what its ask did
pub known_on : (p : Program) (items : List Item) (item : Item) (r : Run) (d : PlainDone) (old new : List PlainFunction) (n m : ℕ) → stands p items ≡ Some r → deed p r item ≡ Some d
    → new ≡ old ++ filter_map begotten (d ∷ []) → m ≡ n + count_by is_fault (d ∷ []) → IsKnown p items old n → IsKnown p (items ++ item ∷ []) new m
known_on p items item r d old new n m leads is began counted h =
    let more = deeds_on p items item r (Some d) leads is in
    record {
      began_so = began ∙ (ap (λ fs. fs ++ filter_map begotten (d ∷ [])) h.began_so
          ∙ ap (λ fs. function (main_of p) no_values ∷ fs) (sym (filter_map-append begotten (deeds p items) (d ∷ [])) ∙ ap (filter_map begotten) (sym more)));
      counted = counted ∙ (ap (λ k. k + count_by is_fault (d ∷ [])) h.counted
          ∙ (sym (sum_by-append (λ x. cond (is_fault x) 1 0) (deeds p items) (d ∷ [])) ∙ ap (count_by is_fault) (sym more)));
    }

-- any other item adds nothing
pub still_known : (p : Program) (items : List Item) (item : Item) (r : Run) (began : List PlainFunction) (n : ℕ)
    → stands p items ≡ Some r → deed p r item ≡ None → IsKnown p items began n → IsKnown p (items ++ item ∷ []) began n
still_known p items item r began n leads is h =
    let same : deeds p (items ++ item ∷ []) ≡ deeds p items = deeds_on p items item r None leads is ∙ append-nil (deeds p items) in
    record {
      began_so = h.began_so ∙ ap (λ ds. function (main_of p) no_values ∷ filter_map begotten ds) (sym same);
      counted = h.counted ∙ ap (count_by is_fault) (sym same);
    }

pub no_deed : (p : Program) (r : Run) (item : Item) (row : Meet) → TakesRow item row → deed p r item ≡ None
no_deed p r (Turn t) row h = absurd h
no_deed p r (Commit taken) row h = refl
no_deed p r (Exchange taken) row h = refl
no_deed p r (Clock tick) row h = refl

-- no more faults than items
after_few : (d : Option PlainDone) (ds : List PlainDone) (n : ℕ) → length ds ≤ n → length (after_deed d ds) ≤ n + 1
after_few None ds n h = omega arith
after_few (Some d) ds n h = omega arith

deeds_few : (p : Program) (r : Option Run) (items : List Item) → length (deeds_from p r items) ≤ length items
deeds_few p r [] = omega arith
deeds_few p r (x ∷ items) =
    let next = option_and_then (λ now. advance p now x) r in
    omega (arith, after_few (option_and_then (λ now. deed p now x) r) (deeds_from p next items) (length items) (deeds_few p next items))

pub faults_few : (p : Program) (items : List Item) (began : List PlainFunction) (n : ℕ) → IsKnown p items began n → n ≤ length items
faults_few p items began n h = omega (arith, h.counted, count_by-le-length is_fault (deeds p items), deeds_few p (Some (opening p)) items)

-- an ask that is no spawn begets nobody
not_begot : {R : Type 0} (so : R → PlainDone) (w new : PlainWorld) (t : ℕ) (o : Outcome R) (n : ℕ) (f : PlainFunction)
    → ((r : R) → so r ≡ spawns n f → ⊥) → or_fails w t (done so o) ≡ (new, spawns n f) → ⊥
not_begot so w new t (Ok next) n f never h = never next.1 (ap (λ (x : PlainWorld × PlainDone). x.1) h)
not_begot so w new t (Err why) n f never h = let e = ap (λ (x : PlainWorld × PlainDone). x.1) h in cc

-- the thread that begins was asked for
asked_for : (w new : PlainWorld) (t n : ℕ) (a : PlainAsk) (f : PlainFunction) (m : Box PlainMachine Global) → performed w t a ≡ (new, spawns n f) → WasAsked (Spawns m) a
asked_for w new t n (ask.spawn g) f m h = tt
asked_for w new t n ask.nothing f m h = let e = ap (λ (x : PlainWorld × PlainDone). x.1) h in cc
asked_for w new t n ask.yield f m h = let e = ap (λ (x : PlainWorld × PlainDone). x.1) h in cc
asked_for w new t n (ask.print v) f m h = let e = ap (λ (x : PlainWorld × PlainDone). x.1) h in cc
asked_for w new t n ask.now f m h = let e = ap (λ (x : PlainWorld × PlainDone). x.1) h in cc
asked_for w new t n ask.make_chan f m h = not_begot _ w new t (make_chan w) n f (λ r e. cc) h
asked_for w new t n ask.make_swap f m h = not_begot _ w new t (make_swap w) n f (λ r e. cc) h
asked_for w new t n ask.make_ivar f m h = not_begot _ w new t (make_ivar w) n f (λ r e. cc) h
asked_for w new t n (ask.make_mvar v) f m h = not_begot _ w new t (make_mvar w v) n f (λ r e. cc) h
asked_for w new t n ask.make_mailbox f m h = not_begot _ w new t (make_mailbox w) n f (λ r e. cc) h
asked_for w new t n ask.make_mchan f m h = not_begot _ w new t (make_mchan w) n f (λ r e. cc) h
asked_for w new t n (ask.make_port x) f m h = not_begot _ w new t (make_port w x) n f (λ r e. cc) h
asked_for w new t n (ask.copy_port q) f m h = not_begot _ w new t (copy_port w q) n f (λ r e. cc) h
asked_for w new t n (ask.iput i v) f m h = not_begot _ w new t (iput w i v) n f (λ r e. cc) h
asked_for w new t n (ask.mput i v) f m h = not_begot _ w new t (mput w i v) n f (λ r e. cc) h
asked_for w new t n (ask.mail b v) f m h = not_begot _ w new t (mail w b v) n f (λ r e. cc) h
asked_for w new t n (ask.multicast x v) f m h = not_begot _ w new t (multicast w x v) n f (λ r e. cc) h
asked_for w new t n ask.fresh_nack f m h = not_begot _ w new t (nack w t) n f (λ r e. cc) h
asked_for w new t n (ask.sync g) f m h = not_begot _ w new t (sync w t g) n f (λ r e. cc) h
asked_for w new t n ask.end f m h = not_begot _ w new t (end_thread w t) n f (λ r e. cc) h
asked_for w new t n (ask.fault why) f m h = not_begot _ w new t (end_thread w t) n f (λ r e. cc) h

pub was_asked : (w new : PlainWorld) (t : ℕ) (a : PlainAsk) (d : Done) → performed w t a ≡ (new, plain_done a d) → WasAsked d a
was_asked w new t a Goes h = tt
was_asked w new t a (Gets v) h = tt
was_asked w new t a (Takes room) h = tt
was_asked w new t a (Spawns m) h = asked_for w new t m.value.thread a (function_asked a) m h
was_asked w new t a Prints h = tt
was_asked w new t a Waits h = tt
was_asked w new t a Ends h = tt
was_asked w new t a (Fails name) h = tt

-- what the ask of a turn did
turn_deed : (c : PlainCourse) (number : Tid) (start end : PlainMachine) (a : PlainAsk) (steps : ℕ) (d : Done)
    (w : PlainWorld) (line : List ℕ) (ms : List PlainMachine) → Leads c
    → TurnDone c number start end a steps d w line ms
    → deed (text_of c.program) (run_of c) (Turn number) ≡ Some (plain_done a d)
turn_deed c number start end a steps d w line ms h g =
    let p = text_of c.program in
    let f = machine_term c.program in
    let same : start.thread ≡ number.0 = (found_is c.program 0 number.0 c.world.threads c.machines running start h.machines g.runs g.at).0 ∙ omega arith in
    let slice : sliced p number.0 (f start) ≡ record { ask = a; end = f end; steps = steps } = rw same at g.slice.meant in
    let at : slice_get (map f c.machines) number.0 ≡ Some (f start) = slice_get-map f c.machines number.0 ∙ ap (option_map f) g.at in
    rw (at, slice, g.done) refl

pub turned_known : (c : PlainCourse) (number : Tid) (start end : PlainMachine) (a : PlainAsk) (steps : ℕ) (d : Done)
    (w : PlainWorld) (line : List ℕ) (ms : List PlainMachine) (items : List Item) (old new : List PlainFunction)
    (n m : ℕ)
    → Leads c → TurnDone c number start end a steps d w line ms → items ≡ c.items ++ Turn number ∷ [] → new ≡ old
    ++ filter_map begotten (plain_done a d ∷ []) → m ≡ n + count_by is_fault (plain_done a d ∷ [])
    → IsKnown (text_of c.program) c.items old n → IsKnown (text_of c.program) items new m
turned_known c number start end a steps d w line ms items old new n m h g is began counted k =
    subst (λ xs. IsKnown (text_of c.program) xs new m) (sym is)
    (known_on (text_of c.program) c.items (Turn number) (run_of c) (plain_done a d) old new n m h.leads (turn_deed c number start end a steps d w line ms h g) began counted k)
