-- What a thread waits for, and threads one after another.
use Rattle.std.proofs.Common.{◌≡◌, ℕ, ◌+◌, ◌<◌, List, [], ◌∷◌, ◌++◌, length, get_or, take, map, Option, Some, sym, ap, ◌∙◌}
use Rattle.std.specs.Prelude.{slice_get}
use Rattle.std.proofs.lemmas.List.{length-map, take_more, map_push}
use Rattle.std.proofs.lemmas.Option.{slice_get-get_or}
use Rattle.cml_value.specs.Value.{PlainFunction, PlainBase}
use Rattle.cml_value.specs.Group.{PlainGroup, bases, leaves, leaf_count}
use Rattle.cml_scan.specs.World.{PlainThread, running, PlainWorld}
use Rattle.cml_facts.specs.declared.ending.awaited.AwaitedEvent.{AwaitedEvent}
use Rattle.cml_phrase.specs.Events.{event_limit}
use Rattle.cml_facts.specs.Waits.{awaited_event, PlainAwaited, awaited_of}
use Rattle.cml_facts.specs.Rings.{next_thread, next_threads}

-- there are as many base events as leaves
pub as_many : (g : PlainGroup) → length (bases g) ≡ leaf_count g
as_many g = length-map (leaves g) (λ l. l.base)

-- a record of these
abbrev pub waited : List AwaitedEvent → ℕ → PlainAwaited
waited events count = record { events = events; count = count }

-- what a thread waits for, by what its base events are, and the first of them with their objects
pub waited_by : (w : PlainWorld) (began : List PlainFunction) (taker : ℕ → Option ℕ) (g : PlainGroup) (all first firsts : List PlainBase) (events : List AwaitedEvent) (n : ℕ)
    → all ≡ bases g → first ≡ all → firsts ≡ take event_limit first → events ≡ map (awaited_event w began taker) firsts → n ≡ length all
    → waited events n ≡ awaited_of w began taker g
waited_by w began taker g all first firsts events n a f s e l =
    let same : events ≡ map (awaited_event w began taker) (take event_limit (bases g)) =
    e ∙ (ap (map (awaited_event w began taker)) s ∙ ap (λ bs. map (awaited_event w began taker) (take event_limit bs)) (f ∙ a)) in
    let many : n ≡ leaf_count g = l ∙ (ap length a ∙ as_many g) in
    ap (λ xs. waited xs n) same ∙ ap (waited (map (awaited_event w began taker) (take event_limit (bases g)))) many

-- one thread more
pub next_more : (w : PlainWorld) (taker : ℕ → Option ℕ) (threads : List PlainThread) (nexts : List (Option ℕ)) (i : ℕ) (next : Option ℕ) → i < length threads
    → ((t : PlainThread) → slice_get threads i ≡ Some t → next ≡ next_thread w taker t)
    → nexts ≡ next_threads w taker (take i threads) → nexts ++ next ∷ [] ≡ next_threads w taker (take (i + 1) threads)
next_more w taker threads nexts i next h is so_far =
    let t = get_or threads i running in
    let e : next ≡ next_thread w taker t = is t (slice_get-get_or threads i running h) in
    ap (λ xs. xs ++ next ∷ []) so_far
    ∙ (ap (λ x. next_threads w taker (take i threads) ++ x ∷ []) e
    ∙ (sym (map_push (next_thread w taker) (take i threads) t) ∙ ap (next_threads w taker) (sym (take_more threads i running h))))
