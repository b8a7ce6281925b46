-- The system of a program is as is promised of a system.
use Rattle.std.specs.Prelude.{◌≡◌, ℕ, zero, suc, ◌<◌, Bool, true, false, not, ◌&&◌, List, [], ◌∷◌, ◌++◌, length, map, filter, is_some, IsSome, Option, Some, None, option_map, if◌then◌else◌, Contains}
use Rattle.std.specs.List.{range_with_len}
use Rattle.std.specs.Option.{option_map_or}
use Rattle.std.proofs.Common.{slice_get, refl, ap, sym, ◌∙◌, arith, true≢false}
use Rattle.std.proofs.lemmas.Bool.{eqb-true}
use Rattle.std.proofs.lemmas.List.Elements.{All-weaker, Contains-append_left, Contains-append_right, filter_passes}
use Rattle.std.proofs.lemmas.List.FromFn.{get_or-range_with_len, length-range_with_len}
use Rattle.std.proofs.lemmas.Option.{slice_get_within, same_Some}
use Rattle.cml_scan.specs.World.{PlainWorld, PlainThread}
use Rattle.cml_scan.specs.Scan.{scan, has_row}
use Rattle.cml_book.specs.Walks.{runs}
use Rattle.cml_book.specs.Swaps.{are_swaps}
use Rattle.cml_schedule.specs.declared.item.Item.{Item}
use Rattle.cml_schedule.specs.declared.item.Item.TheVariants.{Turn, Meet as Commit, Exchange, Clock}
use Rattle.cml_step.specs.Terms.{Program}
use Rattle.cml_hub.specs.Runs.{Run, after_item, is_allowed, advance, next_alarm, has_number, any_runs, is_empty}
use Rattle.cml_hub.proofs.RowLemmas.{row_there}
use Rattle.cml_verify.specs.Systems.{ListsAllowed, IsLawful}
use Rattle.cml_verify.specs.Places.{mapped_has, place_in}
use Rattle.cml_verify.specs.Cores.{more, Core, core_of, run_at, core_step, done_by, can, turns, alarm_of, candidates, allowed, program_system}

-- what passes the test stays
module _ {X : Type 0} (test : X → Bool) where
  one_more : (x y : X) (xs : List X) (b : Bool) → test y ≡ b → Contains (filter test xs) x → Contains (filter test (y ∷ xs)) x
  one_more x y xs true e c = rw e (Contains-append_right (y ∷ []) (filter test xs) x c)
  one_more x y xs false e c = rw e c

  filter_at : (xs : List X) (k : ℕ) (x : X) → slice_get xs k ≡ Some x → test x ≡ true → Contains (filter test xs) x
  filter_at [] k x h e = absurd (cc)
  filter_at (y ∷ xs) zero x h e =
      let is : y ≡ x = same_Some y x h in
      let passes : test y ≡ true = ap test is ∙ e in
      rw passes (0, omega arith, is)
  filter_at (y ∷ xs) (suc k) x h e = one_more x y xs (test y) refl (filter_at xs k x h e)

  pub filter_has : (xs : List X) (x : X) → Contains xs x → test x ≡ true → Contains (filter test xs) x
  filter_has xs x c e = filter_at xs c.0 x (place_in xs x c) e

range_has : (n t : ℕ) → t < n → Contains (range_with_len 0 n) t
range_has n t h = (t, omega (arith, length-range_with_len 0 n, h), get_or-range_with_len 0 n t t h ∙ omega arith)

and_first : (a b : Bool) → (a && b) ≡ true → a ≡ true
and_first true b e = refl
and_first false b e = e

where_allowed : (b : Bool) (o : Option Run) → is_some (if b then o else None) ≡ true → b ≡ true
where_allowed true o h = refl
where_allowed false o h = h

mapped : (f : Run → Core) (o : Option Run) → is_some (option_map f o) ≡ is_some o
mapped f None = refl
mapped f (Some r) = refl

-- a thread that runs is there
runs_there : (ts : List PlainThread) (t : ℕ) (o : Option PlainThread) → slice_get ts t ≡ o → option_map_or runs o false ≡ true → t < length ts
runs_there ts t None e h = absurd (true≢false (sym h))
runs_there ts t (Some x) e h = slice_get_within ts t x e

number_is : (o : Option ℕ) (tick : ℕ) → has_number o tick ≡ true → Contains (alarm_of o) (Clock tick)
number_is None tick h = absurd (true≢false (sym h))
number_is (Some m) tick h = (0, omega arith, ap Clock (eqb-true m tick h))

-- an item that is allowed is among the candidates
among : (w : PlainWorld) (item : Item) → is_allowed w item ≡ true → Contains (candidates w) item
among w (Turn t) h =
    let there : t.0 < length w.threads = runs_there w.threads t.0 (slice_get w.threads t.0) refl h in
    let has : Contains (turns w) (Turn t) = mapped_has (λ n. Turn (record { 0 = n })) (range_with_len 0 (length w.threads)) t.0 (range_has (length w.threads) t.0 there) in
    Contains-append_left ((turns w ++ map Commit (scan w)) ++ map Exchange (scan w)) (alarm_of (next_alarm w)) (Turn t)
    (Contains-append_left (turns w ++ map Commit (scan w)) (map Exchange (scan w)) (Turn t) (Contains-append_left (turns w) (map Commit (scan w)) (Turn t) has))
among w (Commit row) h =
    Contains-append_left ((turns w ++ map Commit (scan w)) ++ map Exchange (scan w)) (alarm_of (next_alarm w)) (Commit row)
    (Contains-append_left (turns w ++ map Commit (scan w)) (map Exchange (scan w)) (Commit row)
    (Contains-append_right (turns w) (map Commit (scan w)) (Commit row) (mapped_has Commit (scan w) row (row_there (scan w) row h))))
among w (Exchange row) h =
    Contains-append_left ((turns w ++ map Commit (scan w)) ++ map Exchange (scan w)) (alarm_of (next_alarm w)) (Exchange row)
    (Contains-append_right (turns w ++ map Commit (scan w)) (map Exchange (scan w)) (Exchange row)
    (mapped_has Exchange (scan w) row (row_there (scan w) row (and_first (has_row (scan w) row) (are_swaps w row) h))))
among w (Clock tick) h =
    let first : has_number (next_alarm w) tick ≡ true =
    and_first (has_number (next_alarm w) tick) (not (any_runs w)) (and_first (has_number (next_alarm w) tick && not (any_runs w)) (is_empty (scan w)) h) in
    Contains-append_right ((turns w ++ map Commit (scan w)) ++ map Exchange (scan w)) (alarm_of (next_alarm w)) (Clock tick) (number_is (next_alarm w) tick first)

lists : (p : Program) (with_output : Bool) (c : Core) → ListsAllowed (program_system p with_output) c
lists p with_output c = record {
  each = All-weaker (λ i. can p r i ≡ true) (λ i. IsSome (core_step p with_output c i)) (λ i h. mapped (after i) (advance p r i) ∙ h) (allowed p r)
      (filter_passes (can p r) (candidates c.world));
  only = λ i t h. by i (sym (mapped (after i) (advance p r i)) ∙ ap is_some h);
}
  where
    r : Run
    r = run_at c

    after : Item → Run → Core
    after i = core_of with_output (more c.past (done_by p r i))

    by : (i : Item) → can p r i ≡ true → Contains (allowed p r) i
    by i h = filter_has (can p r) (candidates c.world) i (among c.world i (where_allowed (is_allowed c.world i) (after_item p r i) h)) h

pub is_lawful : (p : Program) (with_output : Bool) → IsLawful (program_system p with_output)
is_lawful p with_output = record { lists = λ c r. lists p with_output c; quiet = λ c a r q. absurd (true≢false (sym q)) }
