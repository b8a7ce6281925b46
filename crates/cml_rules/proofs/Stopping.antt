-- Nothing is left to do exactly where no item is allowed, and then no schedule goes on.
use Rattle.std.proofs.Common.{◌≡◌, ℕ, zero, suc, Bool, true, false, not, ◌&&◌, ◌||◌, nat_eq, if◌then◌else◌, List, [], ◌∷◌, Option, Some, None, refl, ap, sym, ◌∙◌, arith}
use Rattle.std.specs.Prelude.{slice_get, option_and_then}
use Rattle.std.specs.List.{list_any}
use Rattle.std.specs.Option.{option_map_or}
use Rattle.std.proofs.lemmas.Bool.Decides.{nat_tests}
use Rattle.cml_scan.specs.World.{PlainThread, PlainWorld}
use Rattle.cml_scan.specs.Scan.{scan, has_row}
use Rattle.cml_scan.specs.declared.meet.Meet.{Meet}
use Rattle.cml_scan.proofs.Enabling.{has_row-Contains}
use Rattle.cml_schedule.specs.declared.item.Item.{Item}
use Rattle.cml_schedule.specs.declared.item.Item.TheVariants.{Turn, Meet as Commit, Exchange, Clock}
use Rattle.cml_book.specs.Swaps.{are_swaps}
use Rattle.cml_book.specs.Walks.{runs}
use Rattle.cml_hub.specs.Runs.{Run, opening, any_runs, is_empty, is_none, next_alarm, has_number, is_allowed, after_item, advance, stands_from, terminal}
use Rattle.cml_rules.specs.Runs.{EndIsNoItem, EndIsForEver}
use Rattle.cml_rules.proofs.Following.{stands-append, stands-none, both_true}

is_not : (b : Bool) → not b ≡ true → b ≡ false
is_not true e = sym e
is_not false e = refl

neither : (a b : Bool) → a || b ≡ false → (a ≡ false) × (b ≡ false)
neither true b e = cc
neither false b e = (refl, e)

none_runs : (ts : List PlainThread) (t : ℕ) → list_any runs ts ≡ false → option_map_or runs (slice_get ts t) false ≡ false
none_runs [] t h = refl
none_runs (x ∷ ts) zero h = (neither (runs x) (list_any runs ts) h).0
none_runs (x ∷ ts) (suc t) h = none_runs ts t (neither (runs x) (list_any runs ts) h).1

no_rows : (rows : List Meet) → is_empty rows ≡ true → (row : Meet) → has_row rows row ≡ false
no_rows [] e row = refl
no_rows (r ∷ rows) e row = cc

no_tick : (o : Option ℕ) → is_none o ≡ true → (tick : ℕ) → has_number o tick ≡ false
no_tick None e tick = refl
no_tick (Some t) e tick = cc

not_both : (a b : Bool) → a ≡ false → a && b ≡ false
not_both a b e = rw e refl

nothing_allowed : (w : PlainWorld) → terminal w ≡ true → (item : Item) → is_allowed w item ≡ false
nothing_allowed w h item = at item
  where
    all : (not (any_runs w) && is_empty (scan w) ≡ true) × (is_none (next_alarm w) ≡ true)
    all = both_true (not (any_runs w) && is_empty (scan w)) (is_none (next_alarm w)) h

    two : (not (any_runs w) ≡ true) × (is_empty (scan w) ≡ true)
    two = both_true (not (any_runs w)) (is_empty (scan w)) all.0

    at : (item : Item) → is_allowed w item ≡ false
    at (Turn t) = none_runs w.threads t.0 (is_not (any_runs w) two.0)
    at (Commit row) = no_rows (scan w) two.1 row
    at (Exchange row) = not_both (has_row (scan w) row) (are_swaps w row) (no_rows (scan w) two.1 row)
    at (Clock tick) =
        not_both (has_number (next_alarm w) tick && not (any_runs w)) (is_empty (scan w))
        (not_both (has_number (next_alarm w) tick) (not (any_runs w)) (no_tick (next_alarm w) all.1 tick))

-- the other way: each of the three leaves an item
none_run : (ts : List PlainThread) → ((t : ℕ) → option_map_or runs (slice_get ts t) false ≡ false) → list_any runs ts ≡ false
none_run [] h = refl
none_run (x ∷ ts) h = both (runs x) (list_any runs ts) (h 0) (none_run ts (λ t. h (suc t)))
  where
    both : (a b : Bool) → a ≡ false → b ≡ false → a || b ≡ false
    both a b e f = rw (e, f) refl

nothing_in : (rows : List Meet) → ((row : Meet) → has_row rows row ≡ false) → is_empty rows ≡ true
nothing_in [] h = refl
nothing_in (r ∷ rows) h = absurd (differ (sym (has_row-Contains (r ∷ rows) r (0, omega arith, refl)) ∙ h r))
  where
    differ : true ≡ false → ⊥
    differ e = cc

no_alarm : (o : Option ℕ) (a b : Bool) → a ≡ true → b ≡ true → ((tick : ℕ) → has_number o tick && a && b ≡ false) → is_none o ≡ true
no_alarm None a b e f h = refl
no_alarm (Some t) a b e f h = absurd (differ (sym (ap (λ c. c && b) (ap (λ c. has_number (Some t) t && c) e)) ∙ h t))
  where
    itself : nat_eq t t ≡ true
    itself = grind (arith, nat_tests)

    all : (c d : Bool) → c ≡ true → d ≡ true → c && true && d ≡ true
    all c d p q = rw (p, q) refl

    differ : nat_eq t t && true && b ≡ false → ⊥
    differ e = apart (sym (all (nat_eq t t) b itself f) ∙ e)
      where
        apart : true ≡ false → ⊥
        apart e = cc

nothing_left : (w : PlainWorld) → ((item : Item) → is_allowed w item ≡ false) → terminal w ≡ true
nothing_left w h = all (not (any_runs w)) (is_empty (scan w)) (is_none (next_alarm w)) still empty (no_alarm (next_alarm w) (not (any_runs w)) (is_empty (scan w)) still empty (λ tick. h (Clock tick)))
  where
    still : not (any_runs w) ≡ true
    still = ap not (none_run w.threads (λ t. h (Turn (record { 0 = t }))))

    empty : is_empty (scan w) ≡ true
    empty = nothing_in (scan w) (λ row. h (Commit row))

    all : (a b c : Bool) → a ≡ true → b ≡ true → c ≡ true → a && b && c ≡ true
    all a b c p q r = rw (p, q, r) refl

pub end_is_no_item : EndIsNoItem
end_is_no_item w = (nothing_allowed w, nothing_left w)

pub end_is_for_ever : EndIsForEver
end_is_for_ever p items more item now stood h =
    stands-append p (Some (opening p)) items (item ∷ more)
    ∙ ap (λ o. stands_from p (option_and_then (λ r. advance p r item) o) more) stood
    ∙ ap (λ o. stands_from p o more) (stops (is_allowed now.world item) (nothing_allowed now.world h item))
    ∙ stands-none p more
  where
    stops : (b : Bool) → b ≡ false → Path (Option Run) (if b then after_item p now item else None) None
    stops true e = cc
    stops false e = refl
