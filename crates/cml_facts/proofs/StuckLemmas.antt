-- Threads that are held up, one after another.
use Rattle.std.proofs.Common.{◌≡◌, ℕ, suc, ◌+◌, ◌<◌, ◌≤◌, Bool, true, false, List, length, get_or, drop, Some, sym, ap, subst, ◌∙◌, add-one}
use Rattle.std.specs.Prelude.{slice_get, ◌||◌}
use Rattle.std.proofs.lemmas.List.{at_drop_more, drop_all}
use Rattle.std.proofs.lemmas.Option.{slice_get-get_or}
use Rattle.cml_value.specs.Value.{PlainFunction}
use Rattle.cml_scan.specs.World.{PlainThread, running, PlainWorld}
use Rattle.cml_facts.specs.Stuck.{is_held_up, some_held_up}

-- whether the next one is, or one behind it; the book has the threads of this world
next_or : (servers : List ℕ) (began : List PlainFunction) {b w : PlainWorld} → b ≡ w → (i : ℕ) (held all : Bool) → i < length b.threads
    → ((t : PlainThread) → slice_get w.threads i ≡ Some t → held ≡ is_held_up servers (slice_get began i) t)
    → some_held_up servers began i (drop i w.threads) ≡ all → (held || some_held_up servers began (suc i) (drop (i + 1) w.threads)) ≡ all
next_or servers began {b} {w} same i held all within is so_far =
    let h : i < length w.threads = subst (λ (v : PlainWorld). i < length v.threads) same within in
    let rest = some_held_up servers began (suc i) (drop (i + 1) w.threads) in
    ap (λ x. x || rest) (is (get_or w.threads i running) (slice_get-get_or w.threads i running h))
    ∙ (sym (at_drop_more (some_held_up servers began i) w.threads i running h) ∙ so_far)

pub held_more : (servers : List ℕ) (began : List PlainFunction) {b w : PlainWorld} → b ≡ w → (i : ℕ) (held all : Bool) → i < length b.threads
    → ((t : PlainThread) → slice_get w.threads i ≡ Some t → held ≡ is_held_up servers (slice_get began i) t) → held ≡ false
    → some_held_up servers began i (drop i w.threads) ≡ all → some_held_up servers began (i + 1) (drop (i + 1) w.threads) ≡ all
held_more servers began {b} {w} same i held all within is not_so so_far =
    let rest = some_held_up servers began (suc i) (drop (i + 1) w.threads) in
    ap (λ k. some_held_up servers began k (drop (i + 1) w.threads)) (add-one i)
    ∙ (sym (ap (λ x. x || rest) not_so) ∙ next_or servers began same i held all within is so_far)

pub held_found : (servers : List ℕ) (began : List PlainFunction) {b w : PlainWorld} → b ≡ w → (i : ℕ) (held all : Bool) → i < length b.threads
    → ((t : PlainThread) → slice_get w.threads i ≡ Some t → held ≡ is_held_up servers (slice_get began i) t) → held ≡ true
    → some_held_up servers began i (drop i w.threads) ≡ all → true ≡ all
held_found servers began {b} {w} same i held all within is so so_far =
    let rest = some_held_up servers began (suc i) (drop (i + 1) w.threads) in
    sym (ap (λ x. x || rest) so) ∙ next_or servers began same i held all within is so_far

pub held_none : (servers : List ℕ) (began : List PlainFunction) {b w : PlainWorld} → b ≡ w → (i : ℕ) (all : Bool) → length b.threads ≤ i
    → some_held_up servers began i (drop i w.threads) ≡ all → false ≡ all
held_none servers began {b} {w} same i all past so_far =
    let h : length w.threads ≤ i = subst (λ (v : PlainWorld). length v.threads ≤ i) same past in
    sym (ap (some_held_up servers began i) (drop_all i w.threads h)) ∙ so_far
