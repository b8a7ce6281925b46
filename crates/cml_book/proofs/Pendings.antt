-- Who is pending after a thread changes.
use Rattle.std.proofs.Common.{◌≡◌, ◌≢◌, ℕ, ◌+◌, ◌<◌, ◌≤◌, Bool, true, false, not, ◌||◌, nat_eq, nat_lt, cond, List, [], ◌∷◌, ◌++◌, refl, ap, sym, arith, zero, suc, Some}
use Rattle.std.specs.Prelude.{slice_set, slice_get, All}
use Rattle.std.specs.List.{filter}
use Rattle.std.proofs.lemmas.Bool.Decides.{nat_tests}
use Rattle.std.proofs.lemmas.List.Elements.{All-nil, All-cons}
use Rattle.cml_value.specs.Group.{PlainGroup}
use Rattle.cml_value.specs.declared.number.Tid.{Tid}
use Rattle.cml_scan.specs.World.{PlainThread, running, pending_on, ended, PlainEntry, pending_from}
use Rattle.cml_scan.specs.Table.{without, with_entry}

pub apart : (a b : ℕ) → a ≢ b → nat_eq a b ≡ false
apart a b h = grind (arith, nat_tests)

pub alike : (a b : ℕ) → a ≡ b → nat_eq a b ≡ true
alike a b h = grind (arith, nat_tests)

is_below : (a b : ℕ) → a < b → nat_lt a b ≡ true
is_below a b h = grind (arith, nat_tests)

not_below : (a b : ℕ) → b ≤ a → nat_lt a b ≡ false
not_below a b h = grind (arith, nat_tests)

-- a new thread that runs is not pending
pub pending-push : (n : ℕ) (ts : List PlainThread) → pending_from n (ts ++ running ∷ []) ≡ pending_from n ts
pending-push n [] = refl
pending-push n (running ∷ ts) = pending-push (n + 1) ts
pending-push n (pending_on g ∷ ts) = ap (λ es. record { thread = n; group = g } ∷ es) (pending-push (n + 1) ts)
pending-push n (ended ∷ ts) = pending-push (n + 1) ts

-- a thread that comes earlier is not among the pending ones
without_earlier : (t : Tid) (n : ℕ) (ts : List PlainThread) → t.0 < n → without (t ∷ []) (pending_from n ts) ≡ pending_from n ts
without_earlier t n [] h = refl
without_earlier t n (running ∷ ts) h = without_earlier t (n + 1) ts (omega arith)
without_earlier t n (pending_on g ∷ ts) h = rw (apart t.0 n (omega arith)) (ap (λ es. record { thread = n; group = g } ∷ es) (without_earlier t (n + 1) ts (omega arith)))
without_earlier t n (ended ∷ ts) h = without_earlier t (n + 1) ts (omega arith)

-- a thread that goes on is pending no more
pub pending-resume : (t : Tid) (n i : ℕ) (ts : List PlainThread) → t.0 ≡ n + i → pending_from n (slice_set ts i running) ≡ without (t ∷ []) (pending_from n ts)
pending-resume t n i [] h = refl
pending-resume t n zero (running ∷ ts) h = sym (without_earlier t (n + 1) ts (omega arith))
pending-resume t n zero (pending_on g ∷ ts) h = rw (alike t.0 n (omega arith)) (sym (without_earlier t (n + 1) ts (omega arith)))
pending-resume t n zero (ended ∷ ts) h = sym (without_earlier t (n + 1) ts (omega arith))
pending-resume t n (suc i) (running ∷ ts) h = pending-resume t (n + 1) i ts (omega arith)
pending-resume t n (suc i) (pending_on g ∷ ts) h = rw (apart t.0 n (omega arith)) (ap (λ es. record { thread = n; group = g } ∷ es) (pending-resume t (n + 1) i ts (omega arith)))
pending-resume t n (suc i) (ended ∷ ts) h = pending-resume t (n + 1) i ts (omega arith)

-- a running thread that ends was not pending
pub pending-end : (n i : ℕ) (ts : List PlainThread) → slice_get ts i ≡ Some running → pending_from n (slice_set ts i ended) ≡ pending_from n ts
pending-end n i [] h = refl
pending-end n zero (running ∷ ts) h = refl
pending-end n zero (pending_on g ∷ ts) h = cc
pending-end n zero (ended ∷ ts) h = refl
pending-end n (suc i) (running ∷ ts) h = pending-end (n + 1) i ts h
pending-end n (suc i) (pending_on g ∷ ts) h = ap (λ es. record { thread = n; group = g } ∷ es) (pending-end (n + 1) i ts h)
pending-end n (suc i) (ended ∷ ts) h = pending-end (n + 1) i ts h

none_below : (t n : ℕ) (ts : List PlainThread) → t ≤ n → filter (λ x. nat_lt x.thread t) (pending_from n ts) ≡ []
none_below t n [] h = refl
none_below t n (running ∷ ts) h = none_below t (n + 1) ts (omega arith)
none_below t n (pending_on g ∷ ts) h = rw (not_below n t h) (none_below t (n + 1) ts (omega arith))
none_below t n (ended ∷ ts) h = none_below t (n + 1) ts (omega arith)

all_above : (t n : ℕ) (ts : List PlainThread) → t < n → filter (λ x. nat_lt t x.thread) (pending_from n ts) ≡ pending_from n ts
all_above t n [] h = refl
all_above t n (running ∷ ts) h = all_above t (n + 1) ts (omega arith)
all_above t n (pending_on g ∷ ts) h = rw (is_below t n h) (ap (λ es. record { thread = n; group = g } ∷ es) (all_above t (n + 1) ts (omega arith)))
all_above t n (ended ∷ ts) h = all_above t (n + 1) ts (omega arith)

-- a running thread that waits is one more pending thread
pub pending-wait : (t n i : ℕ) (ts : List PlainThread) (g : PlainGroup) → t ≡ n + i → slice_get ts i ≡ Some running
    → pending_from n (slice_set ts i (pending_on g)) ≡ with_entry (record { thread = t; group = g }) (pending_from n ts)
pending-wait t n i [] g e h = cc
pending-wait t n zero (running ∷ ts) g e h =
    let same : t ≡ n = omega arith in
    rw (none_below t (n + 1) ts (omega arith), all_above t (n + 1) ts (omega arith), same) refl
pending-wait t n zero (pending_on other ∷ ts) g e h = cc
pending-wait t n zero (ended ∷ ts) g e h = cc
pending-wait t n (suc i) (running ∷ ts) g e h = pending-wait t (n + 1) i ts g (omega arith) h
pending-wait t n (suc i) (pending_on other ∷ ts) g e h =
    rw (is_below n t (omega arith), not_below t n (omega arith)) (ap (λ es. record { thread = n; group = other } ∷ es) (pending-wait t (n + 1) i ts g (omega arith) h))
pending-wait t n (suc i) (ended ∷ ts) g e h = pending-wait t (n + 1) i ts g (omega arith) h

-- a running thread has no group there
pub running_is_new : (t n i : ℕ) (ts : List PlainThread) → t ≡ n + i → slice_get ts i ≡ Some running → All (λ e. e.thread ≢ t) (pending_from n ts)
running_is_new t n i [] e h = cc
running_is_new t n zero (running ∷ ts) e h = later t (n + 1) ts (omega arith)
  where
    later : (t n : ℕ) (ts : List PlainThread) → t < n → All (λ e. e.thread ≢ t) (pending_from n ts)
    later t n [] h = All-nil _
    later t n (running ∷ ts) h = later t (n + 1) ts (omega arith)
    later t n (pending_on g ∷ ts) h = All-cons (λ (e : PlainEntry). e.thread ≢ t) (record { thread = n; group = g }) (pending_from (n + 1) ts) (omega arith) (later t (n + 1) ts (omega arith))
    later t n (ended ∷ ts) h = later t (n + 1) ts (omega arith)
running_is_new t n zero (pending_on g ∷ ts) e h = cc
running_is_new t n zero (ended ∷ ts) e h = cc
running_is_new t n (suc i) (running ∷ ts) e h = running_is_new t (n + 1) i ts (omega arith) h
running_is_new t n (suc i) (pending_on g ∷ ts) e h = All-cons (λ (x : PlainEntry). x.thread ≢ t)
    (record { thread = n; group = g }) (pending_from (n + 1) ts) (omega arith)
    (running_is_new t (n + 1) i ts (omega arith) h)
running_is_new t n (suc i) (ended ∷ ts) e h = running_is_new t (n + 1) i ts (omega arith) h

-- two threads go, one after the other
pub without_two : (h o : Tid) (es : List PlainEntry) → without (o ∷ []) (without (h ∷ []) es) ≡ without (h ∷ o ∷ []) es
without_two h o [] = refl
without_two h o (e ∷ es) = at (nat_eq h.0 e.thread) (nat_eq o.0 e.thread) refl refl (without_two h o es)
  where
    at : (a b : Bool) → nat_eq h.0 e.thread ≡ a → nat_eq o.0 e.thread ≡ b → without (o ∷ []) (without (h ∷ []) es) ≡ without (h ∷ o ∷ []) es
        → without (o ∷ []) (cond (not (a || false)) (e ∷ without (h ∷ []) es) (without (h ∷ []) es)) ≡ cond (not (a || (b || false))) (e ∷ without (h ∷ o ∷ []) es) (without (h ∷ o ∷ []) es)
    at true b p q ih = ih
    at false true p q ih = rw q ih
    at false false p q ih = rw q (ap (λ es. e ∷ es) ih)

pub without_none : (es : List PlainEntry) → without [] es ≡ es
without_none [] = refl
without_none (e ∷ es) = ap (λ rest. e ∷ rest) (without_none es)
