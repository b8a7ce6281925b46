-- Threads that come to the queue, and leave it.
use Rattle.std.proofs.Common.{◌≡◌, ◌≢◌, ℕ, zero, suc, ◌+◌, ◌*◌, ◌<◌, ◌≤◌, ◌^◌, Bool, true, false, not, nat_eq, List}
use Rattle.std.proofs.Common.{[], ◌∷◌, ◌++◌, length, take, drop, refl, arith, Some, None, sym, ap, ◌∙◌, length-set}
use Rattle.std.proofs.Common.{length-append, slice_index_or, add-one}
use Rattle.std.specs.Prelude.{slice_get, slice_set, Option, OnSome, IsSome}
use Rattle.std.specs.List.{list_any, remove}
use Rattle.std.proofs.lemmas.Bool.Decides.{nat_tests}
use Rattle.cml_value.specs.declared.number.Tid.{Tid}
use Rattle.cml_hub.specs.declared.ready_queue.Mark.{Mark}
use Rattle.cml_hub.specs.declared.ready_queue.Mark.TheVariants.{Ready, Out, NotRunning}
use Rattle.cml_hub.specs.ReadyQueue.{is_here, is_at, count_of, readies, outs, ready_at, count_outs, AreMarks}

pub at_same : (t : ℕ) → is_at t t ≡ 1
at_same zero = refl
at_same (suc t) = at_same t

pub count_append : (t : ℕ) (xs ys : List Tid) → count_of t (xs ++ ys) ≡ count_of t xs + count_of t ys
count_append t [] ys = omega arith
count_append t (x ∷ xs) ys = omega (arith, count_append t xs ys)

pub count_remove : (t : ℕ) (xs : List Tid) (i : ℕ) (y : Tid) → i < length xs → y ≡ slice_index_or xs i y → count_of t (remove xs i) + is_at t y.0 ≡ count_of t xs
count_remove t [] i y lt e = absurd (omega arith)
count_remove t (x ∷ xs) zero y lt e = let n : y.0 ≡ x.0 = ap (λ (z : Tid). z.0) e in rw n (omega arith)
count_remove t (x ∷ xs) (suc i) y lt e = omega (arith, count_remove t xs i y (omega arith) e)

-- one more that was not it
pub count_more : (t i : ℕ) (xs : List Tid) (y : Tid) → i < length xs → y ≡ slice_index_or xs i y → is_at t y.0 ≡ 0 → count_of t (take i xs) ≡ 0 → count_of t (take (suc i) xs) ≡ 0
count_more t i [] y lt e ne h = absurd (omega arith)
count_more t zero (x ∷ xs) y lt e ne h = let n : is_at t y.0 ≡ is_at t x.0 = ap (λ (z : Tid). is_at t z.0) e in omega (arith, n, ne)
count_more t (suc i) (x ∷ xs) y lt e ne h = omega (arith, count_more t i xs y (omega arith) e ne (omega (arith, h)))

pub at_other : (t n : ℕ) → t ≢ n → is_at t n ≡ 0
at_other zero zero h = absurd (h refl)
at_other zero (suc n) h = refl
at_other (suc t) zero h = refl
at_other (suc t) (suc n) h = at_other t n (λ e. h (ap suc e))

ready_push : (ms : List Mark) (t : ℕ) → ready_at (ms ++ Ready ∷ []) t ≡ ready_at ms t + is_at t (length ms)
ready_push [] zero = refl
ready_push [] (suc t) = refl
ready_push (m ∷ ms) zero = omega arith
ready_push (m ∷ ms) (suc t) = ready_push ms t

outs_push : (ms : List Mark) → count_outs (ms ++ Ready ∷ []) ≡ count_outs ms
outs_push [] = refl
outs_push (m ∷ ms) = omega (arith, outs_push ms)

pub ready_set : (ms : List Mark) (i t : ℕ) (old new : Mark) → slice_get ms i ≡ Some old → ready_at (slice_set ms i new) t + readies old * is_at t i ≡ ready_at ms t + readies new * is_at t i
ready_set [] i t old new h = cc
ready_set (m ∷ ms) zero zero old new h = let e : m ≡ old = cc in omega (arith, ap readies e)
ready_set (m ∷ ms) zero (suc t) old new h = omega arith
ready_set (m ∷ ms) (suc i) zero old new h = omega arith
ready_set (m ∷ ms) (suc i) (suc t) old new h = ready_set ms i t old new h

pub outs_set : (ms : List Mark) (i : ℕ) (old new : Mark) → slice_get ms i ≡ Some old → count_outs (slice_set ms i new) + outs old ≡ count_outs ms + outs new
outs_set [] i old new h = cc
outs_set (m ∷ ms) zero old new h = let e : m ≡ old = cc in omega (arith, ap outs e)
outs_set (m ∷ ms) (suc i) old new h = omega (arith, outs_set ms i old new h)

pub marks_add : (queue : List Tid) (ms : List Mark) (o : ℕ) (t : Tid) → AreMarks queue ms o → t.0 ≡ length ms → t.0 < 2 ^ 32 → AreMarks (queue ++ t ∷ []) (ms ++ Ready ∷ []) o
marks_add queue ms o t h e lt = record {
  queued = λ u. omega (arith, count_append u queue (t ∷ []), ready_push ms u, h.queued u, ap (is_at u) e);
  counted = omega (arith, h.counted, outs_push ms);
  few = omega (arith, e, lt, length-append ms (Ready ∷ []));
}

pub marks_ready : (queue : List Tid) (ms : List Mark) (o : ℕ) (t : Tid) → AreMarks queue ms o → slice_get ms t.0 ≡ Some NotRunning → AreMarks (queue ++ t ∷ []) (slice_set ms t.0 Ready) o
marks_ready queue ms o t h e = record {
  queued = λ u. omega (arith, count_append u queue (t ∷ []), ready_set ms t.0 u NotRunning Ready e, h.queued u);
  counted = omega (arith, h.counted, outs_set ms t.0 NotRunning Ready e);
  few = omega (arith, h.few, length-set ms t.0 Ready);
}

-- who was ready leaves the queue
pub marks_left : (queue rest : List Tid) (ms : List Mark) (o : ℕ) (i : ℕ) (new : Mark) → AreMarks queue ms o → slice_get ms i ≡ Some Ready → readies new ≡ 0
    → ((t : ℕ) → count_of t rest + is_at t i ≡ count_of t queue) → AreMarks rest (slice_set ms i new) (o + outs new)
marks_left queue rest ms o i new h e not_ready less = record {
  queued = λ u. omega (arith, ready_set ms i u Ready new e, h.queued u, less u, ap (λ n. n * is_at u i) not_ready);
  counted = omega (arith, h.counted, outs_set ms i Ready new e);
  few = omega (arith, h.few, length-set ms i new);
}

-- who was out, or away, is away
pub marks_back : (queue : List Tid) (ms : List Mark) (o o2 : ℕ) (i : ℕ) (old : Mark) → AreMarks queue ms o → slice_get ms i ≡ Some old → readies old ≡ 0
    → o2 + outs old ≡ o → AreMarks queue (slice_set ms i NotRunning) o2
marks_back queue ms o o2 i old h e not_ready less = record {
  queued = λ u. omega (arith, ready_set ms i u old NotRunning e, h.queued u, ap (λ n. n * is_at u i) not_ready);
  counted = omega (arith, h.counted, less, outs_set ms i old NotRunning e);
  few = omega (arith, h.few, length-set ms i NotRunning);
}

pub ready_is : (ms : List Mark) (t : ℕ) → slice_get ms t ≡ Some Ready → ready_at ms t ≡ 1
ready_is [] t h = cc
ready_is (m ∷ ms) zero h = let e : m ≡ Ready = cc in ap readies e
ready_is (m ∷ ms) (suc t) h = ready_is ms t h

is_ready : (ms : List Mark) (t : ℕ) → 1 ≤ ready_at ms t → slice_get ms t ≡ Some Ready
is_ready [] t h = absurd (omega arith)
is_ready (Ready ∷ ms) zero h = refl
is_ready (Out ∷ ms) zero h = absurd (omega arith)
is_ready (NotRunning ∷ ms) zero h = absurd (omega arith)
is_ready (m ∷ ms) (suc t) h = is_ready ms t h

not_ready : (ms : List Mark) (t : ℕ) (m : Mark) → slice_get ms t ≡ Some m → readies m ≡ 0 → ready_at ms t ≡ 0
not_ready [] t m h e = refl
not_ready (x ∷ ms) zero m h e = let same : x ≡ m = cc in ap readies same ∙ e
not_ready (x ∷ ms) (suc t) m h e = not_ready ms t m h e

pub not_queued : (queue : List Tid) (ms : List Mark) (o t : ℕ) (m : Mark) → AreMarks queue ms o → slice_get ms t ≡ Some m → readies m ≡ 0 → count_of t queue ≡ 0
not_queued queue ms o t m h e r = h.queued t ∙ not_ready ms t m e r

pub queued_once : (queue : List Tid) (ms : List Mark) (o t : ℕ) → AreMarks queue ms o → slice_get ms t ≡ Some Ready → count_of t queue ≡ 1
queued_once queue ms o t h e = h.queued t ∙ ready_is ms t e

pub none_ready : (queue : List Tid) (ms : List Mark) (o t : ℕ) → AreMarks queue ms o → length queue ≡ 0 → slice_get ms t ≡ Some Ready → ⊥
none_ready [] ms o t h e r = absurd (omega (arith, h.queued t, ready_is ms t r))
none_ready (x ∷ queue) ms o t h e r = absurd (omega arith)

pub none_first : (queue : List Tid) → length queue ≡ 0 → None ≡ slice_get queue 0
none_first [] e = refl
none_first (x ∷ queue) e = absurd (omega arith)

pub first_is : (queue : List Tid) (x : Tid) → 0 < length queue → x ≡ slice_index_or queue 0 x → Some x ≡ slice_get queue 0
first_is [] x lt e = absurd (omega arith)
first_is (y ∷ queue) x lt e = ap (λ z. Some z) e

pub front_ready : (queue : List Tid) (ms : List Mark) (o : ℕ) (x : Tid) → AreMarks queue ms o → 0 < length queue → x ≡ slice_index_or queue 0 x → slice_get ms x.0 ≡ Some Ready
front_ready [] ms o x h lt e = absurd (omega arith)
front_ready (y ∷ queue) ms o x h lt e =
    let n : x.0 ≡ y.0 = ap (λ (z : Tid). z.0) e in
    rw n (is_ready ms y.0 (omega (arith, h.queued y.0, at_same y.0)))

none_here : (ms : List Mark) → ((t : ℕ) → 0 ≡ ready_at ms t) → 0 ≡ count_outs ms → list_any is_here ms ≡ false
none_here [] h e = refl
none_here (Ready ∷ ms) h e = absurd (omega (arith, h 0))
none_here (Out ∷ ms) h e = absurd (omega arith)
none_here (NotRunning ∷ ms) h e = none_here ms (λ t. h (suc t)) (omega arith)

some_out : (ms : List Mark) → 1 ≤ count_outs ms → list_any is_here ms ≡ true
some_out [] h = absurd (omega arith)
some_out (Ready ∷ ms) h = refl
some_out (Out ∷ ms) h = refl
some_out (NotRunning ∷ ms) h = some_out ms (omega arith)

some_ready : (ms : List Mark) (t : ℕ) → 1 ≤ ready_at ms t → list_any is_here ms ≡ true
some_ready [] t h = absurd (omega arith)
some_ready (Ready ∷ ms) t h = refl
some_ready (Out ∷ ms) t h = refl
some_ready (NotRunning ∷ ms) zero h = absurd (omega arith)
some_ready (NotRunning ∷ ms) (suc t) h = some_ready ms t h

-- no thread runs where none is in the queue and none is out
pub idle_empty : (queue : List Tid) (ms : List Mark) (o : ℕ) → AreMarks queue ms o → length queue ≡ 0 → nat_eq o 0 ≡ not (list_any is_here ms)
idle_empty [] ms zero h e = ap not (sym (none_here ms h.queued h.counted))
idle_empty [] ms (suc o) h e = (let n : nat_eq (suc o) 0 ≡ false = grind (arith, nat_tests) in n) ∙ ap not (sym (some_out ms (omega (arith, h.counted))))
idle_empty (x ∷ queue) ms o h e = absurd (omega arith)

pub idle_filled : (queue : List Tid) (ms : List Mark) (o : ℕ) → AreMarks queue ms o → 0 < length queue → false ≡ not (list_any is_here ms)
idle_filled [] ms o h e = absurd (omega arith)
idle_filled (x ∷ queue) ms o h e = ap not (sym (some_ready ms x.0 (omega (arith, h.queued x.0, at_same x.0))))

pub few_out : (ms : List Mark) → count_outs ms ≤ length ms
few_out [] = omega arith
few_out (Ready ∷ ms) = omega (arith, few_out ms)
few_out (Out ∷ ms) = omega (arith, few_out ms)
few_out (NotRunning ∷ ms) = omega (arith, few_out ms)

pub not_empty : (n : ℕ) (b : Bool) → b ≡ nat_eq n 0 → b ≡ false → 0 < n
not_empty n b e h = grind (arith, nat_tests)

pub empty : (n : ℕ) (b : Bool) → b ≡ nat_eq n 0 → b ≡ true → n ≡ 0
empty n b e h = grind (arith, nat_tests)

-- one mark, set to what it is
pub set_same : (ms : List Mark) (i : ℕ) (m : Mark) → slice_get ms i ≡ Some m → ms ≡ slice_set ms i m
set_same [] i m h = cc
set_same (x ∷ ms) zero m h = let e : x ≡ m = cc in ap (λ y. y ∷ ms) e
set_same (x ∷ ms) (suc i) m h = ap (λ ys. x ∷ ys) (set_same ms i m h)

pub got_is : {X : Type 0} (xs : List X) (i : ℕ) (d m : X) → i < length xs → m ≡ slice_index_or xs i d → slice_get xs i ≡ Some m
got_is [] i d m lt e = absurd (omega arith)
got_is (x ∷ xs) zero d m lt e = ap (λ y. Some y) (sym e)
got_is (x ∷ xs) (suc i) d m lt e = got_is xs i d m (omega arith) e

pub some_then : {P : Type 0} (r : Option Tid) → OnSome r P → IsSome r → P
some_then None h is = absurd (cc)
some_then (Some x) h is = h

-- the thread was found, and taken out
pub unqueued : (t : ℕ) (old q new : List Tid) (i : ℕ) (y x : Tid) (r : Option Tid) (b : Bool) → OnSome r (new ≡ remove q i) → IsSome r → q ≡ old → i < length q → y ≡ slice_index_or q i y
    → b ≡ nat_eq y.0 x.0 → b ≡ true → count_of t new + is_at t x.0 ≡ count_of t old
unqueued t old q new i y x r b gone is same lt at e found =
    let n : y.0 ≡ x.0 = grind (arith, nat_tests) in
    rw (some_then r gone is, ← same, ← n) (count_remove t q i y lt at)

pub none_queued : (t : ℕ) (queue : List Tid) → length queue ≡ 0 → count_of t queue ≡ 1 → ⊥
none_queued t [] e h = cc
none_queued t (x ∷ queue) e h = absurd (omega arith)

-- it was the first
pub first_gone : (t : ℕ) (q new : List Tid) (y x : Tid) (b : Bool) → new ≡ drop 1 q → 0 < length q → y ≡ slice_index_or q 0 y → b ≡ nat_eq y.0 x.0 → b ≡ true
    → count_of t new + is_at t x.0 ≡ count_of t q
first_gone t [] new y x b gone lt at e found = absurd (omega arith)
first_gone t (z ∷ q) new y x b gone lt at e found =
    let n : y.0 ≡ x.0 = grind (arith, nat_tests) in
    rw (gone, ← n) (count_remove t (z ∷ q) 0 y lt at)

pub passed_by : (x : Tid) (q : List Tid) (i : ℕ) (y : Tid) (b : Bool) → i < length q → y ≡ slice_index_or q i y → b ≡ nat_eq y.0 x.0 → b ≡ false
    → count_of x.0 (take i q) ≡ 0 → count_of x.0 (take (i + 1) q) ≡ 0
passed_by x q i y b lt at e other h =
    let n : x.0 ≢ y.0 = grind (arith, nat_tests) in
    rw (add-one) (count_more x.0 i q y lt at (at_other x.0 y.0 n) h)

pub out_counted : (ms : List Mark) (i : ℕ) → slice_get ms i ≡ Some Out → 1 ≤ count_outs ms
out_counted [] i h = cc
out_counted (m ∷ ms) zero h = let e : m ≡ Out = cc in omega (arith, ap outs e)
out_counted (m ∷ ms) (suc i) h = omega (arith, out_counted ms i h)
