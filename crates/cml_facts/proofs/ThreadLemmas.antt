-- What is made of threads, one after another.
use Rattle.std.proofs.Common.{◌≡◌, ℕ, suc, ◌+◌, ◌<◌, ◌≤◌, List, [], ◌∷◌, ◌++◌, length, get_or, drop, Some, sym, ap, subst, ◌∙◌, append_assoc, append-nil, add-one}
use Rattle.std.specs.Prelude.{slice_get}
use Rattle.std.proofs.lemmas.List.{at_drop_more, drop_all}
use Rattle.std.proofs.lemmas.Option.{slice_get-get_or}
use Rattle.cml_scan.specs.World.{PlainThread, running, PlainWorld}

-- The list of all threads, of which the first has this number, has first what is made of it, and then the list of those behind it.
pub record IsMade {A : Type 0} (each : ℕ → PlainThread → List A) (all : ℕ → List PlainThread → List A) : Type 0 where
  pub none : (i : ℕ) → all i [] ≡ []
  pub more : (i : ℕ) (t : PlainThread) (threads : List PlainThread) → all i (t ∷ threads) ≡ each i t ++ all (suc i) threads

-- one thread more; the book has the threads of this world
pub one_thread_more : {A : Type 0} {each : ℕ → PlainThread → List A} {all : ℕ → List PlainThread → List A} {b w : PlainWorld} → IsMade each all → b ≡ w
    → (i : ℕ) (o p whole : List A) → i < length b.threads → ((t : PlainThread) → slice_get w.threads i ≡ Some t → p ≡ o ++ each i t)
    → o ++ all i (drop i w.threads) ≡ whole → p ++ all (i + 1) (drop (i + 1) w.threads) ≡ whole
one_thread_more {A} {each} {all} {b} {w} made same i o p whole within is so_far =
    let h : i < length w.threads = subst (λ (v : PlainWorld). i < length v.threads) same within in
    let t = get_or w.threads i running in
    let rest = all (suc i) (drop (i + 1) w.threads) in
    let next : all i (drop i w.threads) ≡ each i t ++ rest = at_drop_more (all i) w.threads i running h ∙ made.more i t (drop (i + 1) w.threads) in
    ap (λ k. p ++ all k (drop (i + 1) w.threads)) (add-one i)
    ∙ (ap (λ x. x ++ rest) (is t (slice_get-get_or w.threads i running h))
    ∙ (append_assoc o (each i t) rest ∙ (ap (λ x. o ++ x) (sym next) ∙ so_far)))

pub no_thread_more : {A : Type 0} {each : ℕ → PlainThread → List A} {all : ℕ → List PlainThread → List A} {b w : PlainWorld} → IsMade each all → b ≡ w
    → (i : ℕ) (o whole : List A) → length b.threads ≤ i → o ++ all i (drop i w.threads) ≡ whole → o ≡ whole
no_thread_more {A} {each} {all} {b} {w} made same i o whole past so_far =
    let h : length w.threads ≤ i = subst (λ (v : PlainWorld). length v.threads ≤ i) same past in
    sym (append-nil o) ∙ (ap (λ x. o ++ x) (sym (ap (all i) (drop_all i w.threads h) ∙ made.none i)) ∙ so_far)
