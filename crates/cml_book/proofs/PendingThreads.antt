-- The numbers of the pending threads, one thread more at a time.
use Rattle.std.proofs.Common.{◌≡◌, ℕ, ◌+◌, ◌<◌, List, [], ◌∷◌, ◌++◌, length, map, take, slice_index_or, refl, ap, sym, ◌∙◌, arith, suc, zero-add, Option, Some, None, true, false}
use Rattle.std.specs.Option.{option_copied, is_some}
use Rattle.std.specs.Borrow.{Bor}
use Rattle.std.proofs.lemmas.List.{append-nil, length-map, length_push, map-append, take_more, length-take-le}
use Rattle.cml_value.specs.Group.{PlainGroup}
use Rattle.cml_value.specs.declared.number.Tid.{Tid}
use Rattle.cml_scan.specs.World.{PlainThread, running, pending_on, ended, pending_from}
use Rattle.cml_book.specs.Threads.{flat_of}

-- the numbers of the threads that wait
abbrev numbers : ℕ → List PlainThread → List ℕ
numbers n ts = map (λ e. e.thread) (pending_from n ts)

numbers_more : (n : ℕ) (ts : List PlainThread) (x : PlainThread) → numbers n (ts ++ x ∷ []) ≡ numbers n ts ++ numbers (n + length ts) (x ∷ [])
numbers_more n [] x = let same : n + 0 ≡ n = omega arith in rw same refl
numbers_more n (running ∷ ts) x = let same : n + suc (length ts) ≡ (n + 1) + length ts = omega arith in rw same (numbers_more (n + 1) ts x)
numbers_more n (pending_on g ∷ ts) x = let same : n + suc (length ts) ≡ (n + 1) + length ts = omega arith in rw same (ap (λ xs. n ∷ xs) (numbers_more (n + 1) ts x))
numbers_more n (ended ∷ ts) x = let same : n + suc (length ts) ≡ (n + 1) + length ts = omega arith in rw same (numbers_more (n + 1) ts x)

-- the thread at i, after those before it
next : (ts : List PlainThread) (i : ℕ) (x : PlainThread) → i < length ts → x ≡ slice_index_or ts i x → numbers 0 (take (i + 1) ts) ≡ numbers 0 (take i ts) ++ numbers i (x ∷ [])
next ts i x lt is =
    let more : take (i + 1) ts ≡ take i ts ++ x ∷ [] = take_more ts i x lt ∙ ap (λ y. take i ts ++ y ∷ []) (sym is) in
    let size : length (take i ts) ≡ i = length-take-le i ts (omega (arith, lt)) in
    ap (numbers 0) more ∙ numbers_more 0 (take i ts) x ∙ ap (λ k. numbers 0 (take i ts) ++ numbers k (x ∷ [])) (zero-add (length (take i ts)) ∙ size)

none_waits : (x : PlainThread) (i : ℕ) → flat_of x ≡ None → numbers i (x ∷ []) ≡ []
none_waits running i h = refl
none_waits (pending_on g) i h = cc
none_waits ended i h = refl

one_waits : (x : PlainThread) (i : ℕ) (g : PlainGroup) → flat_of x ≡ Some g → numbers i (x ∷ []) ≡ i ∷ []
one_waits running i g h = cc
one_waits (pending_on f) i g h = refl
one_waits ended i g h = cc

pub other_more : (ts : List PlainThread) (i : ℕ) (x : PlainThread) (tids : List Tid) → i < length ts → x ≡ slice_index_or ts i x → flat_of x ≡ None
    → map (λ t. t.0) tids ≡ map (λ e. e.thread) (pending_from 0 (take i ts)) → map (λ t. t.0) tids ≡ map (λ e. e.thread) (pending_from 0 (take (i + 1) ts))
other_more ts i x tids lt is waits told = told ∙ sym (next ts i x lt is ∙ ap (λ xs. numbers 0 (take i ts) ++ xs) (none_waits x i waits) ∙ append-nil (numbers 0 (take i ts)))

pub pending_more : (ts : List PlainThread) (i : ℕ) (x : PlainThread) (g : PlainGroup) (tid : Tid) (tids : List Tid) → i < length ts → x ≡ slice_index_or ts i x → flat_of x ≡ Some g → tid.0 ≡ i
    → map (λ t. t.0) tids ≡ map (λ e. e.thread) (pending_from 0 (take i ts)) → map (λ t. t.0) (tids ++ tid ∷ []) ≡ map (λ e. e.thread) (pending_from 0 (take (i + 1) ts))
pending_more ts i x g tid tids lt is waits number told =
    map-append (λ t. t.0) tids (tid ∷ []) ∙ ap (λ xs. xs ++ tid.0 ∷ []) told
    ∙ ap (λ k. numbers 0 (take i ts) ++ k ∷ []) number
    ∙ sym (next ts i x lt is ∙ ap (λ xs. numbers 0 (take i ts) ++ xs) (one_waits x i g waits))

pub waits_if : (r : Option (Bor PlainGroup)) (x : PlainThread) → option_copied r ≡ flat_of x → is_some r ≡ true → (g : PlainGroup) × (flat_of x ≡ Some g)
waits_if None x e h = cc
waits_if (Some b) x e h = (b.now, sym e)

pub else_not : (r : Option (Bor PlainGroup)) (x : PlainThread) → option_copied r ≡ flat_of x → is_some r ≡ false → flat_of x ≡ None
else_not None x e h = sym e
else_not (Some b) x e h = cc

-- how many wait, one thread more
counted : (ts : List PlainThread) → length (pending_from 0 ts) ≡ length (numbers 0 ts)
counted ts = sym (length-map (pending_from 0 ts) (λ e. e.thread))

pub other_counted : (ts : List PlainThread) (i : ℕ) (x : PlainThread) (n : ℕ) → i < length ts → x ≡ slice_index_or ts i x → flat_of x ≡ None
    → n ≡ length (pending_from 0 (take i ts)) → n ≡ length (pending_from 0 (take (i + 1) ts))
other_counted ts i x n lt is waits told =
    told ∙ counted (take i ts) ∙ sym (counted (take (i + 1) ts) ∙ ap length (next ts i x lt is ∙ ap (λ xs. numbers 0 (take i ts) ++ xs) (none_waits x i waits) ∙ append-nil (numbers 0 (take i ts))))

pub pending_counted : (ts : List PlainThread) (i : ℕ) (x : PlainThread) (g : PlainGroup) (n : ℕ) → i < length ts → x ≡ slice_index_or ts i x → flat_of x ≡ Some g
    → n ≡ length (pending_from 0 (take i ts)) → n + 1 ≡ length (pending_from 0 (take (i + 1) ts))
pending_counted ts i x g n lt is waits told =
    let all : length (pending_from 0 (take (i + 1) ts))
    ≡ length (numbers 0 (take i ts) ++ i ∷ []) = counted (take (i + 1) ts)
    ∙ ap length (next ts i x lt is ∙ ap (λ xs. numbers 0 (take i ts) ++ xs) (one_waits x i g waits)) in
    let one : length (numbers 0 (take i ts) ++ i ∷ []) ≡ length (numbers 0 (take i ts)) + 1 = length_push (numbers 0 (take i ts)) i in
    let so_far : length (pending_from 0 (take i ts)) ≡ length (numbers 0 (take i ts)) = counted (take i ts) in
    omega (arith, all, one, so_far, told)
