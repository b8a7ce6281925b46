-- What stands in the seats, and where a thread's seat is.
use Rattle.std.proofs.Common.{◌≡◌, ◌≢◌, ℕ, zero, suc, ◌+◌, ◌<◌, ◌≤◌, Bool, true, false, not, cond, nat_eq, nat_lt}
use Rattle.std.proofs.Common.{List, [], ◌∷◌, ◌++◌, length, take, drop, get_or, Option, Some, None, refl, ap, sym}
use Rattle.std.proofs.Common.{subst, ◌∙◌, arith}
use Rattle.std.specs.Prelude.{All, slice_set, is_some}
use Rattle.std.specs.List.{filter, insert}
use Rattle.std.proofs.lemmas.Bool.Decides.{nat_tests}
use Rattle.std.proofs.lemmas.List.{append-nil, drop_more}
use Rattle.std.proofs.lemmas.List.Elements.{filter-append}
use Rattle.cml_scan.specs.World.{PlainEntry}
use Rattle.cml_scan.specs.Order.{Every, Ascends}
use Rattle.cml_scan.specs.Table.{with_entry}
use Rattle.cml_index.specs.declared.entries.Seat.{Seat}
use Rattle.cml_index.proofs.Parted.{all_apart}
use Rattle.cml_index.specs.Seats.{with_one, seated, seat_before, is_its_own, count_seats}

-- no seat after one that is not below a thread is below it
none_below : (t : ℕ) (s : Seat) (ss : List Seat) → Every (seat_before s) ss → nat_lt s.tid.0 t ≡ false → filter (λ x. nat_lt x.tid.0 t) ss ≡ []
none_below t s [] later out = refl
none_below t s (x ∷ ss) later out = let off : nat_lt x.tid.0 t ≡ false = numbers s.tid.0 x.tid.0 t later.0 out in rw off (none_below t s ss later.1 out)
  where
    numbers : (a b t : ℕ) → nat_lt a b ≡ true → nat_lt a t ≡ false → nat_lt b t ≡ false
    numbers a b t e f = grind (arith, nat_tests)

-- a seat is of a lower thread exactly if its place is below their count
pub record IsRanked (t : ℕ) (ss : List Seat) (k : ℕ) (s : Seat) : Type 0 where
  pub front : nat_lt s.tid.0 t ≡ true → k < count_seats t ss
  pub back : nat_lt s.tid.0 t ≡ false → count_seats t ss ≤ k

pub ranked : (t : ℕ) (ss : List Seat) (k : ℕ) (d : Seat) → Ascends seat_before ss → k < length ss → IsRanked t ss k (get_or ss k d)
ranked t [] k d up within = absurd (omega arith)
ranked t (e ∷ es) zero d up within = at (nat_lt e.tid.0 t) refl
  where
    at : (b : Bool) → nat_lt e.tid.0 t ≡ b → IsRanked t (e ∷ es) zero e
    at true h = record { front = λ _. rw h (omega arith); back = λ out. cc }
    at false h = record { front = λ in_. cc; back = λ _. rw (h, none_below t e es up.0 h) (omega arith) }
ranked t (e ∷ es) (suc k) d up within = at (nat_lt e.tid.0 t) refl (ranked t es k d up.1 (omega arith))
  where
    at : (b : Bool) → nat_lt e.tid.0 t ≡ b → IsRanked t es k (get_or es k d) → IsRanked t (e ∷ es) (suc k) (get_or es k d)
    at true h rest = record { front = λ in_. let r : k < count_seats t es = rest.front in_ in rw h (omega arith); back = λ out. let r : count_seats t es ≤ k = rest.back out in rw h (omega arith) }
    at false h rest =
        let none : filter (λ x. nat_lt x.tid.0 t) es ≡ [] = none_below t e es up.0 h in
        let zero_count : count_seats t es ≡ 0 = ap length none in
        record { front = λ in_. let r : k < count_seats t es = rest.front in_ in absurd (omega arith); back = λ out. rw (h, none) (omega arith) }

-- a thread's seat is where those of the threads below it end
pub its_place : (t : ℕ) (ss : List Seat) (k : ℕ) (d : Seat) → Ascends seat_before ss → k < length ss → (get_or ss k d).tid.0 ≡ t → k ≡ count_seats t ss
its_place t [] k d up within is = absurd (omega (arith, within))
its_place t (s ∷ ss) zero d up within is = let none : count_seats t (s ∷ ss) ≤ 0 = (ranked t (s ∷ ss) zero d up within).back (not_below s.tid.0 t is) in omega (arith, none)
  where
    not_below : (a b : ℕ) → a ≡ b → nat_lt a b ≡ false
    not_below a b e = grind (arith, nat_tests)
its_place t (s ∷ ss) (suc k) d up within is =
    let low : nat_lt s.tid.0 t ≡ true = subst (λ n. nat_lt s.tid.0 n ≡ true) is (each_after s ss k d up.0 (omega (arith, within))) in
    let rest : k ≡ count_seats t ss = its_place t ss k d up.1 (omega (arith, within)) is in
    rw low (omega (arith, rest))
  where
    each_after : (s : Seat) (ss : List Seat) (k : ℕ) (d : Seat) → Every (seat_before s) ss → k < length ss → seat_before s (get_or ss k d) ≡ true
    each_after s [] k d each within = absurd (omega (arith, within))
    each_after s (x ∷ xs) zero d each within = each.0
    each_after s (x ∷ xs) (suc k) d each within = each_after s xs k d each.1 (omega (arith, within))

-- those in two lists of seats
pub seated-append : (xs ys : List Seat) → seated (xs ++ ys) ≡ seated xs ++ seated ys
seated-append [] ys = refl
seated-append (s ∷ xs) ys = at s.entry (seated-append xs ys)
  where
    at : (o : Option PlainEntry) → seated (xs ++ ys) ≡ seated xs ++ seated ys → with_one o (seated (xs ++ ys)) ≡ with_one o (seated xs) ++ seated ys
    at None h = h
    at (Some e) h = ap (λ es. e ∷ es) h

-- whoever is in a seat is its thread
pub its_thread : (s : Seat) (e : PlainEntry) → is_its_own s ≡ true → s.entry ≡ Some e → e.thread ≡ s.tid.0
its_thread s e own is = let one : nat_eq e.thread s.tid.0 ≡ true = rw is at own in same e.thread s.tid.0 one
  where
    same : (a b : ℕ) → nat_eq a b ≡ true → a ≡ b
    same a b h = grind (arith, nat_tests)

-- where each seat's thread passes a test, each who is there passes it
pub all_pass : (f : ℕ → Bool) (ss : List Seat) → Every is_its_own ss → Every (λ s. f s.tid.0) ss → filter (λ e. f e.thread) (seated ss) ≡ seated ss
all_pass f [] own each = refl
all_pass f (s ∷ ss) own each = at s.entry refl (all_pass f ss own.1 each.1)
  where
    at : (o : Option PlainEntry) → s.entry ≡ o → filter (λ e. f e.thread) (seated ss) ≡ seated ss → filter (λ e. f e.thread) (with_one o (seated ss)) ≡ with_one o (seated ss)
    at None is h = h
    at (Some e) is h = let on_ : f e.thread ≡ true = ap f (its_thread s e own.0 is) ∙ each.0 in rw on_ (ap (λ es. e ∷ es) h)

-- and where none passes it, none of them does
pub none_pass : (f : ℕ → Bool) (ss : List Seat) → Every is_its_own ss → Every (λ s. not (f s.tid.0)) ss → filter (λ e. f e.thread) (seated ss) ≡ []
none_pass f [] own each = refl
none_pass f (s ∷ ss) own each = at s.entry refl (none_pass f ss own.1 each.1)
  where
    off_ : (b : Bool) → not b ≡ true → b ≡ false
    off_ true h = cc
    off_ false h = refl

    at : (o : Option PlainEntry) → s.entry ≡ o → filter (λ e. f e.thread) (seated ss) ≡ [] → filter (λ e. f e.thread) (with_one o (seated ss)) ≡ []
    at None is h = h
    at (Some e) is h = let off : f e.thread ≡ false = ap f (its_thread s e own.0 is) ∙ off_ (f s.tid.0) each.0 in rw off h

-- The seats before a thread's place are of lower threads, and those from it on of others.
pub record IsPlaced (t : ℕ) (ss : List Seat) : Type 0 where
  pub front : Every (λ s. nat_lt s.tid.0 t) (take (count_seats t ss) ss)
  pub back : Every (λ s. not (nat_lt s.tid.0 t)) (drop (count_seats t ss) ss)

none_lower : (t : ℕ) (s : Seat) (ss : List Seat) → Every (seat_before s) ss → nat_lt s.tid.0 t ≡ false → Every (λ x. not (nat_lt x.tid.0 t)) ss
none_lower t s [] later out = tt
none_lower t s (x ∷ ss) later out = (ap not (numbers s.tid.0 x.tid.0 t later.0 out), none_lower t s ss later.1 out)
  where
    numbers : (a b t : ℕ) → nat_lt a b ≡ true → nat_lt a t ≡ false → nat_lt b t ≡ false
    numbers a b t e f = grind (arith, nat_tests)

pub placed : (t : ℕ) (ss : List Seat) → Ascends seat_before ss → IsPlaced t ss
placed t [] up = record { front = tt; back = tt }
placed t (s ∷ ss) up = at (nat_lt s.tid.0 t) refl (placed t ss up.1)
  where
    at : (b : Bool) → nat_lt s.tid.0 t ≡ b → IsPlaced t ss → IsPlaced t (s ∷ ss)
    at true h rest = record { front = rw h (h, rest.front); back = rw h rest.back }
    at false h rest = record { front = rw (h, none_below t s ss up.0 h) tt; back = rw (h, none_below t s ss up.0 h) (ap not h, none_lower t s ss up.0 h) }

-- what ascends ascends from each place on
pub ascends_drop : (n : ℕ) (ss : List Seat) → Ascends seat_before ss → Ascends seat_before (drop n ss)
ascends_drop zero ss up = up
ascends_drop (suc n) [] up = tt
ascends_drop (suc n) (s ∷ ss) up = ascends_drop n ss up.1

pub own_drop : (n : ℕ) (ss : List Seat) → Every is_its_own ss → Every is_its_own (drop n ss)
own_drop zero ss own = own
own_drop (suc n) [] own = tt
own_drop (suc n) (s ∷ ss) own = own_drop n ss own.1

pub own_take : (n : ℕ) (ss : List Seat) → Every is_its_own ss → Every is_its_own (take n ss)
own_take zero ss own = tt
own_take (suc n) [] own = tt
own_take (suc n) (s ∷ ss) own = (own.0, own_take n ss own.1)

-- Where the seats are three parts, of lower threads, of this thread, and of higher ones: what passes a test of threads is what passes of the middle, with the
-- whole first or last part where the test holds of these.
weaker : (f g : Seat → Bool) → ((s : Seat) → f s ≡ true → g s ≡ true) → (ss : List Seat) → Every f ss → Every g ss
weaker f g h [] each = tt
weaker f g h (s ∷ ss) each = (h s each.0, weaker f g h ss each.1)

-- the seats that are higher than this one
pub record AreSides (t : ℕ) (low high : List Seat) : Type 0 where
  pub low_own : Every is_its_own low
  pub high_own : Every is_its_own high
  pub below : Every (λ s. nat_lt s.tid.0 t) low
  pub above : Every (λ s. nat_lt t s.tid.0) high

module _ (t : ℕ) (low high : List Seat) (is : AreSides t low high) where
  low_lt : filter (λ e. nat_lt e.thread t) (seated low) ≡ seated low
  low_lt = all_pass (λ n. nat_lt n t) low is.low_own is.below

  high_lt : filter (λ e. nat_lt e.thread t) (seated high) ≡ []
  high_lt = none_pass (λ n. nat_lt n t) high is.high_own (weaker (λ s. nat_lt t s.tid.0) (λ s. not (nat_lt s.tid.0 t)) (λ s h. n t s.tid.0 h) high is.above)
    where
      n : (a b : ℕ) → nat_lt a b ≡ true → not (nat_lt b a) ≡ true
      n a b h = grind (arith, nat_tests)

  low_gt : filter (λ e. nat_lt t e.thread) (seated low) ≡ []
  low_gt = none_pass (λ n. nat_lt t n) low is.low_own (weaker (λ s. nat_lt s.tid.0 t) (λ s. not (nat_lt t s.tid.0)) (λ s h. n s.tid.0 t h) low is.below)
    where
      n : (a b : ℕ) → nat_lt a b ≡ true → not (nat_lt b a) ≡ true
      n a b h = grind (arith, nat_tests)

  high_gt : filter (λ e. nat_lt t e.thread) (seated high) ≡ seated high
  high_gt = all_pass (λ n. nat_lt t n) high is.high_own is.above

  low_eq : filter (λ e. nat_eq t e.thread) (seated low) ≡ []
  low_eq = none_pass (λ n. nat_eq t n) low is.low_own (weaker (λ s. nat_lt s.tid.0 t) (λ s. not (nat_eq t s.tid.0)) (λ s h. n s.tid.0 t h) low is.below)
    where
      n : (a b : ℕ) → nat_lt a b ≡ true → not (nat_eq b a) ≡ true
      n a b h = grind (arith, nat_tests)

  high_eq : filter (λ e. nat_eq t e.thread) (seated high) ≡ []
  high_eq = none_pass (λ n. nat_eq t n) high is.high_own (weaker (λ s. nat_lt t s.tid.0) (λ s. not (nat_eq t s.tid.0)) (λ s h. n t s.tid.0 h) high is.above)
    where
      n : (a b : ℕ) → nat_lt a b ≡ true → not (nat_eq a b) ≡ true
      n a b h = grind (arith, nat_tests)

  low_ne : filter (λ e. not (nat_eq t e.thread)) (seated low) ≡ seated low
  low_ne = all_pass (λ n. not (nat_eq t n)) low is.low_own (weaker (λ s. nat_lt s.tid.0 t) (λ s. not (nat_eq t s.tid.0)) (λ s h. n s.tid.0 t h) low is.below)
    where
      n : (a b : ℕ) → nat_lt a b ≡ true → not (nat_eq b a) ≡ true
      n a b h = grind (arith, nat_tests)

  high_ne : filter (λ e. not (nat_eq t e.thread)) (seated high) ≡ seated high
  high_ne = all_pass (λ n. not (nat_eq t n)) high is.high_own (weaker (λ s. nat_lt t s.tid.0) (λ s. not (nat_eq t s.tid.0)) (λ s h. n t s.tid.0 h) high is.above)
    where
      n : (a b : ℕ) → nat_lt a b ≡ true → not (nat_eq a b) ≡ true
      n a b h = grind (arith, nat_tests)

  -- whose entries there are of the thread
  pub own_between : (mid : List PlainEntry) → filter (λ e. nat_eq t e.thread) (seated low ++ (mid ++ seated high)) ≡ filter (λ e. nat_eq t e.thread) mid
  own_between mid =
      let p : PlainEntry → Bool = λ e. nat_eq t e.thread in
      filter-append p (seated low) (mid ++ seated high) ∙ ap (λ xs. xs ++ filter p (mid ++ seated high)) low_eq
      ∙ filter-append p mid (seated high) ∙ ap (λ xs. filter p mid ++ xs) high_eq ∙ append-nil (filter p mid)

  -- what is left without it
  pub rest_between : (mid : List PlainEntry) → filter (λ e. not (nat_eq t e.thread)) mid ≡ [] → filter (λ e. not (nat_eq t e.thread)) (seated low ++ (mid ++ seated high)) ≡ seated low ++ seated high
  rest_between mid none =
      let p : PlainEntry → Bool = λ e. not (nat_eq t e.thread) in
      filter-append p (seated low) (mid ++ seated high) ∙ ap (λ xs. xs ++ filter p (mid ++ seated high)) low_ne
      ∙ ap (λ xs. seated low ++ xs) (filter-append p mid (seated high)
      ∙ ap (λ xs. xs ++ filter p (seated high)) none ∙ high_ne)

  -- what there is with it
  pub with_between : (e : PlainEntry) → e.thread ≡ t → with_entry e (seated low ++ seated high) ≡ seated low ++ e ∷ seated high
  with_between e is_t =
      let p : PlainEntry → Bool = λ x. nat_lt x.thread t in
      let q : PlainEntry → Bool = λ x. nat_lt t x.thread in
      let one : filter p (seated low ++ seated high) ≡ seated low = filter-append p (seated low) (seated high)
      ∙ ap (λ xs. xs ++ filter p (seated high)) low_lt ∙ ap (λ xs. seated low ++ xs) high_lt
      ∙ append-nil (seated low) in
      let two : filter q (seated low ++ seated high) ≡ seated high = filter-append q (seated low) (seated high) ∙ ap (λ xs. xs ++ filter q (seated high)) low_gt ∙ high_gt in
      let both : with_entry e (seated low ++ seated high) ≡ filter p (seated low ++ seated high) ++ e ∷ filter q (seated low ++ seated high) =
      ap (λ n. filter (λ (x : PlainEntry). nat_lt x.thread n) (seated low ++ seated high) ++ e ∷ filter (λ (x : PlainEntry). nat_lt n x.thread) (seated low ++ seated high)) is_t in
      both ∙ ap (λ xs. xs ++ e ∷ filter q (seated low ++ seated high)) one ∙ ap (λ xs. seated low ++ e ∷ xs) two

-- a list with one element put in another's place
set_split : (n : ℕ) (ss : List Seat) (s : Seat) → n < length ss → slice_set ss n s ≡ take n ss ++ s ∷ drop (n + 1) ss
set_split n ss s within = set_parts n ss within ∙ ap (λ m. take n ss ++ s ∷ drop m ss) (next n)
  where
    next : (m : ℕ) → suc m ≡ m + 1
    next m = omega arith

    set_parts : (m : ℕ) (xs : List Seat) → m < length xs → slice_set xs m s ≡ take m xs ++ s ∷ drop (suc m) xs
    set_parts m [] inside = absurd (omega (arith, inside))
    set_parts zero (x ∷ xs) inside = refl
    set_parts (suc m) (x ∷ xs) inside = ap (λ ys. x ∷ ys) (set_parts m xs (omega (arith, inside)))

parted : (n : ℕ) (ss : List Seat) → ss ≡ take n ss ++ drop n ss
parted zero ss = refl
parted (suc n) [] = refl
parted (suc n) (x ∷ ss) = ap (λ xs. x ∷ xs) (parted n ss)

split_at : (n : ℕ) (ss : List Seat) (d : Seat) → n < length ss → ss ≡ take n ss ++ get_or ss n d ∷ drop (n + 1) ss
split_at n ss d within = parted n ss ∙ ap (λ xs. take n ss ++ xs) (drop_more ss n d within)

-- those who are there, by the seat at a place
pub seated_at : (n : ℕ) (ss : List Seat) (d : Seat) → n < length ss → seated ss ≡ seated (take n ss) ++ with_one (get_or ss n d).entry (seated (drop (n + 1) ss))
seated_at n ss d within = ap seated (split_at n ss d within) ∙ seated-append (take n ss) (get_or ss n d ∷ drop (n + 1) ss)

pub seated_set : (n : ℕ) (ss : List Seat) (s : Seat) → n < length ss → seated (slice_set ss n s) ≡ seated (take n ss) ++ with_one s.entry (seated (drop (n + 1) ss))
seated_set n ss s within = ap seated (set_split n ss s within) ∙ seated-append (take n ss) (s ∷ drop (n + 1) ss)

-- and by the place between two
pub seated_parts : (n : ℕ) (ss : List Seat) → seated ss ≡ seated (take n ss) ++ seated (drop n ss)
seated_parts n ss = ap seated (parted n ss) ∙ seated-append (take n ss) (drop n ss)

-- those from one seat on are whoever is in it, and the later ones
pub seat_step : (ss : List Seat) (i : ℕ) (s : Seat) (e : PlainEntry) → i < length ss → s ≡ get_or ss i s → Some e ≡ s.entry → seated (drop i ss) ≡ e ∷ seated (drop (i + 1) ss)
seat_step ss i s e within is in_ = ap seated (drop_more ss i s within ∙ ap (λ x. x ∷ drop (i + 1) ss) (sym is)) ∙ ap (λ o. with_one o (seated (drop (i + 1) ss))) (sym in_)

pub seat_passed : (ss : List Seat) (i : ℕ) (s : Seat) → i < length ss → s ≡ get_or ss i s → None ≡ s.entry → seated (drop i ss) ≡ seated (drop (i + 1) ss)
seat_passed ss i s within is none = ap seated (drop_more ss i s within ∙ ap (λ x. x ∷ drop (i + 1) ss) (sym is)) ∙ ap (λ o. with_one o (seated (drop (i + 1) ss))) (sym none)

-- the seats are no fewer than those who are there
pub seated_fewer : (ss : List Seat) → length (seated ss) ≤ length ss
seated_fewer [] = omega arith
seated_fewer (s ∷ ss) = at s.entry (seated_fewer ss)
  where
    at : (o : Option PlainEntry) → length (seated ss) ≤ length ss → length (with_one o (seated ss)) ≤ suc (length ss)
    at None h = omega (arith, h)
    at (Some e) h = omega (arith, h)

above_from : (t : ℕ) (ss : List Seat) → Ascends seat_before ss → Every (λ s. not (nat_lt s.tid.0 t)) ss → ((d : Seat) → 0 < length ss → (get_or ss 0 d).tid.0 ≢ t) → Every (λ s. nat_lt t s.tid.0) ss
above_from t [] up each other = tt
above_from t (s ∷ ss) up each other =
    let on_ : nat_lt t s.tid.0 ≡ true = numbers s.tid.0 t each.0 (other s (omega arith)) in
    (on_, weaker (seat_before s) (λ x. nat_lt t x.tid.0) (λ x h. later t s.tid.0 x.tid.0 on_ h) ss up.0)
  where
    numbers : (a b : ℕ) → not (nat_lt a b) ≡ true → a ≢ b → nat_lt b a ≡ true
    numbers a b h e = grind (arith, nat_tests)

    later : (a b c : ℕ) → nat_lt a b ≡ true → nat_lt b c ≡ true → nat_lt a c ≡ true
    later a b c h k = grind (arith, nat_tests)

first_of_drop : (n : ℕ) (ss : List Seat) (d : Seat) → get_or (drop n ss) 0 d ≡ get_or ss n d
first_of_drop zero ss d = refl
first_of_drop (suc n) [] d = refl
first_of_drop (suc n) (s ∷ ss) d = first_of_drop n ss d

some_left : (n : ℕ) (ss : List Seat) → 0 < length (drop n ss) → n < length ss
some_left zero ss h = h
some_left (suc n) [] h = absurd (omega (arith, h))
some_left (suc n) (s ∷ ss) h = let more : n < length ss = some_left n ss h in omega (arith, more)

-- the seats beside a thread's own
pub sides_at : (t : ℕ) (ss : List Seat) (d : Seat) → Ascends seat_before ss → Every is_its_own ss → count_seats t ss < length ss → (get_or ss (count_seats t ss) d).tid.0 ≡ t
    → AreSides t (take (count_seats t ss) ss) (drop (count_seats t ss + 1) ss)
sides_at t ss d up own within is =
    let n = count_seats t ss in
    let from : drop n ss ≡ get_or ss n d ∷ drop (n + 1) ss = drop_more ss n d within in
    let later : Ascends seat_before (get_or ss n d ∷ drop (n + 1) ss) = subst (Ascends seat_before) from (ascends_drop n ss up) in
    record {
      low_own = own_take n ss own;
      high_own = own_drop (n + 1) ss own;
      below = (placed t ss up).front;
      above = subst (λ m. Every (λ s. nat_lt m s.tid.0) (drop (n + 1) ss)) is later.0;
    }

-- the seats beside the place of a thread that has none
pub sides_between : (t : ℕ) (ss : List Seat) → Ascends seat_before ss → Every is_its_own ss → ((d : Seat) → count_seats t ss < length ss → (get_or ss (count_seats t ss) d).tid.0 ≢ t)
    → AreSides t (take (count_seats t ss) ss) (drop (count_seats t ss) ss)
sides_between t ss up own other =
    let n = count_seats t ss in
    record {
      low_own = own_take n ss own;
      high_own = own_drop n ss own;
      below = (placed t ss up).front;
      above = above_from t (drop n ss) (ascends_drop n ss up) (placed t ss up).back (λ d some is. other d (some_left n ss some) (sym (ap (λ (s : Seat). s.tid.0) (first_of_drop n ss d)) ∙ is));
    }

-- seats ascend with another of the same thread in the place of one
every_set : (p : Seat → Bool) (n : ℕ) (ss : List Seat) (s : Seat) → Every p ss → p s ≡ true → Every p (slice_set ss n s)
every_set p n [] s each is = tt
every_set p zero (x ∷ ss) s each is = (is, each.1)
every_set p (suc n) (x ∷ ss) s each is = (each.0, every_set p n ss s each.1 is)

pub own_set : (n : ℕ) (ss : List Seat) (s : Seat) → Every is_its_own ss → is_its_own s ≡ true → Every is_its_own (slice_set ss n s)
own_set n ss s own is = every_set is_its_own n ss s own is

every_at : (p : Seat → Bool) (n : ℕ) (ss : List Seat) (d : Seat) → n < length ss → Every p ss → p (get_or ss n d) ≡ true
every_at p n [] d within each = absurd (omega (arith, within))
every_at p zero (s ∷ ss) d within each = each.0
every_at p (suc n) (s ∷ ss) d within each = every_at p n ss d (omega (arith, within)) each.1

pub own_at : (n : ℕ) (ss : List Seat) (d : Seat) → n < length ss → Every is_its_own ss → is_its_own (get_or ss n d) ≡ true
own_at n ss d within own = every_at is_its_own n ss d within own

pub ascends_set : (n : ℕ) (ss : List Seat) (d s : Seat) → n < length ss → Ascends seat_before ss → (get_or ss n d).tid.0 ≡ s.tid.0 → Ascends seat_before (slice_set ss n s)
ascends_set n [] d s within up is = tt
ascends_set zero (x ∷ ss) d s within up is = (weaker (seat_before x) (seat_before s) (λ y h. ap (λ m. nat_lt m y.tid.0) (sym is) ∙ h) ss up.0, up.1)
ascends_set (suc n) (x ∷ ss) d s within up is =
    let inside : n < length ss = omega (arith, within) in
    (every_set (seat_before x) n ss s up.0 (ap (nat_lt x.tid.0) (sym is) ∙ every_at (seat_before x) n ss d inside up.0), ascends_set n ss d s inside up.1 is)

-- seats ascend with one more between those of lower threads and those of higher ones
ascends_take : (n : ℕ) (ss : List Seat) → Ascends seat_before ss → Ascends seat_before (take n ss)
ascends_take zero ss up = tt
ascends_take (suc n) [] up = tt
ascends_take (suc n) (s ∷ ss) up = (every_take (seat_before s) n ss up.0, ascends_take n ss up.1)
  where
    every_take : (p : Seat → Bool) (n : ℕ) (ss : List Seat) → Every p ss → Every p (take n ss)
    every_take p zero ss each = tt
    every_take p (suc n) [] each = tt
    every_take p (suc n) (x ∷ ss) each = (each.0, every_take p n ss each.1)

every_with : (p : Seat → Bool) (low high : List Seat) (s : Seat) → Every p low → p s ≡ true → Every p high → Every p (low ++ s ∷ high)
every_with p [] high s a is b = (is, b)
every_with p (x ∷ low) high s a is b = (a.0, every_with p low high s a.1 is b)

ascends_with : (t : ℕ) (low high : List Seat) (s : Seat) → Ascends seat_before low → Ascends seat_before high → s.tid.0 ≡ t → Every (λ x. nat_lt x.tid.0 t) low → Every (λ x. nat_lt t x.tid.0) high
    → Ascends seat_before (low ++ s ∷ high)
ascends_with t [] high s up down is below above = (subst (λ m. Every (λ x. nat_lt m x.tid.0) high) (sym is) above, down)
ascends_with t (x ∷ low) high s up down is below above = (
  every_with (seat_before x) low high s up.0 (ap (nat_lt x.tid.0) is ∙ below.0)
      (weaker (λ y. nat_lt t y.tid.0) (seat_before x) (λ y h. later x.tid.0 t y.tid.0 below.0 h) high above),
  ascends_with t low high s up.1 down is below.1 above,
)
  where
    later : (a b c : ℕ) → nat_lt a b ≡ true → nat_lt b c ≡ true → nat_lt a c ≡ true
    later a b c h k = grind (arith, nat_tests)

-- the seats with one more in its place
pub seats_with : (t : ℕ) (ss : List Seat) (s : Seat) → Ascends seat_before ss → Every is_its_own ss → s.tid.0 ≡ t
    → is_its_own s ≡ true → AreSides t (take (count_seats t ss) ss) (drop (count_seats t ss) ss)
    → Ascends seat_before (insert ss (count_seats t ss) s) × Every is_its_own (insert ss (count_seats t ss) s)
seats_with t ss s up own is its sides =
    let n = count_seats t ss in (
      ascends_with t (take n ss) (drop n ss) s (ascends_take n ss up) (ascends_drop n ss up) is sides.below sides.above,
      every_with is_its_own (take n ss) (drop n ss) s (own_take n ss own) its (own_drop n ss own),
    )

-- the seats without those that are empty
pub seated_full : (ss : List Seat) → seated (filter (λ s. is_some s.entry) ss) ≡ seated ss
seated_full [] = refl
seated_full (s ∷ ss) = at s.entry refl (seated_full ss)
  where
    at : (o : Option PlainEntry) → s.entry ≡ o → seated (filter (λ x. is_some x.entry) ss) ≡ seated ss
        → seated (cond (is_some o) (s ∷ filter (λ x. is_some x.entry) ss) (filter (λ x. is_some x.entry) ss)) ≡ with_one o (seated ss)
    at None is h = h
    at (Some e) is h = ap (λ o. with_one o (seated (filter (λ x. is_some x.entry) ss))) is ∙ ap (λ es. e ∷ es) h

every_filter : (p q : Seat → Bool) (ss : List Seat) → Every p ss → Every p (filter q ss)
every_filter p q [] each = tt
every_filter p q (s ∷ ss) each = at (q s) (every_filter p q ss each.1)
  where
    at : (b : Bool) → Every p (filter q ss) → Every p (cond b (s ∷ filter q ss) (filter q ss))
    at true h = (each.0, h)
    at false h = h

pub full_ascend : (q : Seat → Bool) (ss : List Seat) → Ascends seat_before ss → Ascends seat_before (filter q ss)
full_ascend q [] up = tt
full_ascend q (s ∷ ss) up = at (q s) (full_ascend q ss up.1)
  where
    at : (b : Bool) → Ascends seat_before (filter q ss) → Ascends seat_before (cond b (s ∷ filter q ss) (filter q ss))
    at true h = (every_filter (seat_before s) q ss up.0, h)
    at false h = h

pub full_own : (q : Seat → Bool) (ss : List Seat) → Every is_its_own ss → Every is_its_own (filter q ss)
full_own q ss own = every_filter is_its_own q ss own

-- none of these is of the thread
pub none_of : (t : ℕ) (es : List PlainEntry) → All (λ e. e.thread ≢ t) es → filter (λ e. nat_eq t e.thread) es ≡ []
none_of t es apart = at es (all_apart t es apart)
  where
    off_ : (b : Bool) → not b ≡ true → b ≡ false
    off_ true h = cc
    off_ false h = refl

    at : (xs : List PlainEntry) → Every (λ e. not (nat_eq t e.thread)) xs → filter (λ e. nat_eq t e.thread) xs ≡ []
    at [] each = refl
    at (x ∷ xs) each = let off : nat_eq t x.thread ≡ false = off_ (nat_eq t x.thread) each.0 in rw off (at xs each.1)

-- a seat whose thread is not there is empty
pub is_empty : (t : ℕ) (ss : List Seat) (d : Seat) → Every is_its_own ss → count_seats t ss < length ss → (get_or ss (count_seats t ss) d).tid.0 ≡ t
    → AreSides t (take (count_seats t ss) ss) (drop (count_seats t ss + 1) ss) → All (λ e. e.thread ≢ t) (seated ss) → (get_or ss (count_seats t ss) d).entry ≡ None
is_empty t ss d own within is sides apart = at s.entry refl
  where
    n : ℕ
    n = count_seats t ss

    s : Seat
    s = get_or ss n d

    same : (a b : ℕ) → b ≡ a → nat_eq a b ≡ true
    same a b h = grind (arith, nat_tests)

    not_found : (b : Bool) → b ≡ true → (x : PlainEntry) → cond b (x ∷ []) [] ≡ [] → ⊥
    not_found true h x e = cc
    not_found false h x e = cc

    at : (o : Option PlainEntry) → s.entry ≡ o → s.entry ≡ None
    at None e = e
    at (Some x) e =
        let mine : x.thread ≡ t = its_thread s x (own_at n ss d within own) e ∙ is in
        let there : seated ss ≡ seated (take n ss) ++ ((x ∷ []) ++ seated (drop (n + 1) ss)) = seated_at n ss d within ∙ ap (λ o. seated (take n ss) ++ with_one o (seated (drop (n + 1) ss))) e in
        let found : filter (λ y. nat_eq t y.thread) (x ∷ [])
        ≡ [] = sym (own_between t (take n ss) (drop (n + 1) ss) sides (x ∷ []))
        ∙ ap (filter (λ y. nat_eq t y.thread)) (sym there) ∙ none_of t (seated ss) apart in
        absurd (not_found (nat_eq t x.thread) (same t x.thread mine) x found)
