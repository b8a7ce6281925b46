-- The seat of a thread: who is in it, and what changes where a thread comes or goes.
use Rattle.std.proofs.Common.{◌≡◌, ◌≢◌, ℕ, zero, suc, ◌+◌, ◌-◌, ◌<◌, Bool, true, false, not, nat_eq, nat_lt, List}
use Rattle.std.proofs.Common.{[], ◌∷◌, ◌++◌, length, take, drop, get_or, Option, Some, None, refl, ap, sym, subst}
use Rattle.std.proofs.Common.{◌∙◌, arith, length-append}
use Rattle.std.specs.Prelude.{All, Any, slice_set, is_some}
use Rattle.std.specs.List.{filter, insert, list_any}
use Rattle.std.specs.Option.{option_copied}
use Rattle.std.specs.Borrow.{Bor}
use Rattle.std.proofs.lemmas.Bool.Decides.{nat_tests}
use Rattle.cml_value.specs.declared.number.Tid.{Tid}
use Rattle.cml_scan.specs.World.{PlainEntry}
use Rattle.cml_scan.specs.Order.{Every, Ascends}
use Rattle.cml_scan.specs.Table.{with_entry, without}
use Rattle.cml_index.specs.declared.entries.Seat.{Seat}
use Rattle.cml_index.specs.Seats.{with_one, seated, seat_before, is_its_own, count_seats, own_entries, IsEntryOf, AreSeats}
use Rattle.cml_index.proofs.Parted.{gone_one, there_any}
use Rattle.cml_index.proofs.Seated.{its_thread, own_between, rest_between, with_between, sides_at, sides_between}
use Rattle.cml_index.proofs.Seated.{seated-append, seated_at, seated_set, seated_parts, seated_full, own_at}
use Rattle.cml_index.proofs.Seated.{own_set, ascends_set, seats_with, full_ascend, full_own, is_empty}

equal : (a b : ℕ) → b ≡ a → nat_eq a b ≡ true
equal a b h = grind (arith, nat_tests)

pub no_seat : Seat
no_seat = record { tid = record { 0 = 0 }; entry = None }

with_one_apart : (o : Option PlainEntry) (es : List PlainEntry) → with_one o es ≡ with_one o [] ++ es
with_one_apart None es = refl
with_one_apart (Some e) es = refl

-- within a list it does not matter what is read past its end
pub read_any : (n : ℕ) (ss : List Seat) (d e : Seat) → n < length ss → get_or ss n d ≡ get_or ss n e
read_any n [] d e within = absurd (omega (arith, within))
read_any zero (s ∷ ss) d e within = refl
read_any (suc n) (s ∷ ss) d e within = read_any n ss d e (omega (arith, within))

-- who is there of the thread whose seat it is: whoever is in it
pub own_of : (t : ℕ) (ss : List Seat) (d : Seat) → Ascends seat_before ss → Every is_its_own ss → count_seats t ss < length ss → (get_or ss (count_seats t ss) d).tid.0 ≡ t
    → filter (λ e. nat_eq t e.thread) (seated ss) ≡ with_one (get_or ss (count_seats t ss) d).entry []
own_of t ss d up own within is =
    let n = count_seats t ss in
    let o = (get_or ss n d).entry in
    ap (filter (λ (e : PlainEntry). nat_eq t e.thread)) (seated_at n ss d within ∙ ap (λ xs. seated (take n ss) ++ xs) (with_one_apart o (seated (drop (n + 1) ss))))
    ∙ own_between t (take n ss) (drop (n + 1) ss) (sides_at t ss d up own within is) (with_one o [])
    ∙ mine o refl
  where
    mine : (o : Option PlainEntry) → (get_or ss (count_seats t ss) d).entry ≡ o → filter (λ e. nat_eq t e.thread) (with_one o []) ≡ with_one o []
    mine None e = refl
    mine (Some x) e = let on_ : nat_eq t x.thread ≡ true = equal t x.thread (its_thread (get_or ss (count_seats t ss) d) x (own_at (count_seats t ss) ss d within own) e ∙ is) in rw on_ refl

-- and none of a thread that has no seat
pub own_none : (t : ℕ) (ss : List Seat) → Ascends seat_before ss → Every is_its_own ss → ((d : Seat) → count_seats t ss < length ss → (get_or ss (count_seats t ss) d).tid.0 ≢ t)
    → filter (λ e. nat_eq t e.thread) (seated ss) ≡ []
own_none t ss up own other =
    let n = count_seats t ss in
    ap (filter (λ (e : PlainEntry). nat_eq t e.thread)) (seated_parts n ss) ∙ own_between t (take n ss) (drop n ss) (sides_between t ss up own other) []

-- the entry of a thread, by what is in its seat
pub is_entry_of : (t : Tid) (es : List PlainEntry) (r : Option (Bor PlainEntry)) (o : Option PlainEntry) → option_copied r ≡ o → filter (λ e. nat_eq t.0 e.thread) es ≡ with_one o []
    → ((e : PlainEntry) → o ≡ Some e → e.thread ≡ t.0) → IsEntryOf t es r
is_entry_of t es None o is all its = all ∙ ap (λ x. with_one x []) (sym is)
is_entry_of t es (Some b) o is all its = (its b.now (sym is), all ∙ ap (λ x. with_one x []) (sym is))

pub its_entry : (t : ℕ) (ss : List Seat) (d : Seat) → Every is_its_own ss → count_seats t ss < length ss → (get_or ss (count_seats t ss) d).tid.0 ≡ t
    → (e : PlainEntry) → (get_or ss (count_seats t ss) d).entry ≡ Some e → e.thread ≡ t
its_entry t ss d own within is e in_ = its_thread (get_or ss (count_seats t ss) d) e (own_at (count_seats t ss) ss d within own) in_ ∙ is

-- a thread that is there has a seat
pub record HasSeat (t : ℕ) (ss : List Seat) : Type 0 where
  pub within : count_seats t ss < length ss
  pub its : (d : Seat) → (get_or ss (count_seats t ss) d).tid.0 ≡ t

pub none_any : (t : ℕ) (es : List PlainEntry) → filter (λ e. nat_eq t e.thread) es ≡ [] → list_any (λ e. nat_eq t e.thread) es ≡ true → ⊥
none_any t [] none there = cc
none_any t (e ∷ es) none there = at (nat_eq t e.thread) refl (none_any t es)
  where
    at : (b : Bool) → nat_eq t e.thread ≡ b → (filter (λ x. nat_eq t x.thread) es ≡ [] → list_any (λ x. nat_eq t x.thread) es ≡ true → ⊥) → ⊥
    at true h less = let some : e ∷ filter (λ x. nat_eq t x.thread) es ≡ [] = rw h at none in cc
    at false h less = less (rw h at none) (rw h at there)

pub seat_there : (t : ℕ) (ss : List Seat) → Ascends seat_before ss → Every is_its_own ss → Any (λ e. e.thread ≡ t) (seated ss) → HasSeat t ss
seat_there t ss up own there = at (nat_lt (count_seats t ss) (length ss)) refl (nat_eq (get_or ss (count_seats t ss) no_seat).tid.0 t) refl
  where
    is_in : (a b : ℕ) → nat_lt a b ≡ true → a < b
    is_in a b h = grind (arith, nat_tests)

    is_out : (a b : ℕ) → nat_lt a b ≡ false → a < b → ⊥
    is_out a b h k = grind (arith, nat_tests)

    same : (a b : ℕ) → nat_eq a b ≡ true → a ≡ b
    same a b h = grind (arith, nat_tests)

    other : (a b : ℕ) → nat_eq a b ≡ false → a ≢ b
    other a b h = grind (arith, nat_tests)

    never : ((d : Seat) → count_seats t ss < length ss → (get_or ss (count_seats t ss) d).tid.0 ≢ t) → ⊥
    never apart = none_any t (seated ss) (own_none t ss up own apart) (there_any t (seated ss) there)

    at : (b : Bool) → nat_lt (count_seats t ss) (length ss) ≡ b → (c : Bool) → nat_eq (get_or ss (count_seats t ss) no_seat).tid.0 t ≡ c → HasSeat t ss
    at true h true k =
        let within : count_seats t ss < length ss = is_in _ _ h in
        record { within = within; its = λ d. ap (λ (s : Seat). s.tid.0) (read_any (count_seats t ss) ss d no_seat within) ∙ same _ _ k }
    at true h false k = absurd (never (λ d inside is. other _ _ k (ap (λ (s : Seat). s.tid.0) (read_any (count_seats t ss) ss no_seat d inside) ∙ is)))
    at false h c k = absurd (never (λ d inside is. is_out _ _ h inside))

-- The thread goes: its seat is empty.
pub record IsGone (t : Tid) (ss new : List Seat) (pending : ℕ) (e : PlainEntry) : Type 0 where
  pub seats : AreSeats new (pending - 1)
  pub rest : seated new ≡ without (t ∷ []) (seated ss)
  pub own : own_entries t (seated ss) ≡ e ∷ []
  pub thread : e.thread ≡ t.0

pub gone : (t : Tid) (ss new : List Seat) (pending : ℕ) (e : PlainEntry) → AreSeats ss pending → HasSeat t.0 ss → (get_or ss (count_seats t.0 ss) no_seat).entry ≡ Some e
    → new ≡ slice_set ss (count_seats t.0 ss) (record { tid = (get_or ss (count_seats t.0 ss) no_seat).tid; entry = None }) → IsGone t ss new pending e
gone t ss new pending e are has in_ set =
    let n = count_seats t.0 ss in
    let d = no_seat in
    let s : Seat = record { tid = (get_or ss n d).tid; entry = None } in
    let low = take n ss in
    let high = drop (n + 1) ss in
    let thread : e.thread ≡ t.0 = its_entry t.0 ss d are.own has.within (has.its d) e in_ in
    let sides = sides_at t.0 ss d are.ascend are.own has.within (has.its d) in
    let before : seated ss ≡ seated low ++ ((e ∷ []) ++ seated high) = seated_at n ss d has.within ∙ ap (λ o. seated low ++ with_one o (seated high)) in_ in
    let after : seated new ≡ seated low ++ seated high = ap seated set ∙ seated_set n ss s has.within in
    let off : filter (λ x. not (nat_eq t.0 x.thread)) (e ∷ []) ≡ [] = left_out e (equal t.0 e.thread thread) in
    let left : filter (λ x. not (nat_eq t.0 x.thread)) (seated ss) ≡ seated low ++ seated high = ap (filter (λ x. not (nat_eq t.0 x.thread))) (before) ∙ rest_between t.0 low high sides (e ∷ []) off in
    let many : length (seated ss) ≡ length (seated low) + suc (length (seated high)) = ap length before ∙ length-append (seated low) (e ∷ seated high) in
    let fewer : length (seated new) ≡ length (seated low) + length (seated high) = ap length after ∙ length-append (seated low) (seated high) in
    record {
      seats = record {
        ascend = rw set (ascends_set n ss d s has.within are.ascend refl);
        own = rw set (own_set n ss s are.own refl);
        all = omega (arith, many, fewer, are.all);
      };
      rest = after ∙ sym left ∙ gone_one t (seated ss);
      own = own_of t.0 ss d are.ascend are.own has.within (has.its d) ∙ ap (λ o. with_one o []) in_;
      thread = thread;
    }
  where
    left_out : (e : PlainEntry) → nat_eq t.0 e.thread ≡ true → filter (λ x. not (nat_eq t.0 x.thread)) (e ∷ []) ≡ []
    left_out e h = rw h refl

-- the seat that was found is the thread's, and somebody is in it
pub taken : (t : Tid) (ss new : List Seat) (pending n : ℕ) (now : List PlainEntry) (o : Option PlainEntry) (e : PlainEntry) → AreSeats ss pending → n ≡ count_seats t.0 ss → seated ss ≡ now
    → Any (λ x. x.thread ≡ t.0) now → ((d : Seat) → new
    ≡ slice_set ss n (record { tid = (get_or ss n d).tid; entry = None }))
    → ((d : Seat) → o ≡ (get_or ss n d).entry) → o ≡ Some e → IsGone t ss new pending e
taken t ss new pending n now o e are at view there set in_ some =
    let here = subst (Any (λ (x : PlainEntry). x.thread ≡ t.0)) (sym view) there in
    gone t ss new pending e are (seat_there t.0 ss are.ascend are.own here) (sym (in_ no_seat ∙ ap (λ m. (get_or ss m no_seat).entry) at) ∙ some)
    (set no_seat ∙ ap (λ m. slice_set ss m (record { tid = (get_or ss m no_seat).tid; entry = None })) at)

pub seat_found : (t : Tid) (ss : List Seat) (pending : ℕ) (now : List PlainEntry) → AreSeats ss pending → seated ss ≡ now → Any (λ x. x.thread ≡ t.0) now → HasSeat t.0 ss
seat_found t ss pending now are view there = seat_there t.0 ss are.ascend are.own (subst (Any (λ (x : PlainEntry). x.thread ≡ t.0)) (sym view) there)

pub seat_taken : (t : Tid) (ss : List Seat) (pending n : ℕ) (now : List PlainEntry) (o : Option PlainEntry) → AreSeats ss pending → n ≡ count_seats t.0 ss → seated ss ≡ now
    → Any (λ x. x.thread ≡ t.0) now → ((d : Seat) → o ≡ (get_or ss n d).entry) → o ≡ None → ⊥
seat_taken t ss pending n now o are at view there in_ none =
    let here = subst (Any (λ (x : PlainEntry). x.thread ≡ t.0)) (sym view) there in
    let has = seat_there t.0 ss are.ascend are.own here in
    let empty : (get_or ss (count_seats t.0 ss) no_seat).entry ≡ None = sym (in_ no_seat ∙ ap (λ m. (get_or ss m no_seat).entry) at) ∙ none in
    none_any t.0 (seated ss) (own_of t.0 ss no_seat are.ascend are.own has.within (has.its no_seat) ∙ ap (λ x. with_one x []) empty) (there_any t.0 (seated ss) here)

-- The thread comes: in its own seat, or in a new one.
pub record IsCome (e : PlainEntry) (ss new : List Seat) (pending : ℕ) : Type 0 where
  pub seats : AreSeats new (pending + 1)
  pub all : seated new ≡ with_entry e (seated ss)

pub come_back : (t : ℕ) (ss new : List Seat) (pending : ℕ) (e : PlainEntry) → AreSeats ss pending → HasSeat t ss → e.thread ≡ t → All (λ x. x.thread ≢ t) (seated ss)
    → new ≡ slice_set ss (count_seats t ss) (record { tid = (get_or ss (count_seats t ss) no_seat).tid; entry = Some e }) → IsCome e ss new pending
come_back t ss new pending e are has thread apart set =
    let n = count_seats t ss in
    let d = no_seat in
    let s : Seat = record { tid = (get_or ss n d).tid; entry = Some e } in
    let low = take n ss in
    let high = drop (n + 1) ss in
    let sides = sides_at t ss d are.ascend are.own has.within (has.its d) in
    let none : (get_or ss n d).entry ≡ None = is_empty t ss d are.own has.within (has.its d) sides apart in
    let before : seated ss ≡ seated low ++ seated high = seated_at n ss d has.within ∙ ap (λ o. seated low ++ with_one o (seated high)) none in
    let after : seated new ≡ seated low ++ e ∷ seated high = ap seated set ∙ seated_set n ss s has.within in
    let many : length (seated new) ≡ length (seated low) + suc (length (seated high)) = ap length after ∙ length-append (seated low) (e ∷ seated high) in
    let fewer : length (seated ss) ≡ length (seated low) + length (seated high) = ap length before ∙ length-append (seated low) (seated high) in
    let mine : is_its_own s ≡ true = equal e.thread s.tid.0 (has.its d ∙ sym thread) in
    record {
      seats = record {
        ascend = rw set (ascends_set n ss d s has.within are.ascend refl);
        own = rw set (own_set n ss s are.own mine);
        all = omega (arith, many, fewer, are.all);
      };
      all = after ∙ sym (with_between t low high sides e thread) ∙ ap (with_entry e) (sym before);
    }

pub come_new : (t : Tid) (ss new : List Seat) (pending : ℕ) (e : PlainEntry) → AreSeats ss pending → ((d : Seat) → count_seats t.0 ss < length ss → (get_or ss (count_seats t.0 ss) d).tid.0 ≢ t.0)
    → e.thread ≡ t.0 → new ≡ insert ss (count_seats t.0 ss) (record { tid = t; entry = Some e }) → IsCome e ss new pending
come_new t ss new pending e are other thread set =
    let n = count_seats t.0 ss in
    let s : Seat = record { tid = t; entry = Some e } in
    let low = take n ss in
    let high = drop n ss in
    let sides = sides_between t.0 ss are.ascend are.own other in
    let before : seated ss ≡ seated low ++ seated high = seated_parts n ss in
    let after : seated new ≡ seated low ++ e ∷ seated high = ap seated set ∙ seated-append low (s ∷ high) in
    let many : length (seated new) ≡ length (seated low) + suc (length (seated high)) = ap length after ∙ length-append (seated low) (e ∷ seated high) in
    let fewer : length (seated ss) ≡ length (seated low) + length (seated high) = ap length before ∙ length-append (seated low) (seated high) in
    let both = seats_with t.0 ss s are.ascend are.own refl (equal e.thread t.0 (sym thread)) sides in
    record {
      seats = record {
        ascend = rw set both.0;
        own = rw set both.1;
        all = omega (arith, many, fewer, are.all);
      };
      all = after ∙ sym (with_between t.0 low high sides e thread) ∙ ap (with_entry e) (sym before);
    }

-- The seats without those that are empty.
pub tidied : (ss new : List Seat) (pending : ℕ) → AreSeats ss pending → new ≡ filter (λ s. is_some s.entry) ss → AreSeats new pending
tidied ss new pending are set = record {
  ascend = rw set (full_ascend (λ s. is_some s.entry) ss are.ascend);
  own = rw set (full_own (λ s. is_some s.entry) ss are.own);
  all = are.all ∙ ap length (sym (seated_full ss)) ∙ ap (λ xs. length (seated xs)) (sym set);
}

-- the thread comes back to the seat that was found
pub back_at : (ss new : List Seat) (pending n : ℕ) (now : List PlainEntry) (e : PlainEntry) (t : Tid) → AreSeats ss pending → n ≡ count_seats t.0 ss → seated ss ≡ now → e.thread ≡ t.0
    → All (λ x. x.thread ≢ e.thread) now → (n < length ss) × ((d : Seat) → (get_or ss n d).tid.0 ≡ t.0)
    → ((d : Seat) → new ≡ slice_set ss n (record { tid = (get_or ss n d).tid; entry = Some e })) → IsCome e ss new pending
back_at ss new pending n now e t are at view thread apart found set =
    let has : HasSeat t.0 ss = record { within = subst (λ m. m < length ss) at found.0; its = λ d. ap (λ m. (get_or ss m d).tid.0) (sym at) ∙ found.1 d } in
    come_back t.0 ss new pending e are has thread (subst (λ xs. All (λ (x : PlainEntry). x.thread ≢ t.0) xs) (sym view) (subst (λ m. All (λ (x : PlainEntry). x.thread ≢ m) now) thread apart))
    (set no_seat ∙ ap (λ m. slice_set ss m (record { tid = (get_or ss m no_seat).tid; entry = Some e })) at)

-- the thread comes to a new seat, where none was found
pub new_at : (ss new : List Seat) (pending n : ℕ) (e : PlainEntry) (t : Tid) → AreSeats ss pending → n ≡ count_seats t.0 ss → e.thread ≡ t.0
    → ((n < length ss) × ((d : Seat) → (get_or ss n d).tid.0 ≡ t.0) → ⊥) → new ≡ insert ss n (record { tid = t; entry = Some e }) → IsCome e ss new pending
new_at ss new pending n e t are at thread off set =
    come_new t ss new pending e are
    (λ d within is. off (subst (λ m. m < length ss) (sym at) within, λ f. ap (λ m. (get_or ss m f).tid.0) at ∙ ap (λ (s : Seat). s.tid.0) (read_any (count_seats t.0 ss) ss f d within) ∙ is))
    thread (set ∙ ap (λ m. insert ss m (record { tid = t; entry = Some e })) at)
