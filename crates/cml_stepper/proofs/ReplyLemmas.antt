-- What is done at an answer, and that what it names may happen.
use Rattle.std.proofs.Common.{◌≡◌, ℕ, zero, suc, ◌+◌, ◌-◌, ◌<◌, Bool, true, false, not, ◌&&◌, ◌||◌, nat_eq, cond}
use Rattle.std.proofs.Common.{List, [], ◌∷◌, length, take, drop, Option, Some, None, subst, refl, sym, ap}
use Rattle.std.proofs.Common.{◌∙◌, arith}
use Rattle.std.specs.Prelude.{option_map, slice_get}
use Rattle.std.specs.Option.{option_or, option_map_or}
use Rattle.std.specs.List.{list_any}
use Rattle.std.proofs.lemmas.Bool.Decides.{nat_tests}
use Rattle.std.proofs.lemmas.Option.{slice_get_within, get_or_from_slice_get, same_Some}
use Rattle.cml_value.specs.declared.number.Tid.{Tid}
use Rattle.cml_hub.proofs.RowLemmas.{has_there}
use Rattle.cml_scan.specs.World.{PlainWorld, PlainThread}
use Rattle.cml_scan.specs.Scan.{scan, has_row}
use Rattle.cml_scan.specs.declared.meet.Meet.{Meet}
use Rattle.cml_book.specs.Walks.{runs, is_running}
use Rattle.cml_book.specs.Swaps.{swaps}
use Rattle.cml_schedule.specs.declared.item.Item.{Item}
use Rattle.cml_schedule.specs.declared.item.Item.TheVariants.{Turn, Meet as Commit, Exchange, Clock}
use Rattle.cml_hub.specs.Courses.{PlainCourse}
use Rattle.cml_hub.specs.Kept.{Kept}
use Rattle.cml_hub.specs.Playing.{taking}
use Rattle.cml_hub.specs.Runs.{is_allowed, any_runs, is_empty, next_alarm, has_number}
use Rattle.cml_phrase.specs.declared.place.Place.{Place}
use Rattle.cml_facts.specs.Turns.{began_in}
use Rattle.cml_facts.specs.Whys.{first_running}
use Rattle.cml_stepper.specs.declared.line.Typed.{Typed}
use Rattle.cml_stepper.specs.declared.line.Typed.TheVariants as typed
use Rattle.cml_stepper.specs.declared.offer.Rows.{Rows}
use Rattle.cml_stepper.specs.declared.reply.Reply.{Reply}
use Rattle.cml_stepper.specs.declared.reply.Reply.TheVariants as reply
use Rattle.cml_stepper.specs.declared.reply.Stay.{Stay}
use Rattle.cml_stepper.specs.declared.reply.Stay.TheVariants as stay
use Rattle.cml_stepper.specs.Picks.{row_numbered, next_ready, next_named, only_row, number_past, last_turned, turn_of_number, item_typed}
use Rattle.cml_stepper.specs.Offers.{AreRows}
use Rattle.cml_stepper.specs.Replies.{DoneAt, IsGone, IsListed, StaysAs, Lists, TakesNamed, TellsEnd, Undoes, UndoesLast, no_next, unfit}
use Rattle.cml_stepper.proofs.OfferLemmas.{first_rows}

-- ---- what is told

pub none_next : (rows all : List Meet) → rows ≡ take 1 (drop 0 all) → length rows ≡ 0 → stay.Nothing ≡ no_next all
none_next rows [] first none = refl
none_next rows (row ∷ all) first none = absurd (omega (arith, ap length first))

pub many_next : (rows all : List Meet) → rows ≡ take 1 (drop 0 all) → 0 < length rows → stay.ManyRows ≡ no_next all
many_next rows [] first some = absurd (omega (arith, ap length first))
many_next rows (row ∷ all) first some = refl

pub none_listed : (c : PlainCourse) (n : ℕ) (rows : List Meet) → length rows ≡ 0 → IsListed c n rows (stay.NoRow n)
none_listed c n [] none = refl
none_listed c n (row ∷ rows) none = absurd (omega arith)

pub some_listed : (c : PlainCourse) (n : ℕ) (rows : List Meet) (x : Rows) → 0 < length rows → AreRows c.world (began_in c) n rows x → IsListed c n rows (stay.Listed x)
some_listed c n [] x some are = absurd (omega arith)
some_listed c n (row ∷ rows) x some are = are

listed_first : (c : PlainCourse) (n : ℕ) (rows : List Meet) (s : Stay) → IsListed c n (take 21 rows) s → IsListed c n rows s
listed_first c n [] s is = is
listed_first c n (row ∷ rows) (stay.Listed x) is = first_rows c.world (began_in c) n (row ∷ rows) x is
listed_first c n (row ∷ rows) _ is = is

-- no row has the number 0
pub lists_zero : (c : PlainCourse) (n : ℕ) → n ≡ 0 → Lists c n (stay.NoRow n)
lists_zero c zero none = refl
lists_zero c (suc n) none = absurd (omega arith)

-- the rows from a number on, by the first of them
pub lists_by : (c : PlainCourse) (n : ℕ) (rows : List Meet) (s : Stay) → 0 < n → rows ≡ take 21 (drop (n - 1) (scan c.world)) → IsListed c n rows s → Lists c n s
lists_by c zero rows s some are is = absurd (omega arith)
lists_by c (suc k) rows s some are is =
    let e : suc k - 1 ≡ k = omega arith in
    listed_first c (suc k) (drop k (scan c.world)) s (subst (λ xs. IsListed c (suc k) xs s) (are ∙ ap (λ i. take 21 (drop i (scan c.world))) e) is)

-- ---- what is named may happen

taking_allowed : (w : PlainWorld) (row : Meet) → has_row (scan w) row ≡ true → is_allowed w (taking w row) ≡ true
taking_allowed w row has = at (swaps w row) refl
  where
    at : (b : Bool) → swaps w row ≡ b → is_allowed w (cond b (Exchange row) (Commit row)) ≡ true
    at true e = e
    at false e = has

row_has : (w : PlainWorld) (n : ℕ) (row : Meet) → row_numbered w n ≡ Some row → has_row (scan w) row ≡ true
row_has w zero row e = absurd cc
row_has w (suc k) row e = has_there (scan w) row (k, slice_get_within (scan w) k row e, get_or_from_slice_get (scan w) k row row e)

row_allowed : (w : PlainWorld) (o : Option Meet) (item : Item) → ((row : Meet) → o ≡ Some row → has_row (scan w) row ≡ true) → Some item ≡ option_map (taking w) o → is_allowed w item ≡ true
row_allowed w None item has e = absurd cc
row_allowed w (Some row) item has e = subst (λ i. is_allowed w i ≡ true) (sym (same_Some item (taking w row) e)) (taking_allowed w row (has row refl))

turn_allowed : (w : PlainWorld) (t : Tid) (item : Item) (b : Bool) → is_running w t.0 ≡ b → Some item ≡ cond b (Some (Turn t)) None → is_allowed w item ≡ true
turn_allowed w t item true runs_so e = subst (λ i. is_allowed w i ≡ true) (sym (same_Some item (Turn t) e)) runs_so
turn_allowed w t item false runs_so e = absurd cc

-- the first of these threads that runs does
first_runs : (n : ℕ) (ts : List PlainThread) (t : ℕ) → first_running n ts ≡ Some t → (k : ℕ) × (t ≡ n + k) × (option_map_or runs (slice_get ts k) false ≡ true)
first_runs n [] t e = absurd cc
first_runs n (x ∷ ts) t e = at (runs x) refl e (first_runs (n + 1) ts t)
  where
    at : (b : Bool) → runs x ≡ b → cond b (Some n) (first_running (n + 1) ts) ≡ Some t
        → (first_running (n + 1) ts ≡ Some t → (k : ℕ) × (t ≡ n + 1 + k)
        × (option_map_or runs (slice_get ts k) false ≡ true))
        → (k : ℕ) × (t ≡ n + k) × (option_map_or runs (slice_get (x ∷ ts) k) false ≡ true)
    at true so e more = let same : n ≡ t = same_Some n t e in (0, omega arith, so)
    at false so e more = let m = more e in (suc m.0, omega (arith, m.1), m.2)

get_dropped : (n k m : ℕ) (ts : List PlainThread) → m ≡ n + k → slice_get (drop n ts) k ≡ slice_get ts m
get_dropped zero k m ts is = let e : k ≡ m = omega arith in ap (slice_get ts) e
get_dropped (suc n) k m [] is = refl
get_dropped (suc n) k zero (x ∷ ts) is = absurd (omega arith)
get_dropped (suc n) k (suc m) (x ∷ ts) is = get_dropped n k m ts (omega arith)

none_runs : (n : ℕ) (ts : List PlainThread) → None ≡ first_running n ts → list_any runs ts ≡ false
none_runs n [] e = refl
none_runs n (x ∷ ts) e = at (runs x) e (none_runs (n + 1) ts)
  where
    at : (b : Bool) → None ≡ cond b (Some n) (first_running (n + 1) ts) → (None ≡ first_running (n + 1) ts → list_any runs ts ≡ false) → b || list_any runs ts ≡ false
    at true e more = absurd cc
    at false e more = more e

-- the thread that is next runs
ready_runs : (w : PlainWorld) (n t : ℕ) → Some t ≡ first_running n (drop n w.threads) → is_running w t ≡ true
ready_runs w n t e =
    let f = first_runs n (drop n w.threads) t (sym e) in
    ap (λ o. option_map_or runs o false) (sym (get_dropped n f.0 t w.threads f.1)) ∙ f.2

either_runs : (w : PlainWorld) (n t : ℕ) (o : Option ℕ) → o ≡ first_running n (drop n w.threads) → Some t ≡ option_or o (first_running 0 w.threads) → is_running w t ≡ true
either_runs w n t None is e = ready_runs w 0 t e
either_runs w n t (Some u) is e = ready_runs w n t (e ∙ is)

neither_runs : (w : PlainWorld) (o : Option ℕ) → None ≡ option_or o (first_running 0 w.threads) → any_runs w ≡ false
neither_runs w None e = none_runs 0 w.threads e
neither_runs w (Some t) e = absurd cc

same_number : (n : ℕ) → nat_eq n n ≡ true
same_number n = grind (arith, nat_tests)

abbrev only_by : PlainWorld → List Meet → Option ℕ → Option Item
only_by w [] alarm = option_map Clock alarm
only_by w (row ∷ []) alarm = Some (taking w row)
only_by w (row ∷ second ∷ rows) alarm = None

only_same : (w : PlainWorld) (rows : List Meet) → only_row w rows ≡ only_by w rows (next_alarm w)
only_same w [] = refl
only_same w (row ∷ []) = refl
only_same w (row ∷ second ∷ rows) = refl

all_three : (x y z : Bool) → x ≡ true → y ≡ true → z ≡ true → x && y && z ≡ true
all_three true true true p q r = refl
all_three true true false p q r = cc
all_three true false z p q r = cc
all_three false y z p q r = cc

only_allowed : (w : PlainWorld) (item : Item) (rows : List Meet) (alarm : Option ℕ) → any_runs w ≡ false → scan w ≡ rows
    → next_alarm w ≡ alarm → Some item ≡ only_by w rows alarm → is_allowed w item ≡ true
only_allowed w item [] None still none no_alarm e = absurd cc
only_allowed w item [] (Some tick) still none next e =
    subst (λ i. is_allowed w i ≡ true) (sym (same_Some item (Clock tick) e))
    (all_three (has_number (next_alarm w) tick) (not (any_runs w)) (is_empty (scan w)) (ap (λ o. has_number o tick) next ∙ same_number tick) (ap not still) (ap is_empty none))
only_allowed w item (row ∷ []) alarm still only next e =
    let has : has_row (scan w) row ≡ true = ap (λ rows. has_row rows row) only ∙ has_there (row ∷ []) row (0, omega arith, refl) in
    subst (λ i. is_allowed w i ≡ true) (sym (same_Some item (taking w row) e)) (taking_allowed w row has)
only_allowed w item (row ∷ second ∷ rows) alarm still more next e = absurd cc

next_allowed : (w : PlainWorld) (n : ℕ) (o : Option ℕ) (item : Item) → o
    ≡ option_or (first_running n (drop n w.threads)) (first_running 0 w.threads) → Some item ≡ next_named w o
    → is_allowed w item ≡ true
next_allowed w n (Some t) item is e =
    subst (λ i. is_allowed w i ≡ true) (sym (same_Some item (turn_of_number t) e)) (either_runs w n t (first_running n (drop n w.threads)) refl is)
next_allowed w n None item is e =
    only_allowed w item (scan w) (next_alarm w) (neither_runs w (first_running n (drop n w.threads)) is) refl refl (e ∙ only_same w (scan w))

-- what an answer names may happen
pub typed_allowed : (w : PlainWorld) (items : List Item) (what : Typed) (item : Item) → Some item ≡ item_typed w items what → is_allowed w item ≡ true
typed_allowed w items (typed.Row n) item e = row_allowed w (row_numbered w n) item (row_has w n) e
typed_allowed w items (typed.Turn t) item e = turn_allowed w t item (is_running w t.0) refl e
typed_allowed w items typed.Next item e = next_allowed w (number_past (last_turned items)) (next_ready w items) item refl e
typed_allowed w items (typed.List n) item e = absurd cc
typed_allowed w items typed.Waits item e = absurd cc
typed_allowed w items typed.Undo item e = absurd cc
typed_allowed w items typed.Quit item e = absurd cc
typed_allowed w items typed.Unknown item e = absurd cc

-- ---- what is done

pub keeps_so : (IsSo : Stay → Type 0) (h : Kept) (s : Stay) (r : Reply) → r ≡ reply.Stays s (length h.course.items + 1) → IsSo s → StaysAs IsSo h h r
keeps_so IsSo h s r is so = subst (StaysAs IsSo h h) (sym is) (refl, so, refl)

pub moves_some : (places : List (List Place)) (what : Typed) (old new : Kept) (r : Reply) (item : Item)
    (o : Option Item) → Some item ≡ o → IsGone places old item new r → TakesNamed places what o old new r
moves_some places what old new r item o is goes = subst (λ x. TakesNamed places what x old new r) is goes

pub moves_none : (places : List (List Place)) (what : Typed) (h : Kept) (s : Stay) (r : Reply) (o : Option Item) → None ≡ o → s ≡ unfit h.course.world what → r ≡ reply.Stays s
    (length h.course.items + 1)
    → TakesNamed places what o h h r
moves_none places what h s r o is fits stays = subst (λ x. TakesNamed places what x h h r) is (keeps_so (λ s. s ≡ unfit h.course.world what) h s r stays fits)

pub undoes_none : (items : List Item) (places : List (List Place)) (h : Kept) (r : Reply) → length items ≡ 0 → r ≡ reply.Stays stay.NoItem (length h.course.items + 1) → UndoesLast items places h h r
undoes_none [] places h r none stays = keeps_so (λ s. s ≡ stay.NoItem) h stay.NoItem r stays refl
undoes_none (item ∷ items) places h r none stays = absurd (omega arith)

pub undoes_some : (items : List Item) (places : List (List Place)) (old new : Kept) (r : Reply) → 0 < length items → Undoes places old new r → UndoesLast items places old new r
undoes_some [] places old new r some undoes = absurd (omega arith)
undoes_some (item ∷ items) places old new r some undoes = undoes

-- what is done at an answer that may name an item
abbrev MovesSo : List (List Place) → Typed → Kept → Kept → Reply → Type 0
MovesSo places what old new r = TakesNamed places what (item_typed old.course.world old.course.items what) old new r

pub does_as : (places : List (List Place)) (what same : Typed) (old new : Kept) (r : Reply) → what ≡ same →
    (MovesSo places same old new r → DoneAt places same old new r) → MovesSo places what old new r
    → DoneAt places what old new r
does_as places what same old new r is step moves = subst (λ x. DoneAt places x old new r) (sym is) (step (subst (λ x. MovesSo places x old new r) is moves))

-- ---- what stays

-- the program and the budget of a hub stay
abbrev pub KeepsBoth : Kept → Kept → Type 0
KeepsBoth old new = (new.course.program ≡ old.course.program) × (new.budget ≡ old.budget)

pub same_keeps : (old new : Kept) → new ≡ old → KeepsBoth old new
same_keeps old new same = (ap (λ (k : Kept). k.course.program) same, ap (λ (k : Kept). k.budget) same)

stays_keeps : (IsSo : Stay → Type 0) (old new : Kept) (r : Reply) → StaysAs IsSo old new r → KeepsBoth old new
stays_keeps IsSo old new (reply.Stays s n) stays = same_keeps old new stays.0
stays_keeps IsSo old new _ stays = absurd stays

gone_keeps : (places : List (List Place)) (old : Kept) (item : Item) (new : Kept) (r : Reply) → IsGone places old item new r → KeepsBoth old new
gone_keeps places old item new (reply.Gone happened printed question) gone = (gone.adds.program, gone.budget)
gone_keeps places old item new _ gone = absurd gone

named_keeps : (places : List (List Place)) (what : Typed) (o : Option Item) (old new : Kept) (r : Reply) → TakesNamed places what o old new r → KeepsBoth old new
named_keeps places what (Some item) old new r happens = gone_keeps places old item new r happens
named_keeps places what None old new r stays = stays_keeps (λ s. s ≡ unfit old.course.world what) old new r stays

undone_keeps : (places : List (List Place)) (old new : Kept) (r : Reply) → Undoes places old new r → KeepsBoth old new
undone_keeps places old new (reply.Undone n question) undoes = (undoes.0.program, undoes.0.budget)
undone_keeps places old new _ undoes = absurd undoes

undo_keeps : (items : List Item) (places : List (List Place)) (old new : Kept) (r : Reply) → UndoesLast items places old new r → KeepsBoth old new
undo_keeps [] places old new r stays = stays_keeps (λ s. s ≡ stay.NoItem) old new r stays
undo_keeps (item ∷ items) places old new r undoes = undone_keeps places old new r undoes

pub done_keeps : (places : List (List Place)) (what : Typed) (old new : Kept) (r : Reply) → DoneAt places what old new r → KeepsBoth old new
done_keeps places typed.Quit old new r done = same_keeps old new done.1
done_keeps places typed.Undo old new r done = undo_keeps old.course.items places old new r done
done_keeps places typed.Waits old new r done = stays_keeps (TellsEnd places old) old new r done
done_keeps places (typed.List n) old new r done = stays_keeps (Lists old.course n) old new r done
done_keeps places (typed.Row n) old new r done = named_keeps places (typed.Row n) (item_typed old.course.world old.course.items (typed.Row n)) old new r done
done_keeps places (typed.Turn t) old new r done = named_keeps places (typed.Turn t) (item_typed old.course.world old.course.items (typed.Turn t)) old new r done
done_keeps places typed.Next old new r done = named_keeps places typed.Next (item_typed old.course.world old.course.items typed.Next) old new r done
done_keeps places typed.Unknown old new r done = named_keeps places typed.Unknown (item_typed old.course.world old.course.items typed.Unknown) old new r done
