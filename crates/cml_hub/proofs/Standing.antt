-- Machines stand as their threads do, whatever changes.
use Rattle.std.proofs.Common.{◌≡◌, ◌≢◌, ℕ, zero, suc, ◌+◌, List, [], ◌∷◌, ◌++◌, length, map, refl, ap, sym, subst, ◌∙◌, arith, Option, Some}
use Rattle.std.specs.Prelude.{slice_get, slice_set, option_and_then}
use Rattle.cml_scan.specs.World.{PlainThread}
use Rattle.cml_check.specs.Syntax.{PlainItem}
use Rattle.cml_step.specs.Machines.{PlainMachine}
use Rattle.cml_step.specs.Terms.{Program}
use Rattle.cml_schedule.specs.declared.item.Item.{Item}
use Rattle.cml_hub.specs.Runs.{Run, advance, stands, stands_from, opening}
use Rattle.cml_hub.specs.Courses.{MachineStands, MachinesStand}

pub map_set : {X Y : Type 0} (f : X → Y) (xs : List X) (i : ℕ) (x : X) → map f (slice_set xs i x) ≡ slice_set (map f xs) i (f x)
map_set f [] i x = refl
map_set f (y ∷ xs) zero x = refl
map_set f (y ∷ xs) (suc i) x = ap (λ ys. f y ∷ ys) (map_set f xs i x)

pub map_append : {X Y : Type 0} (f : X → Y) (xs ys : List X) → map f (xs ++ ys) ≡ map f xs ++ map f ys
map_append f [] ys = refl
map_append f (x ∷ xs) ys = ap (λ zs. f x ∷ zs) (map_append f xs ys)

pub set_same : {X : Type 0} (xs : List X) (i : ℕ) (x : X) → slice_get xs i ≡ Some x → slice_set xs i x ≡ xs
set_same [] i x h = refl
set_same (y ∷ xs) zero x h = let e : y ≡ x = cc in ap (λ z. z ∷ xs) (sym e)
set_same (y ∷ xs) (suc i) x h = ap (λ ys. y ∷ ys) (set_same xs i x h)

pub set_again : {X : Type 0} (xs : List X) (i : ℕ) (a b : X) → slice_set (slice_set xs i a) i b ≡ slice_set xs i b
set_again [] i a b = refl
set_again (x ∷ xs) zero a b = refl
set_again (x ∷ xs) (suc i) a b = ap (λ ys. x ∷ ys) (set_again xs i a b)

pub get_other : {X : Type 0} (xs : List X) (i j : ℕ) (x : X) → i ≢ j → slice_get (slice_set xs i x) j ≡ slice_get xs j
get_other [] i j x h = refl
get_other (y ∷ xs) zero zero x h = absurd (h refl)
get_other (y ∷ xs) zero (suc j) x h = refl
get_other (y ∷ xs) (suc i) zero x h = refl
get_other (y ∷ xs) (suc i) (suc j) x h = get_other xs i j x (λ e. h (ap suc e))

-- the machine of a thread that is there
pub record Found (p : List (PlainItem ℕ)) (k i : ℕ) (t : PlainThread) (ms : List PlainMachine) : Type 0 where
  pub machine : PlainMachine
  pub at : slice_get ms i ≡ Some machine
  pub thread : machine.thread ≡ k + i
  pub stands : MachineStands p t machine

pub found : (p : List (PlainItem ℕ)) (k i : ℕ) (ts : List PlainThread) (ms : List PlainMachine) (t : PlainThread) → MachinesStand p k ts ms → slice_get ts i ≡ Some t → Found p k i t ms
found p k i [] ms t h e = absurd (cc)
found p k i (x ∷ ts) [] t h e = absurd h
found p k zero (x ∷ ts) (m ∷ ms) t h e =
    let is : x ≡ t = cc in
    record { machine = m; at = refl; thread = omega (arith, h.0); stands = subst (λ y. MachineStands p y m) is h.1 }
found p k (suc i) (x ∷ ts) (m ∷ ms) t h e =
    let r = found p (suc k) i ts ms t h.2 e in
    record { machine = r.machine; at = r.at; thread = omega (arith, r.thread); stands = r.stands }

-- a machine that is there is the one found
pub found_is : (p : List (PlainItem ℕ)) (k i : ℕ) (ts : List PlainThread) (ms : List PlainMachine) (t : PlainThread)
    (m : PlainMachine) → MachinesStand p k ts ms → slice_get ts i ≡ Some t → slice_get ms i ≡ Some m
    → (m.thread ≡ k + i) × MachineStands p t m
found_is p k i ts ms t m h e g =
    let r = found p k i ts ms t h e in
    let at = r.at in
    let same : r.machine ≡ m = cc in
    (ap (λ (x : PlainMachine). x.thread) (sym same) ∙ r.thread, subst (λ x. MachineStands p t x) same r.stands)

-- a machine that is there has its own number
pub number_there : (p : List (PlainItem ℕ)) (k i : ℕ) (ts : List PlainThread) (ms : List PlainMachine) (m : PlainMachine) → MachinesStand p k ts ms → slice_get ms i ≡ Some m → m.thread ≡ k + i
number_there p k i [] [] m h e = absurd (cc)
number_there p k i [] (x ∷ ms) m h e = absurd h
number_there p k i (t ∷ ts) [] m h e = absurd h
number_there p k zero (t ∷ ts) (x ∷ ms) m h e =
    let is : x ≡ m = cc in
    ap (λ (y : PlainMachine). y.thread) (sym is) ∙ omega (arith, h.0)
number_there p k (suc i) (t ∷ ts) (x ∷ ms) m h e = omega (arith, number_there p (suc k) i ts ms m h.2 e)

pub stand_set : (p : List (PlainItem ℕ)) (k i : ℕ) (ts : List PlainThread) (ms : List PlainMachine) (t : PlainThread)
    (m : PlainMachine) → MachinesStand p k ts ms → m.thread ≡ k + i → MachineStands p t m
    → MachinesStand p k (slice_set ts i t) (slice_set ms i m)
stand_set p k i [] [] t m h e s = tt
stand_set p k i [] (x ∷ ms) t m h e s = absurd h
stand_set p k i (x ∷ ts) [] t m h e s = absurd h
stand_set p k zero (x ∷ ts) (y ∷ ms) t m h e s = (omega (arith, e), s, h.2)
stand_set p k (suc i) (x ∷ ts) (y ∷ ms) t m h e s = (h.0, h.1, stand_set p (suc k) i ts ms t m h.2 (omega (arith, e)) s)

pub stand_push : (p : List (PlainItem ℕ)) (k : ℕ) (ts : List PlainThread) (ms : List PlainMachine) (t : PlainThread)
    (m : PlainMachine) → MachinesStand p k ts ms → m.thread ≡ k + length ts → MachineStands p t m
    → MachinesStand p k (ts ++ t ∷ []) (ms ++ m ∷ [])
stand_push p k [] [] t m h e s = (omega (arith, e), s, tt)
stand_push p k [] (x ∷ ms) t m h e s = absurd h
stand_push p k (x ∷ ts) [] t m h e s = absurd h
stand_push p k (x ∷ ts) (y ∷ ms) t m h e s = (h.0, h.1, stand_push p (suc k) ts ms t m h.2 (omega (arith, e)) s)

pub stand_length : (p : List (PlainItem ℕ)) (k : ℕ) (ts : List PlainThread) (ms : List PlainMachine) → MachinesStand p k ts ms → length ms ≡ length ts
stand_length p k [] [] h = refl
stand_length p k [] (x ∷ ms) h = absurd h
stand_length p k (x ∷ ts) [] h = absurd h
stand_length p k (x ∷ ts) (y ∷ ms) h = omega (arith, stand_length p (suc k) ts ms h.2)

-- one more item is one step more
pub stands_push : (p : Program) (r : Option Run) (items : List Item) (item : Item) → stands_from p r (items ++ item ∷ []) ≡ option_and_then (λ now. advance p now item) (stands_from p r items)
stands_push p r [] item = refl
stands_push p r (x ∷ items) item = stands_push p (option_and_then (λ now. advance p now x) r) items item

pub leads_on : (p : Program) (items : List Item) (item : Item) (r : Run) (new : Option Run) → stands p items ≡ Some r → advance p r item ≡ new → stands p (items ++ item ∷ []) ≡ new
leads_on p items item r new leads is = stands_push p (Some (opening p)) items item ∙ ap (option_and_then (λ now. advance p now item)) leads ∙ is
