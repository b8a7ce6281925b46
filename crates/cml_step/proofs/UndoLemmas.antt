-- What is noted of a call, and undone.
use Rattle.std.specs.Prelude.{OnOk, IfOk, OnErr}
use Rattle.std.proofs.Common.{Result, Ok, Err, ◌≡◌, ◌≤◌, ℕ, zero, suc, Bool, true, false, Option, Some, None, List, [], ◌∷◌, ◌++◌, length, take, set, get_or, refl, ap, sym, ◌∙◌, subst, arith}
use Rattle.cml_value.specs.Value.{PlainValue}
use Rattle.cml_step.specs.declared.call.Call.{Call}
use Rattle.cml_step.specs.declared.entry.Entry.{Entry}
use Rattle.cml_step.specs.declared.entry.Entry.TheVariants as entry
use Rattle.cml_step.specs.declared.journal.Noted.{Noted}
use Rattle.cml_step.specs.declared.journal.Journal.{Journal}
use Rattle.cml_step.specs.declared.ask.Ask.{Ask}
use Rattle.cml_step.specs.declared.ask.Ask.TheVariants as asks_of
use Rattle.cml_step.specs.declared.still.Begun.{Begun}
use Rattle.cml_step.specs.declared.still.Begun.TheVariants as begun_of
use Rattle.cml_step.specs.Begins.{RunsStill, BeginsSlice}
use Rattle.cml_step.specs.Machines.{PlainHeld, PlainMachine, call, plain_held}
use Rattle.cml_step.specs.Shared.{topped, called, HasNoCall, HasNoCallOnTop}
use Rattle.cml_step.specs.Undone.{unset, call_before, stack_before, stood, wrapped, HasHead, HasSlotsOf, HasNotes}
use Rattle.cml_step.proofs.CallLemmas.{take_all}
use Rattle.cml_check.specs.Syntax.{PlainItem}
use Rattle.cml_check.specs.InOrder.{arities}
use Rattle.cml_step.specs.declared.call.Wait.TheVariants as wait
use Rattle.cml_step.specs.Agrees.{value_agrees, ask_agrees}
use Rattle.cml_step.specs.AskViews.{plain_ask}
use Rattle.cml_step.specs.Calls.{entry_of, text_of, slots_with}
use Rattle.cml_step.specs.Slices.{GoesIn}
use Rattle.cml_step.specs.Stacks.{CallFits, StackFits, term_of}
use Rattle.cml_step.specs.Terms.{Term}
use Rattle.cml_step.proofs.StackLemmas.{top_and_rest, nothing_on_top, pushed_is, filled_fits}
use Rattle.cml_step.proofs.SyncLemmas.{same_fits}

-- one more set was noted
pub unset_pushed : (ns : List Noted) (n : Noted) (xs : List PlainValue) → unset (ns ++ n ∷ []) xs ≡ unset ns (set xs n.slot n.value)
unset_pushed [] n xs = refl
unset_pushed (m ∷ ns) n xs = ap (λ ys. set ys m.slot m.value) (unset_pushed ns n xs)

-- a slot that is not there
pub set_past : (xs : List PlainValue) (s : ℕ) (v : PlainValue) → length xs ≤ s → set xs s v ≡ xs
set_past [] s v h = refl
set_past (x ∷ xs) zero v h = absurd (omega (arith, h))
set_past (x ∷ xs) (suc s) v h = ap (λ ys. x ∷ ys) (set_past xs s v (omega (arith, h)))

-- a slot that was set has again what it had
pub set_back : (xs : List PlainValue) (s : ℕ) (v d : PlainValue) → set (set xs s v) s (get_or xs s d) ≡ xs
set_back [] s v d = refl
set_back (x ∷ xs) zero v d = refl
set_back (x ∷ xs) (suc s) v d = ap (λ ys. x ∷ ys) (set_back xs s v d)

-- a set that was noted
pub set_noted : (ns : List Noted) (xs : List PlainValue) (s : ℕ) (v had : PlainValue) → had ≡ get_or xs s had →
    unset (ns ++ record { slot = s; value = had } ∷ []) (set xs s v) ≡ unset ns xs
set_noted ns xs s v had is =
    unset_pushed ns (record { slot = s; value = had }) (set xs s v) ∙ ap (unset ns) (ap (λ w. set (set xs s v) s w) is ∙ set_back xs s v had)

-- a call that has the slots that it had
pub kept_had : (old new : Call) → new.slots ≡ old.slots → new.func ≡ old.func → HasSlotsOf old new
kept_had old new s f = record { slots = ap (λ vs. take (length old.slots.items) vs.items) s ∙ take_all old.slots.items; func = f }

pub same_had : (old : Call) → HasSlotsOf old old
same_had old = kept_had old old refl refl

-- the call as it was, where what was set is noted, and slots may have been added since
pub before_same : (below : List PlainHeld) (j : Journal) (old mid new : Call) (over : Option Entry) → HasHead j old → wrapped j.over ≡ over → HasNotes [] old j.sets.items mid → HasSlotsOf mid new →
    stack_before below j new ≡ stood below old over
before_same below j old mid new over head is noted had =
    let many : j.count ≡ length mid.slots.items = head.count ∙ sym noted.count in
    let slots : unset j.sets.items (take j.count new.slots.items) ≡ old.slots.items = ap (λ n. unset j.sets.items (take n new.slots.items)) many ∙ ap (unset j.sets.items) had.slots ∙ noted.slots in
    let same : call_before j new ≡ plain_held (entry.Call old) =
    ap (λ f. call f j.at (unset j.sets.items (take j.count new.slots.items)) j.wait) (had.func ∙ noted.func)
    ∙ ap (λ at. call old.func at (unset j.sets.items (take j.count new.slots.items)) j.wait) head.at
    ∙ ap (λ vs. call old.func old.at vs j.wait) slots
    ∙ ap (λ w. call old.func old.at old.slots.items w) head.wait in
    ap (λ h. topped (below ++ h ∷ []) (wrapped j.over)) same ∙ ap (λ o. topped (below ++ plain_held (entry.Call old) ∷ []) o) is

-- a call of the same function with the same slots, as the journal has it
pub kept_before : (j : Journal) (c d : Call) → d.func ≡ c.func → d.slots.items ≡ c.slots.items → call_before j d ≡ call_before j c
kept_before j c d f s =
    ap (λ n. call n j.at (unset j.sets.items (take j.count d.slots.items)) j.wait) f
    ∙ ap (λ vs. call c.func j.at (unset j.sets.items (take j.count vs)) j.wait) s

pub same_before : (j : Journal) (c d : Call) → plain_held (entry.Call d) ≡ plain_held (entry.Call c) → call_before j d ≡ call_before j c
same_before j c d is = kept_before j c d (cc) (cc)

-- a run of the call on top, over which nothing stands
pub run_in : (p : List (PlainItem ℕ)) (self n : ℕ) (hs : List PlainHeld) (c d : Call) (over : Option Entry) → over ≡ None →
    ((below : Term) → GoesIn (text_of p) self n (entry_of p c ∷ below) (entry_of p d ∷ below)) → GoesIn (text_of p) self n (term_of p (stood hs c over)) (term_of p (stood hs d over))
run_in p self n hs c d over none goes =
    subst (λ (t : Term). GoesIn (text_of p) self n t (term_of p (stood hs d over))) (sym (pushed_is p hs (stood hs c over) (plain_held (entry.Call c)) (ap (stood hs c) none)))
    (subst (λ (t : Term). GoesIn (text_of p) self n (entry_of p c ∷ term_of p hs) t) (sym (pushed_is p hs (stood hs d over) (plain_held (entry.Call d)) (ap (stood hs d) none)))
    (goes (term_of p hs)))

pub run_fits : (p : List (PlainItem ℕ)) (hs : List PlainHeld) (c d : Call) (over : Option Entry) → over ≡ None → StackFits p (stood hs c over) → CallFits p d → StackFits p (stood hs d over)
run_fits p hs c d over none fits f = same_fits p hs (stood hs c over) (stood hs d over) c d (ap (stood hs c) none) (ap (stood hs d) none) fits f

-- the entry is a call
held_call : (e : Entry) (c : Call) → plain_held e ≡ plain_held (entry.Call c) → (d : Call) × (e ≡ entry.Call d)
held_call (entry.Call d) c h = (d, refl)
held_call (entry.Force g asked) c h = absurd (cc)
held_call (entry.Wraps w) c h = absurd (cc)

no_call_held : (e : Entry) (c : Call) → HasNoCall (Some e) → plain_held e ≡ plain_held (entry.Call c) → ⊥
no_call_held e c free h = let d = held_call e c h in free d.0 (ap Some d.1)

-- a call over which no other stands lies in its place
abbrev pub IsPlaced : Option Call → List PlainHeld → List PlainHeld → Call → Type 0
IsPlaced own hs below c = (d : Call) × (own ≡ Some d) × (hs ≡ below) × (plain_held (entry.Call d) ≡ plain_held (entry.Call c))

pub in_place : (hs : List PlainHeld) (own : Option Call) (over : Option Entry) → (over ≡ None → own ≡ None → hs ≡ []) →
    (own ≡ None → HasNoCallOnTop hs) → HasNoCall over → (below : List PlainHeld) (c : Call) (on : Option Entry) → HasNoCall on →
    topped (called hs own) over ≡ stood below c on → IsPlaced own hs below c
unfolding HasNoCallOnTop
in_place hs None None empty placed free below c None none e = absurd (nothing_on_top below (plain_held (entry.Call c)) (sym e ∙ empty refl refl))
in_place hs None None empty placed free below c (Some o) none e =
    absurd (nothing_on_top (below ++ plain_held (entry.Call c) ∷ []) (plain_held o) (sym e ∙ empty refl refl))
in_place hs (Some d) None empty placed free below c None none e =
    let r = top_and_rest hs below (plain_held (entry.Call d)) (plain_held (entry.Call c)) e in
    (d, refl, r.0, r.1)
in_place hs (Some d) None empty placed free below c (Some o) none e =
    let t = top_and_rest hs (below ++ plain_held (entry.Call c) ∷ []) (plain_held (entry.Call d)) (plain_held o) e in
    absurd (no_call_held o d none (sym t.1))
in_place hs None (Some x) empty placed free below c None none e =
    absurd (no_call_held x c free (top_and_rest hs below (plain_held x) (plain_held (entry.Call c)) e).1)
in_place hs None (Some x) empty placed free below c (Some o) none e =
    absurd (placed refl below c (top_and_rest hs (below ++ plain_held (entry.Call c) ∷ []) (plain_held x) (plain_held o) e).0)
in_place hs (Some d) (Some x) empty placed free below c None none e =
    absurd (no_call_held x c free (top_and_rest (hs ++ plain_held (entry.Call d) ∷ []) below (plain_held x) (plain_held (entry.Call c)) e).1)
in_place hs (Some d) (Some x) empty placed free below c (Some o) none e =
    let t = top_and_rest (hs ++ plain_held (entry.Call d) ∷ []) (below ++ plain_held (entry.Call c) ∷ []) (plain_held x) (plain_held o) e in
    let r = top_and_rest hs below (plain_held (entry.Call d)) (plain_held (entry.Call c)) t.0 in
    (d, refl, r.0, r.1)

-- a call of which no slot was set
pub unset_same : (sets : List Noted) (old new : Call) → new.slots ≡ old.slots → new.func ≡ old.func → HasNotes sets old sets new
unset_same sets old new s f = record { slots = ap (λ vs. unset sets vs.items) s; count = ap (λ vs. length vs.items) s; func = f }

-- what was noted, and then more
pub noted_on : {sets more most : List Noted} {old mid new : Call} → HasNotes sets old more mid → HasNotes more mid most new → HasNotes sets old most new
noted_on a b = record { slots = b.slots ∙ a.slots; count = b.count ∙ a.count; func = b.func ∙ a.func }

-- what follows of what holds where there was no error
pub on_ok : {A E X Y : Type 0} → (r : Result A E) → (X → Y) → OnOk r X → OnOk r Y
on_ok (Ok a) f x = f x
on_ok (Err e) f x = tt

pub ok_then : {A E X Y : Type 0} → (r : Result A E) → (X → Y) → IfOk r (λ _. X) → IfOk r (λ _. Y)
ok_then (Ok a) f x = f x
ok_then (Err e) f x = tt

-- a call that was given the value, or not
pub fits_filled : (p : List (PlainItem ℕ)) (c d : Call) (v : PlainValue) (b : Bool) → CallFits p c → value_agrees (arities p) v ≡ true → d.func ≡ c.func →
    (b ≡ true → d.slots.items ≡ slots_with c.wait v c.slots.items) → (b ≡ true → d.wait ≡ wait.Runs) → (b ≡ false → d ≡ c) → CallFits p d
fits_filled p c d v true h g f s r n = filled_fits p c d v h g f (r refl) (s refl)
fits_filled p c d v false h g f s r n = subst (CallFits p) (sym (n refl)) h

-- steps that were taken the way that is known
pub runs_as : (p : List (PlainItem ℕ)) (most : ℕ) {x y : Begun} (j : Journal) (a : Ask) (old new : List PlainHeld) → x ≡ y →
    RunsStill p most x j a old new → RunsStill p most y j a old new
runs_as p most j a old new is h = subst (λ (x : Begun). RunsStill p most x j a old new) is h

-- what is asked agrees, where nothing is
pub none_agrees : (p : List (PlainItem ℕ)) (a : Ask) → a ≡ asks_of.Nothing → ask_agrees (arities p) (plain_ask a) ≡ true
none_agrees p a none = ap (λ (b : Ask). ask_agrees (arities p) (plain_ask b)) none

-- a slice has begun the way that is known
pub begins_as : (p : List (PlainItem ℕ)) {x y : Begun} (j : Journal) (a : Ask) (old new spare : List PlainHeld) → x ≡ y →
    BeginsSlice p x j a old new spare → BeginsSlice p y j a old new spare
begins_as p j a old new spare is begins = subst (λ (x : Begun). BeginsSlice p x j a old new spare) is begins

-- where there is an error this holds, since it does anyway
pub err_anyway : {A E X : Type 0} → (r : Result A E) → X → OnErr r X
err_anyway (Ok a) x = tt
err_anyway (Err e) x = x

-- a slice of which no step was taken, where the spare became a copy of the whole stack
pub begun_whole : {E : Type 0} → (p : List (PlainItem ℕ)) (r : Result Begun E) (j : Journal) (a : Ask) (old new spare : List PlainHeld) → new ≡ old → a ≡ asks_of.Nothing → StackFits p old →
    IfOk r (λ b. (b ≡ begun_of.Goes 0) × (spare ≡ new)) → IfOk r (λ b. BeginsSlice p b j a old new spare)
begun_whole p (Ok b) j a old new spare same asks fits h =
    subst (λ (x : Begun). BeginsSlice p x j a old new spare) (sym h.0) (record {
      spare_is = h.1 ∙ same;
      asks = asks;
      fits = subst (StackFits p) (sym same) fits;
      within = omega arith;
      goes = λ self. ap (term_of p) (sym same);
    })
begun_whole p (Err e) j a old new spare same asks fits h = tt

abbrev pub machine_of : ℕ → List PlainHeld → PlainMachine
machine_of thread hs = record { thread = thread; stack = hs }

-- a machine whose stack is what it was
pub machine_was : {thread : ℕ} {now before : List PlainHeld} {m : PlainMachine} → now ≡ before → machine_of thread before ≡ m → machine_of thread now ≡ m
machine_was {thread = n} same view = ap (machine_of n) same ∙ view
