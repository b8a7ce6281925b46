-- Calls and returns within a run of steps.
use Rattle.std.proofs.Common.{◌≡◌, ℕ, zero, suc, ◌+◌, ◌-◌, ◌<◌, Bool, true, nat_lt, List, [], ◌∷◌, ◌++◌, length, reverse, refl, ap, sym, ◌∙◌, subst, arith, Some, Ok, slice_get}
use Rattle.std.specs.Prelude.{if◌then◌else◌}
use Rattle.std.proofs.lemmas.Bool.Decides.{nat_tests}
use Rattle.std.proofs.lemmas.List.{reverse-append}
use Rattle.cml_value.specs.Value.{PlainValue, function, values}
use Rattle.cml_check.specs.Syntax.{PlainItem}
use Rattle.cml_check.specs.InOrder.{arities}
use Rattle.cml_check.specs.Heads.{takes}
use Rattle.cml_step.specs.declared.call.Wait.TheVariants as wait
use Rattle.cml_step.specs.declared.call.Call.{Call}
use Rattle.cml_step.specs.declared.entry.Entry.TheVariants as entry
use Rattle.cml_step.specs.declared.fault.Fault.TheVariants.{Stack}
use Rattle.cml_step.specs.Agrees.{all_agree}
use Rattle.cml_step.specs.Callers.{calls_on, AllCallsFit, HasRoomAbove}
use Rattle.cml_step.specs.Calls.{entry_for, entry_in, entry_of, text_of, WaitFits}
use Rattle.cml_step.specs.Faults.{Found}
use Rattle.cml_step.specs.Machines.{PlainHeld, plain_held, wraps, AreWrapsOf, name_count}
use Rattle.cml_step.specs.Slices.{GoesIn}
use Rattle.cml_step.specs.Stacks.{CallFits, EachBeneath, StackFits, term_of}
use Rattle.cml_step.specs.Steps.{goes_on, fails, ◌>>=◌, is_below_limit, pushed, next, delivered}
use Rattle.cml_step.specs.Terms.{Program, StackEntry, Term, max_entries, call_of}
use Rattle.cml_step.proofs.AgreeLemmas.{called_agrees}
use Rattle.cml_step.proofs.SliceLemmas.{goes_more}
use Rattle.cml_step.proofs.StackLemmas.{begun, begun_fits, term_pushed, pushed_is, fits_popped, beneath_pushed, beneath_popped}

-- one more call on top
pub on_pushed : (p : List (PlainItem ℕ)) (cs : List Call) (c : Call) (below : Term) → calls_on p (cs ++ c ∷ []) below ≡ entry_of p c ∷ calls_on p cs below
on_pushed p [] c below = refl
on_pushed p (x ∷ cs) c below = on_pushed p cs c (entry_of p x ∷ below)

pub fit_pushed : (p : List (PlainItem ℕ)) (cs : List Call) (c : Call) → AllCallsFit p cs → CallFits p c → AllCallsFit p (cs ++ c ∷ [])
fit_pushed p [] c h f = (f, tt)
fit_pushed p (x ∷ cs) c h f = (h.0, fit_pushed p cs c h.1 f)

pub fit_popped : (p : List (PlainItem ℕ)) (cs : List Call) (c : Call) → AllCallsFit p (cs ++ c ∷ []) → AllCallsFit p cs × CallFits p c
fit_popped p [] c h = (tt, h.0)
fit_popped p (x ∷ cs) c h = let r = fit_popped p cs c h.1 in ((h.0, r.0), r.1)

on_length : (p : List (PlainItem ℕ)) (cs : List Call) (below : Term) → length (calls_on p cs below) ≡ length cs + length below
on_length p [] below = omega arith
on_length p (c ∷ cs) below = omega (arith, on_length p cs (entry_of p c ∷ below))

pub lower : (m n : ℕ) → m < n → nat_lt m n ≡ true
lower m n h = grind (arith, nat_tests)

-- where there is room, there is room for one more call
pub below_limit : (p : List (PlainItem ℕ)) (cs : List Call) (room : ℕ) (e : StackEntry) (below : Term) → length cs < room → HasRoomAbove room below → is_below_limit (e ∷ calls_on p cs below) ≡ true
below_limit p cs room e below h r = lower (length (e ∷ calls_on p cs below)) max_entries (omega (arith, on_length p cs below, r (length cs) h))

-- what is left of the limit
pub room_left : (room beneath : ℕ) (below : Term) → room ≡ 1023 - beneath → length below ≡ beneath → HasRoomAbove room below
room_left room beneath below r b = λ n h. omega (arith, r, b, h)

pub put : (e : StackEntry) (below : Term) → is_below_limit below ≡ true → pushed e below ≡ goes_on (e ∷ below)
put e below room = ap (λ (b : Bool). if b then goes_on (e ∷ below) else fails Stack) room

-- a call that is made where there is room
pub call_made : (p : List (PlainItem ℕ)) (found : Found (List PlainValue)) (c : Call) (below : Term) → found ≡ Ok c.slots.items → c.at ≡ 0 → c.wait ≡ wait.Runs → is_below_limit below ≡ true →
    (found >>= λ vs. pushed (call_of (text_of p) (function c.func (values vs))) below) ≡ goes_on (entry_of p c ∷ below)
call_made p found c below is at runs room =
    ap (λ (r : Found (List PlainValue)). r >>= λ vs. pushed (call_of (text_of p) (function c.func (values vs))) below) is
    ∙ put (call_of (text_of p) (function c.func (values c.slots.items))) below room
    ∙ ap (λ e. goes_on (e ∷ below)) (sym (begun p c.slots.items c at refl runs))

pub made_fits : (p : List (PlainItem ℕ)) (c : Call) (n : ℕ) → takes (arities p) c.func n ≡ true → length c.slots.items
    ≡ n → all_agree (arities p) c.slots.items ≡ true → c.wait ≡ wait.Runs → CallFits p c
made_fits p c n t l h w = begun_fits p c (called_agrees (arities p) c.func n c.slots.items t l h) w

-- the entry of a call of this function
pub entry_there : (p : List (PlainItem ℕ)) (f : PlainItem ℕ) (c : Call) → slice_get p c.func ≡ Some f → entry_of p c ≡ entry_for f c
entry_there p f c h = ap (λ o. entry_in o c) h

-- a call that agrees, and waits for nothing that has no place
pub fits_there : (p : List (PlainItem ℕ)) (f : PlainItem ℕ) (c : Call) → c.func < length p → slice_get p c.func ≡ Some f → all_agree (arities p) c.slots.items ≡ true →
    WaitFits c.wait (length f.names) (length c.slots.items) → CallFits p c
fits_there p f c l h a w = record { there = l; agree = a; waits = subst (λ x. WaitFits c.wait (name_count x) (length c.slots.items)) (sym h) w }

pub runs_fits : (p : List (PlainItem ℕ)) (c : Call) → c.func < length p → all_agree (arities p) c.slots.items ≡ true → c.wait ≡ wait.Runs → CallFits p c
runs_fits p c l a w = record { there = l; agree = a; waits = subst (λ d. WaitFits d (name_count (slice_get p c.func)) (length c.slots.items)) (sym w) tt }

-- these steps, and then those
pub goes_then : (p : Program) (self n m : ℕ) (t u v : Term) → GoesIn p self n t u → GoesIn p self m u v → GoesIn p self (n + m) t v
goes_then p self n zero t u v g h = subst (λ k. GoesIn p self k t v) (same n) (subst (λ (x : Term). GoesIn p self n t x) h g)
  where
    same : (n : ℕ) → n ≡ n + 0
    same n = omega arith
goes_then p self n (suc m) t u v g h = subst (λ k. GoesIn p self k t v) (later n m) (goes_then p self (n + 1) m t h.0 v (goes_more p self n t u h.0 g h.1) h.2)
  where
    later : (a b : ℕ) → a + 1 + b ≡ a + suc b
    later a b = omega arith

-- calls that were laid below, one after another
pub laid_term : (p : List (PlainItem ℕ)) (left : List Call) (c : Call) (hs : List PlainHeld)
    → calls_on p (reverse (left ++ c ∷ [])) (term_of p hs)
    ≡ calls_on p (reverse left) (term_of p (hs ++ plain_held (entry.Call c) ∷ []))
laid_term p left c hs =
    ap (λ cs. calls_on p cs (term_of p hs)) (reverse-append left (c ∷ []))
    ∙ ap (λ t. calls_on p (reverse left) t) (sym (term_pushed p hs (plain_held (entry.Call c))))

pub laid_fits : (p : List (PlainItem ℕ)) (left : List Call) (c : Call) (hs : List PlainHeld) → EachBeneath p hs × AllCallsFit p (reverse (left ++ c ∷ [])) →
    EachBeneath p (hs ++ plain_held (entry.Call c) ∷ []) × AllCallsFit p (reverse left)
laid_fits p left c hs h =
    let f : CallFits p c × AllCallsFit p (reverse left) = subst (AllCallsFit p) (reverse-append left (c ∷ [])) h.1 in
    (beneath_pushed p hs (plain_held (entry.Call c)) h.0 f.0, f.1)

-- wraps of which no function is left, over a call: their value goes to it
pub under_wraps : (p : List (PlainItem ℕ)) (hs : List PlainHeld) (c : Call) (v : PlainValue) → StackFits p ((hs ++ plain_held (entry.Call c) ∷ []) ++ wraps [] v ∷ []) →
    EachBeneath p hs × CallFits p c × AreWrapsOf p [] v
under_wraps p hs c v h =
    let r = fits_popped p (hs ++ plain_held (entry.Call c) ∷ []) (wraps [] v) h in
    let s = beneath_popped p hs (plain_held (entry.Call c)) r.0 in (s.0, s.1, r.1)

pub value_through : (p : List (PlainItem ℕ)) (self : ℕ) (hs all : List PlainHeld) (c d : Call) (v : PlainValue) → all ≡ (hs ++ plain_held (entry.Call c) ∷ []) ++ wraps [] v ∷ [] →
    ((below : Term) → delivered v (entry_of p c ∷ below) ≡ goes_on (entry_of p d ∷ below)) → next (text_of p) self (term_of p all) ≡ goes_on (term_of p (hs ++ plain_held (entry.Call d) ∷ []))
value_through p self hs all c d v is goes =
    ap (λ t. next (text_of p) self t) (pushed_is p (hs ++ plain_held (entry.Call c) ∷ []) all (wraps [] v) is)
    ∙ ap (λ t. delivered v t) (term_pushed p hs (plain_held (entry.Call c)))
    ∙ goes (term_of p hs)
    ∙ ap goes_on (sym (term_pushed p hs (plain_held (entry.Call d))))
