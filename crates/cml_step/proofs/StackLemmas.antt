-- A stack and its term.
use Rattle.std.proofs.Common.{◌≡◌, ℕ, zero, suc, ◌+◌, ◌<◌, true, List, [], ◌∷◌, ◌++◌, length, map, refl, ap, sym}
use Rattle.std.proofs.Common.{◌∙◌, subst, arith, get_or, Option, Some, None, Result, Ok, Err, false, slice_get}
use Rattle.std.proofs.Common.{reverse}
use Rattle.std.proofs.lemmas.List.{reverse-append}
use Rattle.std.proofs.Common.{length-append}
use Rattle.std.specs.Option.{option_map, is_some}
use Rattle.std.specs.Prelude.{IfOk, IsErrAnd}
use Rattle.std.proofs.lemmas.Bool.{and_parts, and_from}
use Rattle.cml_value.specs.Value.{PlainValue, PlainFunction, function, func_of, args_of, values}
use Rattle.cml_check.specs.Syntax.{PlainItem, no_stmts, stmts_map, name_at, written}
use Rattle.cml_step.specs.declared.call.Wait.{Wait}
use Rattle.cml_step.specs.declared.call.Wait.TheVariants as wait
use Rattle.cml_step.specs.declared.call.Call.{Call}
use Rattle.cml_step.specs.Variables.{bound}
use Rattle.cml_check.proofs.Walk.{left_start}
use Rattle.cml_step.specs.Calls.{statements_at, entry_in, entry_of, wait_of, text_of}
use Rattle.cml_check.specs.Heads.{takes}
use Rattle.cml_check.specs.InOrder.{arities}
use Rattle.cml_step.specs.Agrees.{function_agrees, values_count}
use Rattle.cml_step.specs.Calls.{WaitFits}
use Rattle.cml_check.specs.Names.{AreDistinct}
use Rattle.cml_step.specs.Agrees.{value_agrees, all_agree, ask_agrees}
use Rattle.cml_step.specs.Steps.{PlainStep, filled, delivered, goes_on, asks, next, wraps_step, pushed}
use Rattle.cml_step.specs.Terms.{runs}
use Rattle.cml_step.specs.Forced.{with_argument}
use Rattle.cml_step.specs.Calls.{entry_for, slots_with, MovesTo}
use Rattle.cml_step.proofs.CallLemmas.{filled_is, agree_filled, wait_room}
use Rattle.cml_step.proofs.AgreeLemmas.{all_values}
use Rattle.cml_step.proofs.ForceLemmas.{list_values}
use Rattle.cml_step.specs.declared.call.Action.{Action}
use Rattle.cml_step.specs.declared.call.Action.TheVariants as did
use Rattle.cml_step.specs.declared.entry.Entry.TheVariants as entry
use Rattle.cml_step.specs.Terms.{Program, StackEntry, call, wraps, Term, list_of, started, call_of}
use Rattle.cml_step.specs.Agrees.{functions_agree}
use Rattle.cml_step.specs.Machines.{PlainHeld, plain_held, held_entry, held_on, HeldFits, HeldFitsBeneath, name_count}
use Rattle.cml_step.specs.declared.entry.Entry.{Entry}
use Rattle.cml_step.specs.Shared.{topped, called, HasNoCallOnTop}
use Rattle.cml_step.specs.Stacks.{CallFits, term_of, EachBeneath, StackFits, IsStep, StepFits, IsDelivered, EntryStands}
use Rattle.cml_step.specs.Asks.{PlainAsk}
use Rattle.cml_step.specs.declared.ask.Ask.{Ask}
use Rattle.cml_step.specs.declared.ask.Ask.TheVariants as asks_of
use Rattle.cml_step.specs.AskViews.{plain_ask}
use Rattle.cml_step.specs.declared.fault.Stop.{Stop}
use Rattle.cml_step.specs.declared.fault.Stop.TheVariants as stop

term_on_pushed : (p : List (PlainItem ℕ)) (es : List PlainHeld) (e : PlainHeld) (below : Term) → held_on p (es ++ e ∷ []) below ≡ held_entry p e ∷ held_on p es below
term_on_pushed p [] e below = refl
term_on_pushed p (x ∷ es) e below = term_on_pushed p es e (held_entry p x ∷ below)

pub term_pushed : (p : List (PlainItem ℕ)) (es : List PlainHeld) (e : PlainHeld) → term_of p (es ++ e ∷ []) ≡ held_entry p e ∷ term_of p es
term_pushed p es e = term_on_pushed p es e []

term_on_length : (p : List (PlainItem ℕ)) (es : List PlainHeld) (below : Term) → length (held_on p es below) ≡ length es + length below
term_on_length p [] below = omega arith
term_on_length p (e ∷ es) below = omega (arith, term_on_length p es (held_entry p e ∷ below))

pub term_length : (p : List (PlainItem ℕ)) (es : List PlainHeld) → length (term_of p es) ≡ length es
term_length p es = omega (arith, term_on_length p es [])

pub fits_pushed : (p : List (PlainItem ℕ)) (es : List PlainHeld) (e : PlainHeld) → EachBeneath p es → HeldFits p e → StackFits p (es ++ e ∷ [])
fits_pushed p [] e h f = f
fits_pushed p (x ∷ []) e h f = (h.0, f)
fits_pushed p (x ∷ y ∷ es) e h f = (h.0, fits_pushed p (y ∷ es) e h.1 f)

pub fits_popped : (p : List (PlainItem ℕ)) (es : List PlainHeld) (e : PlainHeld) → StackFits p (es ++ e ∷ []) → EachBeneath p es × HeldFits p e
fits_popped p [] e h = (tt, h)
fits_popped p (x ∷ []) e h = ((h.0, tt), h.1)
fits_popped p (x ∷ y ∷ es) e h = let r = fits_popped p (y ∷ es) e h.1 in ((h.0, r.0), r.1)

pub beneath_pushed : (p : List (PlainItem ℕ)) (es : List PlainHeld) (e : PlainHeld) → EachBeneath p es → HeldFitsBeneath p e → EachBeneath p (es ++ e ∷ [])
beneath_pushed p [] e h f = (f, tt)
beneath_pushed p (x ∷ es) e h f = (h.0, beneath_pushed p es e h.1 f)

pub beneath_popped : (p : List (PlainItem ℕ)) (es : List PlainHeld) (e : PlainHeld) → EachBeneath p (es ++ e ∷ []) → EachBeneath p es × HeldFitsBeneath p e
beneath_popped p [] e h = (tt, h.0)
beneath_popped p (x ∷ es) e h = let r = beneath_popped p es e h.1 in ((h.0, r.0), r.1)

text_at : (p : List (PlainItem ℕ)) (g : ℕ) (o : Option (PlainItem ℕ)) → slice_get p g ≡ o → slice_get (map written p) g ≡ option_map written o
text_at [] g o e = ap (option_map written) e
text_at (x ∷ xs) zero o e = ap (option_map written) e
text_at (x ∷ xs) (suc g) o e = text_at xs g o e

begun_in : (o : Option (PlainItem ℕ)) (vs : List PlainValue) (c : Call) → c.at ≡ 0 → c.slots.items ≡ vs → c.wait ≡ wait.Runs →
    entry_in o c ≡ started (option_map written o) vs
begun_in (Some f) vs c a s w =
    ap (λ n. call (statements_at f n) (bound f.names c.slots.items) (wait_of f.names c.wait)) a
    ∙ ap (λ ss. call (stmts_map (name_at f.names) ss) (bound f.names c.slots.items) (wait_of f.names c.wait)) (left_start f.body)
    ∙ ap (λ ws. call (stmts_map (name_at f.names) f.body) (bound f.names ws) (wait_of f.names c.wait)) s
    ∙ ap (λ d. call (stmts_map (name_at f.names) f.body) (bound f.names vs) (wait_of f.names d)) w
begun_in None vs c a s w = ap (λ d. call no_stmts [] (wait_of [] d)) w

-- a call of a function at its beginning
pub begun : (p : List (PlainItem ℕ)) (vs : List PlainValue) (c : Call) → c.at ≡ 0 → c.slots.items ≡ vs → c.wait ≡ wait.Runs →
    entry_of p c ≡ call_of (text_of p) (function c.func (values vs))
begun p vs c a s w =
    begun_in (slice_get p c.func) vs c a s w
    ∙ ap (λ ws. started (option_map written (slice_get p c.func)) ws) (sym (list_values vs))
    ∙ ap (λ o. started o (list_of (values vs))) (sym (text_at p c.func (slice_get p c.func) refl))

there : (fs : List (PlainItem ℕ)) (g n : ℕ) → takes (arities fs) g n ≡ true → g < length fs
there [] g n h = absurd (cc)
there (f ∷ fs) zero n h = omega arith
there (f ∷ fs) (suc g) n h = let l = there fs g n h in omega (arith, l)

-- such a call is one of the program's
pub begun_fits : (p : List (PlainItem ℕ)) (c : Call) → function_agrees (arities p) 0 (function c.func (values c.slots.items)) ≡ true → c.wait ≡ wait.Runs → CallFits p c
begun_fits p c h w = record {
  there = there p c.func _ (and_parts _ _ h).0;
  agree = sym (all_values (arities p) c.slots.items) ∙ (and_parts (takes (arities p) c.func (values_count (values c.slots.items) + 0)) _ h).1;
  waits = subst (λ d. WaitFits d (name_count (slice_get p c.func)) (length c.slots.items)) (sym w) tt;
}

-- the same of a call that begins with the values that the function has captured
pub begun_by : (p : List (PlainItem ℕ)) (f : PlainFunction) (c : Call) → c.func ≡ func_of f → values c.slots.items ≡ args_of f → c.at ≡ 0 → c.wait ≡ wait.Runs →
    entry_of p c ≡ call_of (text_of p) f
begun_by p (function g us) c e a t w =
    begun p c.slots.items c t refl w ∙ ap (λ ws. call_of (text_of p) (function c.func ws)) a ∙ ap (λ n. call_of (text_of p) (function n us)) e

pub begun_by_fits : (p : List (PlainItem ℕ)) (f : PlainFunction) (c : Call) → c.func ≡ func_of f → values c.slots.items ≡ args_of f → c.wait ≡ wait.Runs →
    function_agrees (arities p) 0 f ≡ true → CallFits p c
begun_by_fits p (function g us) c e a w h =
    begun_fits p c (ap (λ ws. function_agrees (arities p) 0 (function c.func ws)) a ∙ ap (λ n. function_agrees (arities p) 0 (function n us)) e ∙ h) w

-- a call, and the same once the value has come that it waited for
pub filled_fits : (p : List (PlainItem ℕ)) (c d : Call) (v : PlainValue) → CallFits p c → value_agrees (arities p) v ≡ true → d.func ≡ c.func → d.wait ≡ wait.Runs →
    d.slots.items ≡ slots_with c.wait v c.slots.items → CallFits p d
filled_fits p c d v h g e w s = record {
  there = subst (λ n. n < length p) (sym e) h.there;
  agree = ap (all_agree (arities p)) s ∙ agree_filled (arities p) c.slots.items c.wait v h.agree g;
  waits = subst (λ x. WaitFits x (name_count (slice_get p d.func)) (length d.slots.items)) (sym w) tt;
}

pub filled_room : (p : List (PlainItem ℕ)) (c : Call) → CallFits p c → WaitFits c.wait (length c.slots.items) (length c.slots.items)
filled_room p c h = wait_room c.wait _ _ h.waits

pub fun_at : (p : List (PlainItem ℕ)) (g : ℕ) (f : PlainItem ℕ) → g < length p → f ≡ get_or p g f → slice_get p g ≡ Some f
fun_at [] g f l e = absurd (omega arith)
fun_at (x ∷ xs) zero f l e = cc
fun_at (x ∷ xs) (suc g) f l e = fun_at xs g f (omega arith) e

pub filled_for : (f : PlainItem ℕ) (c d : Call) (v : PlainValue) → AreDistinct f.names → WaitFits c.wait (length f.names) (length c.slots.items) →
    (d.func ≡ c.func) × (d.at ≡ c.at) → d.wait ≡ wait.Runs → d.slots.items ≡ slots_with c.wait v c.slots.items →
    entry_for f d ≡ call (statements_at f c.at) (filled (wait_of f.names c.wait) v (bound f.names c.slots.items)) runs
filled_for f c d v i h e w s =
    ap (λ n. call (statements_at f n) (bound f.names d.slots.items) (wait_of f.names d.wait)) e.1
    ∙ ap (λ x. call (statements_at f c.at) (bound f.names d.slots.items) (wait_of f.names x)) w
    ∙ ap (λ x. call (statements_at f c.at) x runs) (ap (bound f.names) s ∙ sym (filled_is f.names c.slots.items c.wait v i h))

-- what delivering to it comes to
pub delivered_call : (p : List (PlainItem ℕ)) (f : PlainItem ℕ) (c d : Call) (v : PlainValue) (below : Term) → CallFits p c → f ≡ get_or p c.func f → AreDistinct f.names →
    (d.func ≡ c.func) × (d.at ≡ c.at) → d.wait ≡ wait.Runs → d.slots.items ≡ slots_with c.wait v c.slots.items →
    delivered v (entry_of p c ∷ below) ≡ goes_on (entry_of p d ∷ below)
delivered_call p f c d v below h g i e w s =
    let o : slice_get p c.func ≡ Some f = fun_at p c.func f h.there g in
    let room : WaitFits c.wait (length f.names) (length c.slots.items) = subst (λ x. WaitFits c.wait (name_count x) (length c.slots.items)) o h.waits in
    let q : entry_of p d ≡ entry_for f d = ap (λ n. entry_in (slice_get p n) d) e.0 ∙ ap (λ x. entry_in x d) o in
    ap (λ x. delivered v (entry_in x c ∷ below)) o ∙ ap (λ x. goes_on (x ∷ below)) (sym (q ∙ filled_for f c d v i room e w s))

-- an entry put on top, with what it waits for
pub pushed_is : (p : List (PlainItem ℕ)) (es fs : List PlainHeld) (e : PlainHeld) → fs ≡ es ++ e ∷ [] → term_of p fs ≡ held_entry p e ∷ term_of p es
pushed_is p es fs e h = ap (term_of p) h ∙ term_pushed p es e

-- the entry of a call of this function
pub entry_is : (p : List (PlainItem ℕ)) (f : PlainItem ℕ) (c d : Call) → c.func < length p → f ≡ get_or p c.func f → d.func ≡ c.func → entry_of p d ≡ entry_for f d
entry_is p f c d l g e = ap (λ n. entry_in (slice_get p n) d) e ∙ ap (λ x. entry_in x d) (fun_at p c.func f l g)

-- a call that has made a step is one of the program's still
pub moved_fits : (p : List (PlainItem ℕ)) (f : PlainItem ℕ) (c d : Call) → c.func < length p → f ≡ get_or p c.func f → d.func ≡ c.func →
    all_agree (arities p) d.slots.items ≡ true → WaitFits d.wait (length f.names) (length d.slots.items) → CallFits p d
moved_fits p f c d l g e a w = record {
  there = subst (λ n. n < length p) (sym e) l;
  agree = a;
  waits = subst (λ x. WaitFits d.wait (name_count x) (length d.slots.items)) (sym (ap (slice_get p) e ∙ fun_at p c.func f l g)) w;
}

-- the last function is the next
pub last_next : (fs : List PlainFunction) (f : PlainFunction) → reverse (fs ++ f ∷ []) ≡ f ∷ reverse fs
last_next fs f = reverse-append fs (f ∷ [])

pub wraps_popped : (counts : List ℕ) (fs : List PlainFunction) (f : PlainFunction)
    → functions_agree counts (fs ++ f ∷ []) ≡ true → (functions_agree counts fs ≡ true)
    × (function_agrees counts 1 f ≡ true)
wraps_popped counts [] f h = (refl, (and_parts _ _ h).0)
wraps_popped counts (x ∷ fs) f h = let r = wraps_popped counts fs f (and_parts (function_agrees counts 1 x) _ h).1 in (and_from _ _ (and_parts _ _ h).0 r.0, r.1)

-- a call that waits takes no step
waiting_in : (p : Program) (self : ℕ) (o : Option (PlainItem ℕ)) (c : Call) (w : Wait) (below : Term) → c.wait ≡ w → (w ≡ wait.Runs → ⊥) →
    next p self (entry_in o c ∷ below) ≡ goes_on (entry_in o c ∷ below)
waiting_in p self o c wait.Runs below e h = absurd (h refl)
waiting_in p self (Some f) c wait.Drops below e h =
    ap (λ w. next p self (call (statements_at f c.at) (bound f.names c.slots.items) (wait_of f.names w) ∷ below)) e
    ∙ ap (λ w. goes_on (call (statements_at f c.at) (bound f.names c.slots.items) (wait_of f.names w) ∷ below)) (sym e)
waiting_in p self (Some f) c (wait.Gives s) below e h =
    ap (λ w. next p self (call (statements_at f c.at) (bound f.names c.slots.items) (wait_of f.names w) ∷ below)) e
    ∙ ap (λ w. goes_on (call (statements_at f c.at) (bound f.names c.slots.items) (wait_of f.names w) ∷ below)) (sym e)
waiting_in p self None c wait.Drops below e h =
    ap (λ w. next p self (call no_stmts [] (wait_of [] w) ∷ below)) e ∙ ap (λ w. goes_on (call no_stmts [] (wait_of [] w) ∷ below)) (sym e)
waiting_in p self None c (wait.Gives s) below e h =
    ap (λ w. next p self (call no_stmts [] (wait_of [] w) ∷ below)) e ∙ ap (λ w. goes_on (call no_stmts [] (wait_of [] w) ∷ below)) (sym e)

pub waiting : (p : List (PlainItem ℕ)) (self : ℕ) (c : Call) (below : Term) → (c.wait ≡ wait.Runs → ⊥) → next (text_of p) self (entry_of p c ∷ below) ≡ goes_on (entry_of p c ∷ below)
waiting p self c below h = waiting_in (text_of p) self (slice_get p c.func) c c.wait below refl h

-- the same of wraps in progress
pub next_wrap : (p : Program) (self : ℕ) (all left : List PlainFunction) (f : PlainFunction) (v : PlainValue) (below : Term) → all ≡ left ++ f ∷ [] →
    wraps_step p (reverse all) v below ≡ pushed (call_of p (with_argument f v)) (wraps (reverse left) v ∷ below)
next_wrap p self all left f v below h = ap (λ fs. wraps_step p fs v below) (ap reverse h ∙ last_next left f)

-- the top entry, and those below it
pub top_and_rest : (es fs : List PlainHeld) (e f : PlainHeld) → es ++ e ∷ [] ≡ fs ++ f ∷ [] → (es ≡ fs) × (e ≡ f)
top_and_rest [] [] e f h = (refl, cc)
top_and_rest [] (y ∷ []) e f h = absurd (cc)
top_and_rest [] (y ∷ z ∷ fs) e f h = absurd (cc)
top_and_rest (x ∷ []) [] e f h = absurd (cc)
top_and_rest (x ∷ y ∷ es) [] e f h = absurd (cc)
top_and_rest (x ∷ es) (y ∷ fs) e f h = let t : es ++ e ∷ [] ≡ fs ++ f ∷ [] = cc in let r = top_and_rest es fs e f t in let i : x ≡ y = cc in (ap (λ z. z ∷ es) i ∙ ap (λ zs. y ∷ zs) r.0, r.1)

pub nothing_on_top : (es : List PlainHeld) (e : PlainHeld) → es ++ e ∷ [] ≡ [] → ⊥
nothing_on_top [] e h = cc
nothing_on_top (x ∷ es) e h = cc

-- entries without a call on top
pub no_call_in_none : (hs : List PlainHeld) → hs ≡ [] → HasNoCallOnTop hs
unfolding HasNoCallOnTop
no_call_in_none hs e = λ gs c is. nothing_on_top gs (plain_held (entry.Call c)) (sym is ∙ e)

pub no_call_on : (hs es : List PlainHeld) (h : PlainHeld) → es ≡ hs ++ h ∷ [] → ((c : Call) → h ≡ plain_held (entry.Call c) → ⊥) → HasNoCallOnTop es
unfolding HasNoCallOnTop
no_call_on hs es h e other = λ gs c is. other c (top_and_rest hs gs h (plain_held (entry.Call c)) (sym e ∙ is)).1

-- a stack with this entry on top
pub stands_fits : (p : List (PlainItem ℕ)) (es hs : List PlainHeld) (h : PlainHeld) → es ≡ hs ++ h ∷ [] → EachBeneath p hs → HeldFits p h → StackFits p es
stands_fits p es hs h e b f = subst (StackFits p) (sym e) (fits_pushed p hs h b f)

pub stands_beneath : (p : List (PlainItem ℕ)) (es hs : List PlainHeld) (h : PlainHeld) → es ≡ hs ++ h ∷ [] → EachBeneath p hs → HeldFitsBeneath p h → EachBeneath p es
stands_beneath p es hs h e b f = subst (EachBeneath p) (sym e) (beneath_pushed p hs h b f)

-- a call stands as well beneath another entry as on top, and so do wraps
pub call_stands : (p : List (PlainItem ℕ)) (a : Action) (c : Call) → CallFits p c → EntryStands p a (plain_held (entry.Call c))
call_stands p did.Goes c h = h
call_stands p (did.Calls g args) c h = h
call_stands p (did.Forces e) c h = h
call_stands p (did.Returns v) c h = tt
call_stands p (did.Asks a) c h = h
call_stands p did.Ends c h = tt

-- what comes of what the entry on top did
pub stands_on : (p : List (PlainItem ℕ)) (es hs : List PlainHeld) (h : PlainHeld) (a : PlainAsk) (step : PlainStep) → es
    ≡ hs ++ h ∷ [] → step ≡ asks a (held_entry p h ∷ term_of p hs) → step ≡ asks a (term_of p es)
stands_on p es hs h a step e m = m ∙ ap (asks a) (sym (pushed_is p hs es h e))

-- that entry has put another on top, and asks nothing
pub stands_under : (p : List (PlainItem ℕ)) (es new hs : List PlainHeld) (h : PlainHeld) (e : StackEntry) (r : Result (Unit {0}) Stop) (a : Ask) (step : PlainStep) → es ≡ hs ++ h ∷ [] →
    step ≡ pushed e (held_entry p h ∷ term_of p hs) → a ≡ asks_of.Nothing → IsStep p r asks_of.Nothing (pushed e (term_of p es)) new → IsStep p r a step new
stands_under p es new hs h e r a step q m n i =
    subst (λ (b : Ask). IsStep p r b step new) (sym n) (subst (λ (s : PlainStep). IsStep p r asks_of.Nothing s new) (ap (pushed e) (pushed_is p hs es h q) ∙ sym m) i)

-- a step that could not be taken
pub moved_failed : (p : List (PlainItem ℕ)) (e : Stop) (new : StackEntry) (below : Term) (a : Ask) (step : PlainStep)
    (es : List PlainHeld) → MovesTo p (Err e) new below step → IsStep p (Err e) a step es
moved_failed p (stop.Fault why) new below a step es h = h
moved_failed p stop.Memory new below a step es h = tt

-- a value that was delivered to the entry on top
pub delivered_on : (p : List (PlainItem ℕ)) (old new hs : List PlainHeld) (h g : PlainHeld) (v : PlainValue) → old ≡ hs ++ h ∷ [] → new ≡ hs ++ g ∷ [] →
    delivered v (held_entry p h ∷ term_of p hs) ≡ goes_on (held_entry p g ∷ term_of p hs) → delivered v (term_of p old) ≡ goes_on (term_of p new)
delivered_on p old new hs h g v e f s = ap (delivered v) (pushed_is p hs old h e) ∙ s ∙ ap goes_on (sym (pushed_is p hs new g f))

-- the same, where it could be at fault
pub delivered_step : (p : List (PlainItem ℕ)) (old new hs : List PlainHeld) (h g : PlainHeld) (v : PlainValue)
    (r : Result (Unit {0}) Stop) (a : Ask) → old ≡ hs ++ h ∷ [] → new ≡ hs ++ g ∷ [] → a ≡ asks_of.Nothing →
    IsDelivered r (held_entry p g) (term_of p hs) (delivered v (held_entry p h ∷ term_of p hs)) → IsStep p r a (delivered v (term_of p old)) new
delivered_step p old new hs h g v (Ok done) a e f n s = delivered_on p old new hs h g v e f s ∙ ap (λ b. asks (plain_ask b) (term_of p new)) (sym n)
delivered_step p old new hs h g v (Err (stop.Fault why)) a e f n s = ap (delivered v) (pushed_is p hs old h e) ∙ s
delivered_step p old new hs h g v (Err stop.Memory) a e f n s = tt

pub delivered_fits : (p : List (PlainItem ℕ)) (new hs : List PlainHeld) (g : PlainHeld) (r : Result (Unit {0}) Stop) (a : Ask) → new ≡ hs ++ g ∷ [] → a ≡ asks_of.Nothing → EachBeneath p hs →
    IfOk r (λ _. HeldFits p g) → StepFits p r a new
delivered_fits p new hs g (Ok done) a f n b s = (stands_fits p new hs g f b s, ap (λ b. ask_agrees (arities p) (plain_ask b)) n)
delivered_fits p new hs g (Err e) a f n b s = tt

-- how many entries there are below the one on top
pub count_under : (p : List (PlainItem ℕ)) (old hs : List PlainHeld) (h : PlainHeld) (n : ℕ) → old ≡ hs ++ h ∷ [] → n ≡ length old → length (term_of p hs) + 1 ≡ n
count_under p old hs h n e l = let m = ap length e in omega (arith, term_length p hs, length-append hs (h ∷ []), m, l)

-- an error that is passed on
pub same_error : (p : List (PlainItem ℕ)) (r : Result (Unit {0}) Stop) (e : Stop) (a : Ask) (step : PlainStep)
    (es : List PlainHeld) → IsErrAnd r (λ x. x ≡ e) → IsStep p (Err e) a step es → IsStep p r a step es
same_error p (Ok done) e a step es h i = absurd h
same_error p (Err x) e a step es h i = subst (λ (y : Stop). IsStep p (Err y) a step es) (sym h) i

-- the top one was lifted from below
pub dropped_lifted : {E : Type 0} (below : List PlainHeld) (own : Option Call) (over : Option Entry) (old new : List PlainHeld) (r : Result (Unit {0}) E) → topped (called below own) over ≡ old →
    is_some over ≡ true → is_some own ≡ false → IfOk r (λ _. new ≡ below) → IfOk r (λ _. (hs : List PlainHeld) (h : PlainHeld) → old ≡ hs ++ h ∷ [] → new ≡ hs)
dropped_lifted below own None old new r v s n g = absurd (cc)
dropped_lifted below (Some c) (Some o) old new r v s n g = absurd (cc)
dropped_lifted below None (Some o) old new (Err x) v s n g = tt
dropped_lifted below None (Some o) old new (Ok x) v s n g = λ hs h e. g ∙ (top_and_rest below hs (plain_held o) h (v ∙ e)).0

-- nothing stands over the call
pub nothing_over : (over : Option Entry) → ((e : Entry) → over ≡ Some e → ⊥) → over ≡ None
nothing_over None n = refl
nothing_over (Some e) n = absurd (n e refl)

pub none_over : (over : Option Entry) → is_some over ≡ false → over ≡ None
none_over None n = refl
none_over (Some e) n = absurd (cc)
