-- Each event that a thread of a run forces came from one that the thread handed to sync: what holds of its stack, step by step.
use Rattle.std.proofs.Common.{◌≡◌, ℕ, Bool, true, false, if◌then◌else◌, List, [], ◌∷◌, Option, Some, None, Ok, Err, refl, ap, sym, ◌∙◌, subst}
use Rattle.std.specs.Prelude.{slice_get}
use Rattle.cml_value.specs.Value.{PlainValue, unit, thread, event, PlainFunction, function, PlainEvent, guard, scope, values}
use Rattle.cml_value.specs.Value as value_of_kind
use Rattle.cml_value.specs.Value.{PlainEvents, events_and}
use Rattle.cml_value.specs.Group.{PlainGroup}
use Rattle.cml_value.specs.Limits.{event_fits}
use Rattle.cml_group.specs.Force.{PlainNeed, calls, needs_nack, unforced, unforced_of_all, or_else, where_found, replaced, replaced_in_all, given_nack}
use Rattle.cml_check.specs.declared.syntax.Act.{Act}
use Rattle.cml_check.specs.declared.syntax.Act.TheVariants as act_of
use Rattle.cml_check.specs.declared.syntax.ActOnOne.{ActOnOne}
use Rattle.cml_check.specs.declared.syntax.ActOnOne.TheVariants as one_of
use Rattle.cml_check.specs.declared.syntax.ActOnTwo.{ActOnTwo}
use Rattle.cml_check.specs.declared.syntax.ActOnTwo.TheVariants as two_of
use Rattle.cml_check.specs.Syntax.{PlainExpr, PlainEffect, act, act_on_one, act_on_two, PlainSource, value, effect, Name}
use Rattle.cml_check.specs.Syntax.{PlainItem, PlainStmt, let_be, set_to, just_do, if_so, while_so, return_with, PlainStmts, no_stmts, stmts_and}
use Rattle.cml_check.specs.Syntax as syntax
use Rattle.cml_schedule.specs.declared.item.Item.{Item}
use Rattle.cml_step.specs.declared.fault.Fault.{Fault}
use Rattle.cml_step.specs.declared.fault.Fault.TheVariants as fault
use Rattle.cml_step.specs.Faults.{Found}
use Rattle.cml_step.specs.Kinds.{as_truth, as_event, as_ivar, as_mvar, as_mailbox, as_mchan, as_port}
use Rattle.cml_step.specs.Variables.{Variables, value_of}
use Rattle.cml_step.specs.Evaluate.{evaluate, evaluate_all}
use Rattle.cml_step.specs.Terms.{Program, PlainWait, runs, drops, gives, StackEntry, call, force, wraps, Term, started, call_of}
use Rattle.cml_step.specs.Asks as ask
use Rattle.cml_step.specs.Asks.{PlainAsk, PlainAnswer, a_value, a_nack, a_commit}
use Rattle.cml_step.specs.Answers.{with_nack_number, after_answer}
use Rattle.cml_step.specs.Forced.{group_of, with_argument}
use Rattle.cml_step.specs.Steps.{PlainStep, goes_on, asks, ends, fails, ◌>>=◌, is_below_limit, pushed, forced_on, delivered}
use Rattle.cml_step.specs.Steps.{act_step, one_step, two_step, effect_step, statement_step, call_step, force_step, wraps_step, next}
use Rattle.cml_rules.specs.Acts.{ForcesTo}
use Rattle.cml_rules.specs.Waiting.{ComesBy, IsSync, dropped, named, HandsToSync, HasReturned}
use Rattle.cml_rules.proofs.Forcing.{forces_in_turn}

-- From the one event to the other by answers: events that functions returned, and nacks.
pub data LeadsBy (R : PlainFunction → PlainEvent → Type 0) (first : PlainEvent) : PlainEvent → Type 0 where
  as_it_is : LeadsBy R first first
  by_call : (e new : PlainEvent) (f : PlainFunction) → LeadsBy R first e → unforced e ≡ Some (calls f) → R f new → LeadsBy R first (replaced new e)
  by_nack : (e : PlainEvent) (f : PlainFunction) (k : ℕ) → LeadsBy R first e → unforced e ≡ Some (needs_nack f) → LeadsBy R first (replaced (scope k (guard (given_nack k f))) e)

pub leads_forced : (R : PlainFunction → PlainEvent → Type 0) (now : ℕ) (g : PlainGroup) (first e : PlainEvent) → LeadsBy R first e → ForcesTo R now e g → ForcesTo R now first g
leads_forced R now g first e as_it_is d = d
leads_forced R now g first e (by_call x new f l u r) d = leads_forced R now g first x l (((forces_in_turn R now x g).called f u).1 (new, r, d))
leads_forced R now g first e (by_nack x f k l u) d = leads_forced R now g first x l (((forces_in_turn R now x g).given f u).1 (k, d))

pub leads_more : (R S : PlainFunction → PlainEvent → Type 0) → ((f : PlainFunction) (new : PlainEvent) → R f new → S f new) → (first e : PlainEvent) → LeadsBy R first e → LeadsBy S first e
leads_more R S m first e as_it_is = as_it_is
leads_more R S m first e (by_call x new f l u r) = by_call x new f (leads_more R S m first x l) u (m f new r)
leads_more R S m first e (by_nack x f k l u) = by_nack x f k (leads_more R S m first x l) u

either_put : (a b : PlainNeed) (new e : PlainEvent) (es : PlainEvents) (o : Option PlainNeed) → unforced e ≡ o → or_else o (unforced_of_all es) ≡ Some a
    → (o ≡ Some a → unforced (replaced new e) ≡ Some b) → (unforced_of_all es ≡ Some a → unforced_of_all (replaced_in_all new es) ≡ Some b)
    → unforced_of_all (where_found o (events_and (replaced new e) es) (events_and e (replaced_in_all new es))) ≡ Some b
either_put a b new e es (Some c) is u here later = ap (λ x. or_else x (unforced_of_all es)) (here u)
either_put a b new e es None is u here later = ap (λ x. or_else x (unforced_of_all (replaced_in_all new es))) is ∙ later u

-- what is unforced in an answer is unforced in the whole
mutual
  unforced_put : (a b : PlainNeed) (new : PlainEvent) → unforced new ≡ Some b → (e : PlainEvent) → unforced e ≡ Some a → unforced (replaced new e) ≡ Some b
  unforced_put a b new n value_of_kind.never u = cc
  unforced_put a b new n (value_of_kind.leaf l) u = cc
  unforced_put a b new n (value_of_kind.choose es) u = unforced_put_all a b new n es u
  unforced_put a b new n (value_of_kind.wrap e f) u = unforced_put a b new n e u
  unforced_put a b new n (guard f) u = n
  unforced_put a b new n (value_of_kind.with_nack f) u = n
  unforced_put a b new n (scope k e) u = unforced_put a b new n e u

  unforced_put_all : (a b : PlainNeed) (new : PlainEvent) → unforced new ≡ Some b → (es : PlainEvents) → unforced_of_all es ≡ Some a → unforced_of_all (replaced_in_all new es) ≡ Some b
  unforced_put_all a b new n value_of_kind.no_events u = cc
  unforced_put_all a b new n (events_and e es) u =
      either_put a b new e es (unforced e) refl u (λ v. unforced_put a b new n e v) (λ v. unforced_put_all a b new n es v)

event_is : (v : PlainValue) (e : PlainEvent) → Path (Found PlainEvent) (as_event v) (Ok e) → v ≡ event e
event_is (event x) e h = let same : x ≡ e = cc in ap event same
event_is _ e h = cc

-- an event that came from one that was handed to sync on top of the same entries
pub record ComesFrom (p : Program) (items : List Item) (t : ℕ) (e : PlainEvent) (below : Term) : Type 0 where
  pub first : PlainEvent
  pub handed : HandsToSync p items t first below
  pub leads : LeadsBy (HasReturned p items t) first e

-- entries under others: each event waits there for the call of a guard's function
abbrev pub IsUnder : Program → List Item → ℕ → Term → Type 0
IsUnder p items t [] = Unit {0}
IsUnder p items t (call left variables w ∷ below) = IsUnder p items t below
IsUnder p items t (wraps fs v ∷ below) = IsUnder p items t below
IsUnder p items t (force e true ∷ below) = ⊥
IsUnder p items t (force e false ∷ below) = ComesFrom p items t e below × ((f : PlainFunction) × (unforced e ≡ Some (calls f))) × IsUnder p items t below

-- all entries
abbrev pub IsFine : Program → List Item → ℕ → Term → Type 0
IsFine p items t [] = Unit {0}
IsFine p items t (call left variables w ∷ below) = IsUnder p items t below
IsFine p items t (wraps fs v ∷ below) = IsUnder p items t below
IsFine p items t (force e asked ∷ below) = ComesFrom p items t e below × IsUnder p items t below

-- the term waits for its commit, on this group before it enters
pub record IsAsking (term : Term) (g : PlainGroup) : Type 0 where
  pub last : PlainEvent
  pub below : Term
  pub is : term ≡ force last true ∷ below
  pub none : unforced last ≡ None
  pub group : g ≡ group_of last

pub record IsFineStep (p : Program) (items : List Item) (t : ℕ) (a : PlainAsk) (term : Term) : Type 0 where
  pub fine : IsFine p items t term
  pub syncs : (g : PlainGroup) → a ≡ ask.sync g → IsAsking term g

module _ (p : Program) (items : List Item) (t : ℕ) where
  abbrev Goes : PlainStep → Type 0
  Goes s = IsFineStep p items t s.ask s.term

  on : (term : Term) → IsFine p items t term → Goes (goes_on term)
  on term h = record { fine = h; syncs = λ g e. no g e }
    where
      no : (g : PlainGroup) → ask.nothing ≡ ask.sync g → IsAsking term g
      no g e = cc

  stop : (why : Fault) → Goes (fails why)
  stop why = record { fine = tt; syncs = λ g e. no g e }
    where
      no : (g : PlainGroup) → ask.fault why ≡ ask.sync g → IsAsking [] g
      no g e = cc

  finish : Goes ends
  finish = record { fine = tt; syncs = λ g e. no g e }
    where
      no : (g : PlainGroup) → ask.end ≡ ask.sync g → IsAsking [] g
      no g e = cc

  asking : (a : PlainAsk) (term : Term) → IsFine p items t term → ((g : PlainGroup) → a ≡ ask.sync g → ⊥) → Goes (asks a term)
  asking a term h differs = record { fine = h; syncs = λ g e. absurd (differs g e) }

  bind : {A : Type 0} (r : Found A) (go : A → PlainStep) → ((x : A) → Path (Found A) r (Ok x) → Goes (go x)) → Goes (r >>= go)
  bind (Ok x) go h = h x refl
  bind (Err why) go h = stop why

  if_room : (b : Bool) (why : Fault) (u : Term) → IsFine p items t u → Goes (if b then goes_on u else fails why)
  if_room true why u h = on u h
  if_room false why u h = stop why

  started_fine : (o : Option (PlainItem Name)) (vs : List PlainValue) (u : Term) → IsUnder p items t u → IsFine p items t (started o vs ∷ u)
  started_fine (Some f) vs u h = h
  started_fine None vs u h = h

  call_fine : (f : PlainFunction) (u : Term) → IsUnder p items t u → IsFine p items t (call_of p f ∷ u)
  call_fine (function f vs) u h = started_fine (slice_get p f) _ u h

  -- an event is delivered to what waits beneath
  fits : (top : StackEntry) (v : PlainValue) (e new : PlainEvent) (below : Term) (f : PlainFunction)
      → ComesBy p items t (top ∷ force e false ∷ below) → Path PlainStep (next p t (top ∷ force e false ∷ below)) (forced_on (replaced new e) below)
      → ComesFrom p items t e below → unforced e ≡ Some (calls f) → IsUnder p items t below
      → (b : Bool) → event_fits (replaced new e) ≡ b → Goes (if b then goes_on (force (replaced new e) false ∷ below) else fails fault.Deep)
  fits top v e new below f came eq from u under false fit = stop fault.Deep
  fits top v e new below f came eq from u under true fit =
      on (force (replaced new e) false ∷ below) (
        record {
          first = from.first;
          handed = from.handed;
          leads =
              by_call e new f from.leads u
              (record {
                top = top;
                e = e;
                below = below;
                came = came;
                waits = u;
                goes = eq ∙ ap (λ b. if b then goes_on (force (replaced new e) false ∷ below) else fails fault.Deep) fit;
              });
        },
        under,
      )

  delivered_fine : (top : StackEntry) (v : PlainValue) (u : Term) → ComesBy p items t (top ∷ u) → Path PlainStep (next p t (top ∷ u)) (delivered v u) → IsUnder p items t u → Goes (delivered v u)
  delivered_fine top v [] came eq h = finish
  delivered_fine top v (call left variables w ∷ below) came eq h = on _ h
  delivered_fine top v (wraps fs w ∷ below) came eq h = on _ h
  delivered_fine top v (force e true ∷ below) came eq h = absurd h
  delivered_fine top v (force e false ∷ below) came eq h =
      bind (as_event v) _
      (λ new ok. fits top v e new below h.1.0 came (eq ∙ ap (λ r. r >>= (λ x. forced_on (replaced x e) below)) ok) h.0 h.1.1 h.2 (event_fits (replaced new e)) refl)

  -- effects of a call whose statement is `s`
  module _ (s : PlainStmt Name) (left : PlainStmts Name) (variables : Variables) (w : PlainWait) (rest : Term)
      (came : ComesBy p items t (call (stmts_and s left) variables runs ∷ rest)) (h : IsUnder p items t rest) where
    abbrev Waiting : Term
    Waiting = call left variables w ∷ rest

    act_fine : (a : Act) → Goes (act_step t a Waiting)
    act_fine act_of.Chan = asking ask.make_chan Waiting h (λ g e. cc)
    act_fine act_of.SwapChan = asking ask.make_swap Waiting h (λ g e. cc)
    act_fine act_of.IVar = asking ask.make_ivar Waiting h (λ g e. cc)
    act_fine act_of.MVar = asking (ask.make_mvar None) Waiting h (λ g e. cc)
    act_fine act_of.Mailbox = asking ask.make_mailbox Waiting h (λ g e. cc)
    act_fine act_of.Mchan = asking ask.make_mchan Waiting h (λ g e. cc)
    act_fine act_of.Exit = finish
    act_fine act_of.Yield = asking ask.yield Waiting h (λ g e. cc)
    act_fine act_of.OwnThread = on _ h
    act_fine act_of.Now = asking ask.now Waiting h (λ g e. cc)

    -- the event that is handed to sync
    hands : (x : PlainExpr Name) (v : PlainValue) (e : PlainEvent) → IsSync s x
        → Path PlainStep (next p t (call (stmts_and s left) variables runs ∷ rest)) (pushed (force e false) Waiting)
        → Path (Found PlainValue) (evaluate (value_of variables) x) (Ok v) → Path (Found PlainEvent) (as_event v) (Ok e)
        → (b : Bool) → is_below_limit Waiting ≡ b → Goes (if b then goes_on (force e false ∷ Waiting) else fails fault.Stack)
    hands x v e is eq ok kind false room = stop fault.Stack
    hands x v e is eq ok kind true room =
        on (force e false ∷ Waiting) (
          record {
            first = e;
            handed =
                record {
                  s = s;
                  left = left;
                  variables = variables;
                  rest = rest;
                  x = x;
                  came = came;
                  sync = is;
                  value = ok ∙ ap Ok (event_is v e kind);
                  goes = eq ∙ ap (λ b. if b then goes_on (force e false ∷ Waiting) else fails fault.Stack) room;
                };
            leads = as_it_is;
          },
          h,
        )

    one_fine : (a : ActOnOne) (x : PlainExpr Name) (v : PlainValue) → (a ≡ one_of.Sync → IsSync s x)
        → Path PlainStep (next p t (call (stmts_and s left) variables runs ∷ rest)) (one_step a v Waiting)
        → Path (Found PlainValue) (evaluate (value_of variables) x) (Ok v) → Goes (one_step a v Waiting)
    one_fine one_of.Sync x v is eq ok =
        bind (as_event v) _
        (λ e kind. hands x v e (is refl) (eq ∙ ap (λ r. r >>= (λ e. pushed (force e false) Waiting)) kind) ok kind (is_below_limit Waiting) refl)
    one_fine one_of.MVar x v is eq ok = asking (ask.make_mvar (Some v)) Waiting h (λ g e. cc)
    one_fine one_of.Port x v is eq ok = bind (as_mchan v) _ (λ n kind. asking (ask.make_port n) Waiting h (λ g e. cc))
    one_fine one_of.Copy x v is eq ok = bind (as_port v) _ (λ n kind. asking (ask.copy_port n) Waiting h (λ g e. cc))
    one_fine one_of.Print x v is eq ok = asking (ask.print v) Waiting h (λ g e. cc)

    two_fine : (a : ActOnTwo) (v u : PlainValue) → Goes (two_step a v u Waiting)
    two_fine two_of.IPut v u = bind (as_ivar v) _ (λ n kind. asking (ask.iput n u) Waiting h (λ g e. cc))
    two_fine two_of.MPut v u = bind (as_mvar v) _ (λ n kind. asking (ask.mput n u) Waiting h (λ g e. cc))
    two_fine two_of.Mail v u = bind (as_mailbox v) _ (λ n kind. asking (ask.mail n u) Waiting h (λ g e. cc))
    two_fine two_of.Multicast v u = bind (as_mchan v) _ (λ n kind. asking (ask.multicast n u) Waiting h (λ g e. cc))

    effect_fine : (f : PlainEffect Name) → ((x : PlainExpr Name) → f ≡ act_on_one one_of.Sync x → IsSync s x)
        → Path PlainStep (next p t (call (stmts_and s left) variables runs ∷ rest)) (effect_step p t variables f Waiting)
        → Goes (effect_step p t variables f Waiting)
    effect_fine (act a) is eq = act_fine a
    effect_fine (act_on_one a x) is eq =
        bind (evaluate (value_of variables) x) _
        (λ v ok. one_fine a x v (λ same. is x (ap (λ b. act_on_one b x) same)) (eq ∙ ap (λ r. r >>= (λ v. one_step a v Waiting)) ok) ok)
    effect_fine (act_on_two a x y) is eq =
        bind (evaluate (value_of variables) x) _ (λ v ok. bind (evaluate (value_of variables) y) _ (λ u also. two_fine a v u))
    effect_fine (syntax.call f es) is eq =
        bind (evaluate_all (value_of variables) es) _
        (λ vs ok. if_room (is_below_limit Waiting) fault.Stack (call_of p (function f (values vs)) ∷ Waiting) (call_fine (function f (values vs)) Waiting h))
    effect_fine (syntax.spawn f es) is eq = bind (evaluate_all (value_of variables) es) _ (λ vs ok. asking (ask.spawn (function f (values vs))) Waiting h (λ g e. cc))

  let_is : (y : Name) (f : PlainEffect Name) (x : PlainExpr Name) → f ≡ act_on_one one_of.Sync x → IsSync (let_be y (effect f)) x
  let_is y f x same = subst (λ g. IsSync (let_be y (effect g)) x) (sym same) (named y x)

  do_is : (f : PlainEffect Name) (x : PlainExpr Name) → f ≡ act_on_one one_of.Sync x → IsSync (just_do f) x
  do_is f x same = subst (λ g. IsSync (just_do g) x) (sym same) (dropped x)

  statement_fine : (s : PlainStmt Name) (left : PlainStmts Name) (variables : Variables) (rest : Term)
      → ComesBy p items t (call (stmts_and s left) variables runs ∷ rest) → IsUnder p items t rest → Goes (statement_step p t s left variables rest)
  statement_fine (let_be y (value x)) left variables rest came h = bind (evaluate (value_of variables) x) _ (λ v ok. on _ h)
  statement_fine (let_be y (effect f)) left variables rest came h = effect_fine (let_be y (effect f)) left variables (gives y) rest came h f (let_is y f) refl
  statement_fine (set_to y x) left variables rest came h = bind (evaluate (value_of variables) x) _ (λ v ok. on _ h)
  statement_fine (just_do f) left variables rest came h = effect_fine (just_do f) left variables drops rest came h f (do_is f) refl
  statement_fine (if_so x a b) left variables rest came h = bind (evaluate (value_of variables) x) _ (λ v ok. bind (as_truth v) _ (λ holds kind. on _ h))
  statement_fine (while_so x a) left variables rest came h = bind (evaluate (value_of variables) x) _ (λ v ok. bind (as_truth v) _ (λ holds kind. on _ h))
  statement_fine (return_with x) left variables rest came h =
      bind (evaluate (value_of variables) x) _
      (λ v ok. delivered_fine (call (stmts_and (return_with x) left) variables runs) v rest came (ap (λ r. r >>= (λ v. delivered v rest)) ok) h)

  call_step_fine : (left : PlainStmts Name) (variables : Variables) (rest : Term)
      → ComesBy p items t (call left variables runs ∷ rest) → IsUnder p items t rest → Goes (call_step p t left variables rest)
  call_step_fine no_stmts variables rest came h = delivered_fine (call no_stmts variables runs) unit rest came refl h
  call_step_fine (stmts_and s left) variables rest came h = statement_fine s left variables rest came h

  if_asked : (b : Bool) (u : Term) → IsFine p items t u → Goes (if b then asks ask.fresh_nack u else fails fault.Stack)
  if_asked true u h = asking ask.fresh_nack u h (λ g e. cc)
  if_asked false u h = stop fault.Stack

  force_fine : (o : Option PlainNeed) (e : PlainEvent) (below : Term) → unforced e ≡ o → ComesFrom p items t e below → IsUnder p items t below → Goes (force_step p o e below)
  force_fine (Some (calls f)) e below u from h =
      if_room (is_below_limit (force e false ∷ below)) fault.Stack (call_of p f ∷ force e false ∷ below)
      (call_fine f (force e false ∷ below) (from, (f, u), h))
  force_fine (Some (needs_nack f)) e below u from h = if_asked (is_below_limit (force e false ∷ below)) (force e true ∷ below) (from, h)
  force_fine None e below u from h = record { fine = (from, h); syncs = λ g same. at g same }
    where
      at : (g : PlainGroup) → ask.sync (group_of e) ≡ ask.sync g → IsAsking (force e true ∷ below) g
      at g same = record { last = e; below = below; is = refl; none = u; group = is_group g same }
        where
          is_group : (g : PlainGroup) → ask.sync (group_of e) ≡ ask.sync g → g ≡ group_of e
          is_group g same = cc

  wraps_fine : (fs : List PlainFunction) (v : PlainValue) (below : Term) → ComesBy p items t (wraps fs v ∷ below) → IsUnder p items t below → Goes (wraps_step p fs v below)
  wraps_fine [] v below came h = delivered_fine (wraps [] v) v below came refl h
  wraps_fine (f ∷ fs) v below came h =
      if_room (is_below_limit (wraps fs v ∷ below)) fault.Stack (call_of p (with_argument f v) ∷ wraps fs v ∷ below) (call_fine (with_argument f v) (wraps fs v ∷ below) h)

  -- a step of a thread
  pub next_fine : (term : Term) → ComesBy p items t term → IsFine p items t term → IsFineStep p items t (next p t term).ask (next p t term).term
  next_fine [] came h = finish
  next_fine (call left variables runs ∷ below) came h = call_step_fine left variables below came h
  next_fine (call left variables drops ∷ below) came h = on _ h
  next_fine (call left variables (gives x) ∷ below) came h = on _ h
  next_fine (force e false ∷ below) came h = force_fine (unforced e) e below refl h.0 h.1
  next_fine (force e true ∷ below) came h = on _ h
  next_fine (wraps fs v ∷ below) came h = wraps_fine fs v below came h

  -- an answer
  nack_fine : (k : ℕ) (o : Option PlainNeed) (e : PlainEvent) (below : Term) → unforced e ≡ o → ComesFrom p items t e below → IsUnder p items t below
      → IsFine p items t (with_nack_number p k o e below)
  nack_fine k (Some (needs_nack f)) e below u from h =
      call_fine (given_nack k f) (force (replaced (scope k (guard (given_nack k f))) e) false ∷ below) (
        record { first = from.first; handed = from.handed; leads = by_nack e f k from.leads u },
        (given_nack k f, unforced_put (needs_nack f) (calls (given_nack k f)) (scope k (guard (given_nack k f))) refl e u),
        h,
      )
  nack_fine k (Some (calls f)) e below u from h = (from, h)
  nack_fine k None e below u from h = (from, h)

  pub answered_fine : (answer : PlainAnswer) (term : Term) → IsFine p items t term → IsFine p items t (after_answer p answer term)
  answered_fine (a_value v) [] h = h
  answered_fine (a_value v) (call left variables w ∷ below) h = h
  answered_fine (a_value v) (force e asked ∷ below) h = h
  answered_fine (a_value v) (wraps fs x ∷ below) h = h
  answered_fine (a_nack k) [] h = h
  answered_fine (a_nack k) (call left variables w ∷ below) h = h
  answered_fine (a_nack k) (force e asked ∷ below) h = nack_fine k (unforced e) e below refl h.0 h.1
  answered_fine (a_nack k) (wraps fs x ∷ below) h = h
  answered_fine (a_commit v gs) [] h = h
  answered_fine (a_commit v gs) (call left variables w ∷ below) h = h
  answered_fine (a_commit v gs) (force e asked ∷ below) h = h.1
  answered_fine (a_commit v gs) (wraps fs x ∷ below) h = h

  -- a thread at its beginning
  pub begun_fine : (f : PlainFunction) → IsFine p items t (call_of p f ∷ [])
  begun_fine f = call_fine f [] tt
