-- How a hub goes on from where it stood.
use Rattle.std.proofs.Common.{◌≡◌, ℕ, ◌-◌, ◌<◌, Bool, true, false, not, ◌||◌, [], ◌∷◌, ◌++◌, refl, arith, inl, Some, None, sym, ap, ◌∙◌, subst, append_assoc}
use Rattle.std.specs.Prelude.{List, nat_le, if◌then◌else◌}
use Rattle.std.proofs.lemmas.List.{append-nil}
use Rattle.std.proofs.lemmas.List.Elements.{All-nil, All-cons, All-append}
use Rattle.std.proofs.lemmas.Bool.Decides.{nat_tests}
use Rattle.cml_schedule.specs.declared.item.Item.{Item}
use Rattle.cml_check.specs.Syntax.{PlainItem}
use Rattle.cml_step.specs.Calls.{text_of}
use Rattle.cml_step.specs.Machines.{PlainMachine}
use Rattle.cml_hub.specs.declared.fault.End.TheVariants.{Quiet, Budget, Partial}
use Rattle.cml_hub.specs.declared.fault.Next.TheVariants as next
use Rattle.cml_hub.specs.Runs.{Run, any_runs, ending, stands, over, terminal}
use Rattle.cml_hub.specs.Courses.{PlainCourse, run_of}
use Rattle.cml_hub.specs.Kept.{Kept, EachAdded, AddedInTime, TellsSwaps, SwapsAreExchanges, Continues, Extends, IsNoTurn, IsOver, IsFar, NoneOut, NoneDue, AllOut, HandsOut}
use Rattle.cml_hub.specs.Moves.{AddsItem, Reported, HandedOut, MovedOn, CalledBack, GoesAlone, GoesIfLeft}

-- What holds of each item that was added, and of each that was added after those.
pub each_more : (p : List (PlainItem ℕ)) (Holds : Run → Item → Type 0) (items xs ys : List Item) → EachAdded p Holds items xs → EachAdded p Holds (items ++ xs) ys → EachAdded p Holds items (xs ++ ys)
each_more p Holds items [] ys h k = subst (λ zs. EachAdded p Holds zs ys) (append-nil items) k
each_more p Holds items (x ∷ xs) ys h k =
    (h.0, each_more p Holds (items ++ x ∷ []) xs ys h.1 (subst (λ zs. EachAdded p Holds zs ys) (sym (append_assoc items (x ∷ []) xs)) k))

pub each_from : (p q : List (PlainItem ℕ)) (Holds : Run → Item → Type 0) (items others more : List Item) → q ≡ p → others ≡ items → EachAdded q Holds others more → EachAdded p Holds items more
each_from p q Holds items others more e f h =
    subst (λ x. EachAdded x Holds items more) e (subst (λ x. EachAdded q Holds x more) f h)

time_from : (p : List (PlainItem ℕ)) (m n : ℕ) (items more : List Item) → n ≡ m → AddedInTime p n items more → AddedInTime p m items more
time_from p m n items more e h = subst (λ x. AddedInTime p x items more) e h

-- Where the schedule has led, and that the run is not over there.
pub record IsGoing (h : Kept) : Type 0 where
  pub leads : stands (text_of h.course.program) h.course.items ≡ Some (run_of h.course)
  pub going : over h.budget (run_of h.course) ≡ false

time_one : (h : Kept) (item : Item) → IsGoing h → AddedInTime h.course.program h.budget h.course.items (item ∷ [])
time_one h item g = (rw (g.leads) g.going, tt)

exchange_one : (h : Kept) (item : Item) → IsGoing h → TellsSwaps h.course.world item → SwapsAreExchanges h.course.program h.course.items (item ∷ [])
exchange_one h item g t = (rw (g.leads) t, tt)

-- It goes on from itself, and from what it went on from goes on.
pub continues_self : (h : Kept) → Continues h h
continues_self h = record {
  program = refl;
  budget = refl;
  watch = refl;
  more = [];
  items = sym (append-nil h.course.items);
  in_time = tt;
  exchanges = tt;
  made = [];
  reports = sym (append-nil h.reports);
}

pub continues_more : (a b c : Kept) → Continues a b → Continues b c → Continues a c
continues_more a b c p q = record {
  program = q.program ∙ p.program;
  budget = q.budget ∙ p.budget;
  watch = q.watch ∙ p.watch;
  more = p.more ++ q.more;
  items = q.items ∙ (ap (λ xs. xs ++ q.more) p.items ∙ append_assoc a.course.items p.more q.more);
  in_time = each_more a.course.program _ a.course.items p.more q.more p.in_time
      (each_from a.course.program b.course.program _ (a.course.items ++ p.more) b.course.items q.more p.program p.items
      (time_from b.course.program a.budget b.budget b.course.items q.more p.budget q.in_time));
  exchanges = each_more a.course.program _ a.course.items p.more q.more p.exchanges
      (each_from a.course.program b.course.program _ (a.course.items ++ p.more) b.course.items q.more p.program p.items q.exchanges);
  made = p.made ++ q.made;
  reports = q.reports ∙ (ap (λ xs. xs ++ q.made) p.reports ∙ append_assoc a.reports p.made q.made);
}

pub continues_reported : (a b : Kept) → Reported a b → Continues a b
continues_reported a b r = record {
  program = ap (λ c. c.program) r.course;
  budget = r.budget;
  watch = r.watch;
  more = [];
  items = ap (λ c. c.items) r.course ∙ sym (append-nil a.course.items);
  in_time = tt;
  exchanges = tt;
  made = r.made;
  reports = r.reports;
}

pub continues_moved : (a b : Kept) (item : Item) → IsGoing a → TellsSwaps a.course.world item → AddsItem a item b → Continues a b
continues_moved a b item g t m = record {
  program = m.adds.program;
  budget = m.budget;
  watch = m.watch;
  more = item ∷ [];
  items = m.adds.items;
  in_time = time_one a item g;
  exchanges = exchange_one a item g t;
  made = [];
  reports = m.reports ∙ sym (append-nil a.reports);
}

pub continues_called : (a b : Kept) → CalledBack a b → Continues a b
continues_called a b r = record {
  program = ap (λ c. c.program) r.course;
  budget = r.budget;
  watch = r.watch;
  more = [];
  items = ap (λ c. c.items) r.course ∙ sym (append-nil a.course.items);
  in_time = tt;
  exchanges = tt;
  made = [];
  reports = r.reports ∙ sym (append-nil a.reports);
}

-- the same, where no thread had a turn
pub extends_self : (h : Kept) → Extends h h
unfolding continues_self
extends_self h = record { continues = continues_self h; no_turn = All-nil IsNoTurn }

pub extends_reported : (h a b : Kept) → Extends h a → Reported a b → Extends h b
unfolding continues_more continues_reported
extends_reported h a b e r = record {
  continues = continues_more h a b e.continues (continues_reported a b r);
  no_turn = All-append IsNoTurn e.continues.more [] e.no_turn (All-nil IsNoTurn);
}

extends_moved : (h a b : Kept) (item : Item) → IsNoTurn item → TellsSwaps a.course.world item → Extends h a → IsGoing a → AddsItem a item b → Extends h b
unfolding continues_more continues_moved
extends_moved h a b item n t e g m = record {
  continues = continues_more h a b e.continues (continues_moved a b item g t m);
  no_turn = All-append IsNoTurn e.continues.more (item ∷ []) e.no_turn (All-cons IsNoTurn item [] n (All-nil IsNoTurn));
}

-- It is not over.
or_false : (a b : Bool) → (a || b) ≡ false → (a ≡ false) × (b ≡ false)
or_false true b h = cc
or_false false b h = (refl, h)

pub going : (budget : ℕ) (r : Run) → over budget r ≡ false → terminal r.world ≡ false
going budget r h = (or_false (terminal r.world) (nat_le budget r.used) h).0

-- It is over, or not, by what is left to do and by the budget.
or_not : (a b : Bool) → a ≡ false → b ≡ false → (a || b) ≡ false
or_not true b h k = h
or_not false b h k = k

pub over_not : (budget : ℕ) (r : Run) → terminal r.world ≡ false → nat_le budget r.used ≡ false → over budget r ≡ false
over_not budget r t s = or_not (terminal r.world) (nat_le budget r.used) t s

or_second : (a b : Bool) → b ≡ true → (a || b) ≡ true
or_second true b k = refl
or_second false b k = k

pub over_spent : (budget : ℕ) (r : Run) → nat_le budget r.used ≡ true → over budget r ≡ true
over_spent budget r s = or_second (terminal r.world) (nat_le budget r.used) s

pub over_quiet : (budget : ℕ) (r : Run) → terminal r.world ≡ true → over budget r ≡ true
over_quiet budget r t = ap (λ a. a || nat_le budget r.used) t

quiet_end : (budget : ℕ) (r : Run) → terminal r.world ≡ true → Quiet ≡ ending budget r
quiet_end budget r t = sym (ap (λ a. if a then Quiet else if nat_le budget r.used then Budget else Partial) t)

-- Nothing was left to do.
pub quiet_over : (a b : Kept) → NoneOut a → NoneDue a → GoesIfLeft a false b → IsOver Quiet b
quiet_over a b n d g =
    subst (λ (x : Kept). IsOver Quiet x) (sym g.1)
    (record { over_is = over_quiet a.budget (run_of a.course) g.0; end_is = quiet_end a.budget (run_of a.course) g.0; none_out = n; none_due = d })

pub quiet_far : (old a b : Kept) (steps : ℕ) → GoesIfLeft a false b → IsFar old steps b
quiet_far old a b steps g = inl (subst (λ (x : Kept). over x.budget (run_of x.course) ≡ true) (sym g.1) (over_quiet a.budget (run_of a.course) g.0))

more_left : (budget used : ℕ) → nat_le budget used ≡ false → used < budget
more_left budget used h = grind (arith, nat_tests)

pub below : (budget : ℕ) (r : Run) → over budget r ≡ false → r.used < budget
below budget r h = more_left budget r.used (or_false (terminal r.world) (nat_le budget r.used) h).1

-- No thread was ready, and it moved on.
pub none_handed : (a b : Kept) → HandedOut a None b → AllOut b
none_handed a b h = subst (λ (x : Kept). AllOut x) (sym h.1) h.0

pub going_still : (a b : Kept) → HandedOut a None b → over a.budget (run_of a.course) ≡ false → terminal b.course.world ≡ false
going_still a b h o = subst (λ (x : Kept). terminal x.course.world ≡ false) (sym h.1) (going a.budget (run_of a.course) o)

pub still_extends : (h a b : Kept) → Extends h a → b ≡ a → Extends h b
still_extends h a b e s = subst (λ (x : Kept). Extends h x) (sym s) e

pub moved_extends : (h a b c : Kept) → Extends h a → IsGoing a → HandedOut a None b → MovedOn b true c → Extends h c
moved_extends h a b c e g n m = extends_moved h b c m.0 m.1 m.2 (still_extends h a b e n.1) (subst (λ (x : Kept). IsGoing x) (sym n.1) g) m.3

pub moved_out : (h a b c : Kept) → a.out ≡ h.out → HandedOut a None b → MovedOn b true c → c.out ≡ h.out
moved_out h a b c o n m = m.4 ∙ (ap (λ (x : Kept). x.out) n.1 ∙ o)

less : (k l m n u v w x : ℕ) → l ≡ k → m ≡ l → n ≡ m → v ≡ u → v < w → x ≡ w → u < k → n - x < k - u
less k l m n u v w x h1 h2 h3 h4 h5 h6 h7 = omega arith

-- The first thread's machine is handed out.
pub job_extends : (h a b : Kept) (m : PlainMachine) → Extends h a → HandedOut a (Some m) b → Extends h b
job_extends h a b m e s = record {
  continues = record {
    program = ap (λ (x : Kept). x.course.program) s.3 ∙ e.continues.program;
    budget = ap (λ (x : Kept). x.budget) s.3 ∙ e.continues.budget;
    watch = ap (λ (x : Kept). x.watch) s.3 ∙ e.continues.watch;
    more = e.continues.more;
    items = ap (λ (x : Kept). x.course.items) s.3 ∙ e.continues.items;
    in_time = e.continues.in_time;
    exchanges = e.continues.exchanges;
    made = e.continues.made;
    reports = ap (λ (x : Kept). x.reports) s.3 ∙ e.continues.reports;
  };
  no_turn = e.no_turn;
}

pub job_over : (a b : Kept) (m : PlainMachine) → over a.budget (run_of a.course) ≡ false → HandedOut a (Some m) b → false ≡ over b.budget (run_of b.course)
job_over a b m o s =
    let k : b.budget ≡ a.budget = ap (λ (x : Kept). x.budget) s.3 in
    let c : b.course ≡ a.course = ap (λ (x : Kept). x.course) s.3 in
    sym (ap (λ n. over n (run_of b.course)) k ∙ (ap (λ x. over a.budget (run_of x)) c ∙ o))

-- Nothing is to be done before a slice comes back.
still_runs : (t r : Bool) → t ≡ false → t ≡ not r → r ≡ true
still_runs t true g e = refl
still_runs t false g e = absurd (cc)

pub wait_hands : (h a b c : Kept) → a.out ≡ h.out → HandedOut a None b → terminal b.course.world ≡ false → MovedOn b false c → HandsOut h next.Wait c
wait_hands h a b c o n g m =
    let e : c ≡ b = m.2 in
    subst (λ (x : Kept). HandsOut h next.Wait x) (sym e) (m.0, still_runs (terminal b.course.world) (any_runs b.course.world) g m.1, none_handed a b n, ap (λ (x : Kept). x.out) n.1 ∙ o)

pub wait_over : (a b c : Kept) → over a.budget (run_of a.course) ≡ false → HandedOut a None b → MovedOn b false c → false ≡ over c.budget (run_of c.course)
wait_over a b c o n m = sym (ap (λ (x : Kept). over x.budget (run_of x.course)) (m.2 ∙ n.1) ∙ o)

-- A row or a tick uses of the budget, and the report that is made then does not change that.
pub move_smaller : (a b c d : Kept) → over a.budget (run_of a.course) ≡ false → HandedOut a None b → MovedOn b true c → Reported c d
    → d.budget - d.course.used < a.budget - a.course.used
move_smaller a b c d o n m r =
    let left : a.course.used < a.budget = below a.budget (run_of a.course) o in
    let more : a.course.used < c.course.used = subst (λ (x : Kept). x.course.used < c.course.used) n.1 m.3.used in
    let budget : d.budget ≡ a.budget = r.budget ∙ (m.3.budget ∙ ap (λ (x : Kept). x.budget) n.1) in
    let used : d.course.used ≡ c.course.used = ap (λ (x : PlainCourse). x.used) r.course in
    omega (arith, left, more, budget, used)

pub none_out_reported : (a b : Kept) → NoneOut a → Reported a b → NoneOut b
none_out_reported a b n r = λ t. rw r.out (n t)

pub none_out_same : (a b : Kept) → NoneOut a → b ≡ a → NoneOut b
none_out_same a b n e = subst (λ (x : Kept). NoneOut x) (sym e) n

pub still_continues : (h a b : Kept) → Continues h a → b ≡ a → Continues h b
still_continues h a b e s = subst (λ (x : Kept). Continues h x) (sym s) e

-- One thread ran alone.
pub alone_continues : (h a b : Kept) → Continues h a → IsGoing a → GoesAlone a b → Continues h b
alone_continues h a b e g m = continues_more h a b e (continues_moved a b m.item g m.tells m.moves)
