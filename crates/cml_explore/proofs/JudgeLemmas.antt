-- Runs that ended alike are judged alike: their details say how they ended, who waits, and how many threads ended at a fault.
use Rattle.std.proofs.Common.{◌≡◌, ◌∙◌, ℕ, suc, Bool, true, false, not, ◌&&◌, ◌||◌, List, [], ◌∷◌, ◌++◌, map, Option, Some, None, refl, sym, ap, ap₂, subst, append_assoc, arith}
use Rattle.std.specs.Prelude.{◌==◌, nat_eq, option_and_then, slice_get}
use Rattle.std.specs.List.{list_any}
use Rattle.std.proofs.lemmas.Bool.Decides.{nat_tests}
use Rattle.std.proofs.lemmas.List.Folds.{list_any-append}
use Rattle.cml_value.specs.Value.{PlainFunction, func_of, PlainBase, always, send, recv, swap, iget, mtake, mget, mswap, mail_recv, port_recv, join, at_tick, after_ticks, nack}
use Rattle.cml_value.specs.Group.{bases}
use Rattle.cml_scan.specs.World.{PlainThread, running, pending_on, ended}
use Rattle.cml_step.specs.Asks as ask
use Rattle.cml_step.specs.Asks.{PlainAsk}
use Rattle.cml_step.specs.Calls.{text_of}
use Rattle.cml_step.specs.Machines.{PlainHeld, call, force, wraps}
use Rattle.cml_step.specs.declared.fault.Fault.TheVariants as fault
use Rattle.cml_hub.specs.declared.fault.End.{End}
use Rattle.cml_hub.specs.declared.fault.End.TheVariants as end
use Rattle.cml_hub.specs.Courses.{PlainCourse, run_of}
use Rattle.cml_hub.specs.Deeds.{origins, fault_count}
use Rattle.cml_hub.specs.Kept.{Kept}
use Rattle.cml_hub.specs.Runs.{ending}
use Rattle.cml_facts.specs.Standings.{call_of_machine}
use Rattle.cml_facts.specs.Stuck.{is_quiet, is_server, is_held_up, some_held_up}
use Rattle.cml_facts.specs.Falls.{PlainFall}
use Rattle.cml_facts.specs.declared.fault.detail.Detail.{Detail}
use Rattle.cml_facts.specs.declared.fault.detail.Detail.TheVariants as detail
use Rattle.cml_facts.specs.contracts.fault.detail.DetailEq.TheImpl.Laws.{laws-law}
use Rattle.cml_facts.specs.Details.{AreDetails, alike, ask_detail, began_details, call_details, details_with, end_detail, fall_details, kind_detail, same_detail, standing_details}
use Rattle.cml_facts.specs.Details.{thread_details, threads_details}
use Rattle.cml_judge.specs.Judgements.{break_details, are_all_kept}
use Rattle.cml_explore.specs.Classes.{Finish}
use Rattle.cml_explore.specs.Finishes.{fate_of, is_good}
use Rattle.cml_explore.specs.Laws.{JudgedAlike}

both_true : (a b : Bool) → a && b ≡ true → (a ≡ true) × (b ≡ true)
both_true true b h = (refl, h)
both_true false b h = cc

both_false : (a b : Bool) → a || b ≡ false → (a ≡ false) × (b ≡ false)
both_false true b h = cc
both_false false b h = (refl, h)

-- ---- what details say of threads that wait

-- it says that a thread began with one of these functions
abbrev serves : List ℕ → Detail → Bool
serves servers d = list_any (λ g. same_detail d (detail.Began g)) servers

abbrev serves_first : List ℕ → List Detail → Bool
serves_first servers [] = false
serves_first servers (d ∷ ds) = serves servers d

abbrev waits : Detail → Bool
waits d = same_detail d detail.Waits

-- a thread waits, and it is not said next that it began with one of these functions
abbrev held : List ℕ → List Detail → Bool
held servers [] = false
held servers (d ∷ ds) = (waits d && not (serves_first servers ds)) || held servers ds

-- ---- the same of details that are alike

serves_same : (servers : List ℕ) (d e : Detail) → same_detail d e ≡ true → serves servers d ≡ serves servers e
serves_same [] d e same = refl
serves_same (g ∷ servers) d e same = ap₂ (λ a b. a || b) (laws-law.congr d e (detail.Began g) same) (serves_same servers d e same)

first_same : (servers : List ℕ) (ds es : List Detail) → alike ds es ≡ true → serves_first servers ds ≡ serves_first servers es
first_same servers [] [] same = refl
first_same servers [] (e ∷ es) same = cc
first_same servers (d ∷ ds) [] same = cc
first_same servers (d ∷ ds) (e ∷ es) same = serves_same servers d e (both_true (same_detail d e) (alike ds es) same).0

held_same : (servers : List ℕ) (ds es : List Detail) → alike ds es ≡ true → held servers ds ≡ held servers es
held_same servers [] [] same = refl
held_same servers [] (e ∷ es) same = cc
held_same servers (d ∷ ds) [] same = cc
held_same servers (d ∷ ds) (e ∷ es) same =
    let parts = both_true (same_detail d e) (alike ds es) same in
    ap₂ (λ a b. a || b) (ap₂ (λ a b. a && not b) (laws-law.congr d e detail.Waits parts.0) (first_same servers ds es parts.1)) (held_same servers ds es parts.1)

last_same : (ds es : List Detail) (d e : Detail) → alike (ds ++ d ∷ []) (es ++ e ∷ []) ≡ true → same_detail d e ≡ true
last_same [] [] d e same = (both_true (same_detail d e) true same).0
last_same [] (y ∷ []) d e same = let parts = both_true (same_detail d y) false same in cc
last_same [] (y ∷ (z ∷ es)) d e same = let parts = both_true (same_detail d y) false same in cc
last_same (x ∷ []) [] d e same = let parts = both_true (same_detail x e) false same in cc
last_same (x ∷ (z ∷ ds)) [] d e same = let parts = both_true (same_detail x e) false same in cc
last_same (x ∷ ds) (y ∷ es) d e same = last_same ds es d e (both_true (same_detail x y) (alike (ds ++ d ∷ []) (es ++ e ∷ [])) same).1

ends_same : (one other : End) → same_detail (end_detail one) (end_detail other) ≡ true → is_quiet one ≡ is_quiet other
ends_same end.Quiet end.Quiet same = refl
ends_same end.Quiet end.Budget same = cc
ends_same end.Quiet end.Partial same = cc
ends_same end.Budget end.Quiet same = cc
ends_same end.Budget end.Budget same = refl
ends_same end.Budget end.Partial same = refl
ends_same end.Partial end.Quiet same = cc
ends_same end.Partial end.Budget same = refl
ends_same end.Partial end.Partial same = refl

counts_same : (m n : ℕ) → nat_eq m n ≡ true → m ≡ n
counts_same m n same = grind (arith, nat_tests)

-- ---- the details of a run say who is held up

-- what says nothing of a thread that waits
skips : (servers : List ℕ) (ds rest : List Detail) → list_any waits ds ≡ false → held servers (ds ++ rest) ≡ held servers rest
skips servers [] rest none = refl
skips servers (d ∷ ds) rest none =
    let parts = both_false (waits d) (list_any waits ds) none in
    ap (λ b. (b && not (serves_first servers (ds ++ rest))) || held servers (ds ++ rest)) parts.0 ∙ skips servers ds rest parts.1

neither : (ds es : List Detail) → list_any waits ds ≡ false → list_any waits es ≡ false → list_any waits (ds ++ es) ≡ false
neither ds es one other = list_any-append waits ds es ∙ ap₂ (λ a b. a || b) one other

no_wait_began : (o : Option PlainFunction) → list_any waits (began_details o) ≡ false
no_wait_began None = refl
no_wait_began (Some f) = refl

no_wait_call : (o : Option PlainHeld) → list_any waits (call_details o) ≡ false
no_wait_call None = refl
no_wait_call (Some (call f at slots w)) = refl
no_wait_call (Some (force g asked)) = refl
no_wait_call (Some (wraps left v)) = refl

no_wait_kind : (b : PlainBase) → waits (kind_detail b) ≡ false
no_wait_kind (always v) = refl
no_wait_kind (send c v) = refl
no_wait_kind (recv c) = refl
no_wait_kind (swap s v) = refl
no_wait_kind (iget i) = refl
no_wait_kind (mtake m) = refl
no_wait_kind (mget m) = refl
no_wait_kind (mswap m v) = refl
no_wait_kind (mail_recv b) = refl
no_wait_kind (port_recv p) = refl
no_wait_kind (join t) = refl
no_wait_kind (at_tick t) = refl
no_wait_kind (after_ticks d) = refl
no_wait_kind (nack k) = refl

no_wait_kinds : (bs : List PlainBase) → list_any waits (map kind_detail bs) ≡ false
no_wait_kinds [] = refl
no_wait_kinds (b ∷ bs) = ap₂ (λ x y. x || y) (no_wait_kind b) (no_wait_kinds bs)

no_wait_ask : (a : PlainAsk) → waits (ask_detail a) ≡ false
no_wait_ask (ask.fault fault.Kind) = refl
no_wait_ask (ask.fault fault.Overflow) = refl
no_wait_ask (ask.fault fault.Range) = refl
no_wait_ask (ask.fault fault.Deep) = refl
no_wait_ask (ask.fault fault.Stack) = refl
no_wait_ask (ask.fault fault.Put) = refl
no_wait_ask (ask.fault fault.Leaves) = refl
no_wait_ask (ask.fault fault.Far) = refl
no_wait_ask (ask.fault fault.Full) = refl
no_wait_ask (ask.iput i v) = refl
no_wait_ask (ask.mput m v) = refl
no_wait_ask (ask.sync g) = refl
no_wait_ask a = refl

no_wait_standing : (c : PlainCourse) (t : ℕ) → list_any waits (standing_details c t) ≡ false
no_wait_standing c t =
    neither (began_details (slice_get (origins (text_of c.program) c.items) t)) (call_details (option_and_then call_of_machine (slice_get c.machines t)))
    (no_wait_began (slice_get (origins (text_of c.program) c.items) t)) (no_wait_call (option_and_then call_of_machine (slice_get c.machines t)))

no_wait_fall : (c : PlainCourse) (t : ℕ) (o : Option PlainFall) → list_any waits (fall_details c t o) ≡ false
no_wait_fall c t None = refl
no_wait_fall c t (Some fall) =
    let began = began_details (slice_get (origins (text_of c.program) c.items) t) in
    let place = call_details (call_of_machine fall.machine) in
    let why : list_any waits (ask_detail fall.ask ∷ []) ≡ false = ap (λ b. b || false) (no_wait_ask fall.ask) in
    neither began (place ++ ask_detail fall.ask ∷ []) (no_wait_began (slice_get (origins (text_of c.program) c.items) t))
    (neither place (ask_detail fall.ask ∷ []) (no_wait_call (call_of_machine fall.machine)) why)

any_false : (servers : List ℕ) → list_any (λ g. false) servers ≡ false
any_false [] = refl
any_false (g ∷ servers) = any_false servers

kind_serves : (servers : List ℕ) (b : PlainBase) → serves servers (kind_detail b) ≡ false
kind_serves servers (always v) = any_false servers
kind_serves servers (send c v) = any_false servers
kind_serves servers (recv c) = any_false servers
kind_serves servers (swap s v) = any_false servers
kind_serves servers (iget i) = any_false servers
kind_serves servers (mtake m) = any_false servers
kind_serves servers (mget m) = any_false servers
kind_serves servers (mswap m v) = any_false servers
kind_serves servers (mail_recv b) = any_false servers
kind_serves servers (port_recv p) = any_false servers
kind_serves servers (join t) = any_false servers
kind_serves servers (at_tick t) = any_false servers
kind_serves servers (after_ticks d) = any_false servers
kind_serves servers (nack k) = any_false servers

kinds_first : (servers : List ℕ) (bs : List PlainBase) (rest : List Detail) → serves_first servers rest ≡ false → serves_first servers (map kind_detail bs ++ rest) ≡ false
kinds_first servers [] rest none = none
kinds_first servers (b ∷ bs) rest none = kind_serves servers b

call_first : (servers : List ℕ) (o : Option PlainHeld) (rest : List Detail) → serves_first servers rest ≡ false → serves_first servers (call_details o ++ rest) ≡ false
call_first servers None rest none = none
call_first servers (Some (call f at slots w)) rest none = any_false servers
call_first servers (Some (force g asked)) rest none = none
call_first servers (Some (wraps left v)) rest none = none

tests_same : (a b : Bool) (m n : ℕ) → nat_eq m n ≡ a → (n == m) ≡ b → a ≡ b
tests_same true true m n one other = refl
tests_same false false m n one other = refl
tests_same true false m n one other = grind (arith, nat_tests)
tests_same false true m n one other = grind (arith, nat_tests)

server_by : (servers : List ℕ) (m : ℕ) → list_any (λ g. nat_eq m g) servers ≡ list_any (λ g. g == m) servers
server_by [] m = refl
server_by (g ∷ servers) m = ap₂ (λ a b. a || b) (tests_same (nat_eq m g) (g == m) m g refl refl) (server_by servers m)

began_first : (servers : List ℕ) (o : Option PlainFunction) (rest : List Detail) → serves_first servers rest ≡ false
    → serves_first servers (began_details o ++ rest) ≡ is_server servers o
began_first servers None rest none = none
began_first servers (Some f) rest none = server_by servers (func_of f)

module _ (servers : List ℕ) (c : PlainCourse) (falls : ℕ → Option PlainFall) (n : ℕ) where
  abbrev began : List PlainFunction
  began = origins (text_of c.program) c.items

  -- the details of these threads, and how many faults there are
  abbrev behind : ℕ → List PlainThread → List Detail
  behind t threads = threads_details c falls t threads ++ detail.Faults n ∷ []

  -- those of one thread, and of the ones behind it
  split : (t : ℕ) (thread : PlainThread) (threads : List PlainThread) → behind t (thread ∷ threads) ≡ thread_details c falls t thread ++ behind (suc t) threads
  split t thread threads = append_assoc (thread_details c falls t thread) (threads_details c falls (suc t) threads) (detail.Faults n ∷ [])

  fall_first : (t : ℕ) (o : Option PlainFall) (rest : List Detail) → serves_first servers rest ≡ false → serves_first servers (fall_details c t o ++ rest) ≡ false
  fall_first t None rest none = none
  fall_first t (Some fall) rest none = any_false servers

  behind_first : (t : ℕ) (threads : List PlainThread) → serves_first servers (behind t threads) ≡ false
  behind_first t [] = any_false servers
  behind_first t (running ∷ threads) = any_false servers
  behind_first t (pending_on g ∷ threads) = any_false servers
  behind_first t (ended ∷ threads) =
      ap (serves_first servers) (split t ended threads) ∙ fall_first t (falls t) (behind (suc t) threads) (behind_first (suc t) threads)

  -- what is said behind that a thread waits
  waiting_first : (t : ℕ) (bs : List PlainBase) (rest : List Detail) → serves_first servers rest ≡ false
      → serves_first servers ((standing_details c t ++ map kind_detail bs) ++ rest) ≡ is_server servers (slice_get began t)
  waiting_first t bs rest none =
      let first = began_details (slice_get began t) in
      let place = call_details (option_and_then call_of_machine (slice_get c.machines t)) in
      let kinds = map kind_detail bs in
      let parts : ((first ++ place) ++ kinds) ++ rest ≡ first ++ (place ++ (kinds ++ rest)) =
      append_assoc (first ++ place) kinds rest ∙ append_assoc first place (kinds ++ rest) in
      ap (serves_first servers) parts
      ∙ began_first servers (slice_get began t) (place ++ (kinds ++ rest))
      (call_first servers (option_and_then call_of_machine (slice_get c.machines t)) (kinds ++ rest) (kinds_first servers bs rest none))

  one_held : (t : ℕ) (thread : PlainThread) (rest : List Detail) → serves_first servers rest ≡ false
      → held servers (thread_details c falls t thread ++ rest) ≡ is_held_up servers (slice_get began t) thread || held servers rest
  one_held t running rest none = skips servers (standing_details c t) rest (no_wait_standing c t)
  one_held t (pending_on g) rest none =
      let kinds = map kind_detail (bases g) in
      ap₂ (λ a b. not a || b) (waiting_first t (bases g) rest none)
      (skips servers (standing_details c t ++ kinds) rest (neither (standing_details c t) kinds (no_wait_standing c t) (no_wait_kinds (bases g))))
  one_held t ended rest none = skips servers (fall_details c t (falls t)) rest (no_wait_fall c t (falls t))

  all_held : (t : ℕ) (threads : List PlainThread) → held servers (behind t threads) ≡ some_held_up servers began t threads
  all_held t [] = refl
  all_held t (thread ∷ threads) =
      ap (held servers) (split t thread threads)
      ∙ (one_held t thread (behind (suc t) threads) (behind_first (suc t) threads)
      ∙ ap (λ b. is_held_up servers (slice_get began t) thread || b) (all_held (suc t) threads))

-- ---- the properties that are broken

-- no detail stands there
abbrev is_bare : List Detail → Bool
is_bare [] = true
is_bare (d ∷ ds) = false

bare_same : (ds es : List Detail) → alike ds es ≡ true → is_bare ds ≡ is_bare es
bare_same [] [] same = refl
bare_same [] (e ∷ es) same = cc
bare_same (d ∷ ds) [] same = cc
bare_same (d ∷ ds) (e ∷ es) same = refl

kept_bare : (k : ℕ) (judged : List (Option ℕ)) → are_all_kept judged ≡ is_bare (break_details k judged)
kept_bare k [] = refl
kept_bare k (None ∷ judged) = kept_bare (suc k) judged
kept_bare k (Some line ∷ judged) = refl

-- among the properties that are broken no count of faults stands
breaks_first : (k : ℕ) (judged : List (Option ℕ)) (ys : List Detail) (n : ℕ) (rest : List Detail) → alike (break_details k judged) (ys ++ detail.Faults n ∷ rest) ≡ true → ⊥
breaks_first k [] [] n rest same = cc
breaks_first k [] (y ∷ ys) n rest same = cc
breaks_first k (None ∷ judged) ys n rest same = breaks_first (suc k) judged ys n rest same
breaks_first k (Some line ∷ judged) [] n rest same = cc
breaks_first k (Some line ∷ judged) (y ∷ ys) n rest same =
    breaks_first (suc k) judged ys n rest (both_true (same_detail (detail.Breaks k) y) (alike (break_details (suc k) judged) (ys ++ detail.Faults n ∷ rest)) same).1

breaks_last : (k : ℕ) (judged : List (Option ℕ)) (xs : List Detail) (n : ℕ) (rest : List Detail) → alike (xs ++ detail.Faults n ∷ rest) (break_details k judged) ≡ true → ⊥
breaks_last k [] [] n rest same = cc
breaks_last k [] (x ∷ xs) n rest same = cc
breaks_last k (None ∷ judged) xs n rest same = breaks_last (suc k) judged xs n rest same
breaks_last k (Some line ∷ judged) [] n rest same = cc
breaks_last k (Some line ∷ judged) (x ∷ xs) n rest same =
    breaks_last (suc k) judged xs n rest (both_true (same_detail x (detail.Breaks k)) (alike (xs ++ detail.Faults n ∷ rest) (break_details (suc k) judged)) same).1

both_hold : (a b : Bool) → a ≡ true → b ≡ true → a && b ≡ true
both_hold a b one other = ap₂ (λ x y. x && y) one other

-- What is alike with the properties that are broken is alike without them, and so are those.
parts_alike : (one other : List (Option ℕ)) (xs ys : List Detail) (m n : ℕ)
    → alike (xs ++ detail.Faults m ∷ break_details 0 one) (ys ++ detail.Faults n ∷ break_details 0 other) ≡ true
    → (alike (xs ++ detail.Faults m ∷ []) (ys ++ detail.Faults n ∷ []) ≡ true) × (alike (break_details 0 one) (break_details 0 other) ≡ true)
parts_alike one other [] [] m n same =
    let parts = both_true (same_detail (detail.Faults m) (detail.Faults n)) (alike (break_details 0 one) (break_details 0 other)) same in
    (both_hold (same_detail (detail.Faults m) (detail.Faults n)) true parts.0 refl, parts.1)
parts_alike one other [] (y ∷ ys) m n same =
    absurd (breaks_first 0 one ys n (break_details 0 other) (both_true (same_detail (detail.Faults m) y) (alike (break_details 0 one) (ys ++ detail.Faults n ∷ break_details 0 other)) same).1)
parts_alike one other (x ∷ xs) [] m n same =
    absurd (breaks_last 0 other xs m (break_details 0 one) (both_true (same_detail x (detail.Faults n)) (alike (xs ++ detail.Faults m ∷ break_details 0 one) (break_details 0 other)) same).1)
parts_alike one other (x ∷ xs) (y ∷ ys) m n same =
    let parts = both_true (same_detail x y) (alike (xs ++ detail.Faults m ∷ break_details 0 one) (ys ++ detail.Faults n ∷ break_details 0 other)) same in
    let rest = parts_alike one other xs ys m n parts.1 in
    (both_hold (same_detail x y) (alike (xs ++ detail.Faults m ∷ []) (ys ++ detail.Faults n ∷ [])) parts.0 rest.0, rest.1)

-- ---- and so whether it was a good one

good_same : (a b c d e f : Bool) (m n : ℕ) → a ≡ b → c ≡ d → m ≡ n → e ≡ f → (a && not c && (m == 0) && e) ≡ (b && not d && (n == 0) && f)
good_same a b c d e f m n one two three four = cc

abbrev faults_of : Kept → ℕ
faults_of h = fault_count (text_of h.course.program) h.course.items

-- the details of a run, and behind them those of the properties that it breaks
with_breaks : (h : Kept) (falls : ℕ → Option PlainFall) (own : List Detail) (judged : List (Option ℕ)) (all : List Detail) → own ≡ details_with h falls
    → all ≡ own ++ break_details 0 judged
    → all ≡ end_detail (ending h.budget (run_of h.course)) ∷ (threads_details h.course falls 0 h.course.world.threads ++ detail.Faults (faults_of h) ∷ break_details 0 judged)
with_breaks h falls own judged all own_is all_is =
    all_is ∙ (ap (λ (ds : List Detail). ds ++ break_details 0 judged) own_is
    ∙ ap (λ (ds : List Detail). end_detail (ending h.budget (run_of h.course)) ∷ ds)
    (append_assoc (threads_details h.course falls 0 h.course.world.threads) (detail.Faults (faults_of h) ∷ []) (break_details 0 judged)))

module _ (servers : List ℕ) (one other : Kept) (f g : ℕ → Option PlainFall) (j k : List (Option ℕ)) where
  abbrev left : List Detail
  left = threads_details one.course f 0 one.course.world.threads

  abbrev right : List Detail
  right = threads_details other.course g 0 other.course.world.threads

  abbrev first_end : End
  first_end = ending one.budget (run_of one.course)

  abbrev second_end : End
  second_end = ending other.budget (run_of other.course)

  fates_alike : alike (end_detail first_end ∷ (left ++ detail.Faults (faults_of one) ∷ break_details 0 j))
      (end_detail second_end ∷ (right ++ detail.Faults (faults_of other) ∷ break_details 0 k)) ≡ true
      → is_good (fate_of servers one (are_all_kept j)) ≡ is_good (fate_of servers other (are_all_kept k))
  fates_alike whole =
      let parts =
      both_true (same_detail (end_detail first_end) (end_detail second_end))
      (alike (left ++ detail.Faults (faults_of one) ∷ break_details 0 j) (right ++ detail.Faults (faults_of other) ∷ break_details 0 k)) whole in
      let apart = parts_alike j k left right (faults_of one) (faults_of other) parts.1 in
      good_same _ _ _ _ _ _ _ _ (ends_same first_end second_end parts.0)
      (sym (all_held servers one.course f (faults_of one) 0 one.course.world.threads)
      ∙ (held_same servers (left ++ detail.Faults (faults_of one) ∷ []) (right ++ detail.Faults (faults_of other) ∷ []) apart.0
      ∙ all_held servers other.course g (faults_of other) 0 other.course.world.threads))
      (counts_same (faults_of one) (faults_of other) (last_same left right (detail.Faults (faults_of one)) (detail.Faults (faults_of other)) apart.0))
      (kept_bare 0 j ∙ (bare_same (break_details 0 j) (break_details 0 k) apart.1 ∙ sym (kept_bare 0 k)))

along : (a b c d : List Detail) → a ≡ c → b ≡ d → alike a b ≡ true → alike c d ≡ true
along a b c d e f same = subst (λ (xs : List Detail). alike xs d ≡ true) e (subst (λ (ys : List Detail). alike a ys ≡ true) f same)

pub judged_alike : JudgedAlike
judged_alike servers wanted one other d e of_one of_other same =
    let first = with_breaks one of_one.own_are.falls of_one.own of_one.judged d.finish.details of_one.own_are.details_are (ap (λ (f : Finish). f.details) of_one.finish_is) in
    let second = with_breaks other of_other.own_are.falls of_other.own of_other.judged e.finish.details of_other.own_are.details_are (ap (λ (f : Finish). f.details) of_other.finish_is) in
    ap is_good of_one.fate_is
    ∙ (fates_alike servers one other of_one.own_are.falls of_other.own_are.falls of_one.judged of_other.judged
    (along _ _ _ _ first second same)
    ∙ sym (ap is_good of_other.fate_is))
