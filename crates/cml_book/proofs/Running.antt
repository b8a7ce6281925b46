-- Which threads run after a command, by its reply.
use Rattle.std.proofs.Common.{◌≡◌, ℕ, zero, suc, ◌<◌, Bool, true, false, not, ◌&&◌, ◌||◌, nat_eq, List, [], ◌∷◌, ◌++◌, length, length-set, Option, Some, None, refl, ap, sym, ◌∙◌, arith}
use Rattle.std.specs.Prelude.{nat_lt, nat_le, slice_get, slice_set}
use Rattle.std.specs.Option.{option_map_or}
use Rattle.std.proofs.lemmas.Bool.Decides.{nat_tests}
use Rattle.std.proofs.lemmas.Option.{slice_get_within}
use Rattle.cml_value.specs.Value.{PlainBase}
use Rattle.cml_value.specs.declared.number.Tid.{Tid}
use Rattle.cml_scan.specs.World.{PlainThread, running, pending_on, ended, PlainWorld}
use Rattle.cml_value.specs.Limits.{value_fits}
use Rattle.cml_objects.specs.Queues.{is_full_at}
use Rattle.cml_objects.specs.Posts.{any_is_full}
use Rattle.cml_scan.specs.Light.{lit, is_full}
use Rattle.cml_scan.specs.Scan.{scan, has_row}
use Rattle.cml_scan.specs.Order.{is_lit_there, meet_at}
use Rattle.cml_scan.specs.Enabled.{leaf_of}
use Rattle.cml_scan.specs.declared.meet.Meet.{Meet}
use Rattle.cml_scan.specs.declared.meet.Meet.TheVariants.{Single, Pair}
use Rattle.cml_scan.proofs.Enabling.{has_row-scan}
use Rattle.cml_book.specs.declared.refusal.Refusal.{Refusal}
use Rattle.cml_book.specs.declared.command.Command.{Command}
use Rattle.cml_book.specs.declared.command.Command.TheVariants as command
use Rattle.cml_book.specs.declared.command.Reply.{Reply}
use Rattle.cml_book.specs.declared.command.Reply.TheVariants as reply
use Rattle.cml_book.specs.Outcomes.{Outcome, refuse_if, refuse_by, thread_refusal, max_threads, max_objects}
use Rattle.cml_book.specs.Commit.{after, hands, base_awaited, commit}
use Rattle.cml_book.specs.Walks.{runs, is_running}
use Rattle.cml_book.specs.Step.{answered, step}
use Rattle.cml_book.specs.Running.{runs_after, is_party}
use Rattle.cml_book.specs.Entering.{entered, max_tick}
use Rattle.cml_book.specs.Spawn.{spawn}
use Rattle.cml_book.specs.MakeChan.{make_chan}
use Rattle.cml_book.specs.MakeSwap.{make_swap}
use Rattle.cml_book.specs.MakeObjects.{held_fits, make_ivar, make_mvar, make_mailbox, make_mchan}
use Rattle.cml_book.specs.MakePort.{ports_at, make_port, copy_port}
use Rattle.cml_book.specs.Put.{iput, mput}
use Rattle.cml_book.specs.Mail.{mail}
use Rattle.cml_book.specs.Multicast.{multicast}
use Rattle.cml_book.specs.Nack.{nack}
use Rattle.cml_book.specs.Sync.{sync_refusal, sync}
use Rattle.cml_book.specs.End.{end}
use Rattle.cml_book.specs.Clock.{clock}
use Rattle.cml_book.proofs.Dimmed.{taken-threads}

-- whether the thread of this number runs
abbrev run_at : List PlainThread → ℕ → Bool
run_at ts t = option_map_or runs (slice_get ts t) false

zero_not : (t : ℕ) → nat_eq zero (suc t) ≡ false
zero_not t = grind (arith, nat_tests)

not_zero : (t : ℕ) → nat_eq (suc t) zero ≡ false
not_zero t = grind (arith, nat_tests)

both_more : (u t : ℕ) → nat_eq (suc u) (suc t) ≡ nat_eq u t
both_more u t = at (nat_eq u t) refl
  where
    at : (b : Bool) → nat_eq u t ≡ b → nat_eq (suc u) (suc t) ≡ b
    at true e = grind (arith, nat_tests)
    at false e = grind (arith, nat_tests)

-- one thread runs no more
stopped : (ts : List PlainThread) (u t : ℕ) (x : PlainThread) → runs x ≡ false → run_at (slice_set ts u x) t ≡ not (nat_eq u t) && run_at ts t
stopped [] u t x idle = none (not (nat_eq u t))
  where
    none : (b : Bool) → false ≡ b && false
    none true = refl
    none false = refl
stopped (y ∷ ts) zero zero x idle = idle
stopped (y ∷ ts) zero (suc t) x idle = rw (zero_not t) refl
stopped (y ∷ ts) (suc u) zero x idle = rw (not_zero u) refl
stopped (y ∷ ts) (suc u) (suc t) x idle = stopped ts u t x idle ∙ ap (λ b. not b && run_at ts t) (sym (both_more u t))

-- one thread that is there runs
woken : (ts : List PlainThread) (u t : ℕ) → u < length ts → run_at (slice_set ts u running) t ≡ nat_eq u t || run_at ts t
woken [] u t there = absurd (omega arith)
woken (y ∷ ts) zero zero there = refl
woken (y ∷ ts) zero (suc t) there = rw (zero_not t) refl
woken (y ∷ ts) (suc u) zero there = rw (not_zero u) refl
woken (y ∷ ts) (suc u) (suc t) there = woken ts u t (omega arith) ∙ ap (λ b. b || run_at ts t) (sym (both_more u t))

-- one more thread runs
made : (ts : List PlainThread) (t : ℕ) → run_at (ts ++ running ∷ []) t ≡ nat_eq (length ts) t || run_at ts t
made [] zero = refl
made [] (suc t) = rw (zero_not t) refl
made (y ∷ ts) zero = rw (not_zero (length ts)) refl
made (y ∷ ts) (suc t) = made ts t ∙ ap (λ b. b || run_at ts t) (sym (both_more (length ts) t))

-- the thread of a row that is in the scan is there
single_there : (w : PlainWorld) (t : Tid) (n : ℕ) → has_row (scan w) (Single t n) ≡ true → t.0 < length w.threads
single_there w t n e = at (slice_get w.threads t.0) refl (sym (has_row-scan w (Single t n)) ∙ e)
  where
    at : (o : Option PlainThread) → slice_get w.threads t.0 ≡ o → is_lit_there (lit w) (leaf_of (slice_get w.threads t.0) n) ≡ true → t.0 < length w.threads
    at None is e = (let no : is_lit_there (lit w) (leaf_of None n) ≡ true = rw is at e in cc)
    at (Some x) is e = slice_get_within w.threads t.0 x is

no_second : (a b : ℕ) (o : Option PlainBase) → meet_at a b o None ≡ false
no_second a b None = refl
no_second a b (Some x) = refl

pair_there : (w : PlainWorld) (h : Tid) (i : ℕ) (o : Tid) (j : ℕ) → has_row (scan w) (Pair h i o j) ≡ true → (h.0 < length w.threads) × (o.0 < length w.threads)
pair_there w h i o j e = at (slice_get w.threads h.0) (slice_get w.threads o.0) refl refl (sym (has_row-scan w (Pair h i o j)) ∙ e)
  where
    at : (p q : Option PlainThread) → slice_get w.threads h.0 ≡ p → slice_get w.threads o.0 ≡ q
        → meet_at h.0 o.0 (leaf_of (slice_get w.threads h.0) i) (leaf_of (slice_get w.threads o.0) j) ≡ true → (h.0 < length w.threads) × (o.0 < length w.threads)
    at None q is be e = (let no : meet_at h.0 o.0 (leaf_of None i) (leaf_of (slice_get w.threads o.0) j) ≡ true = rw is at e in cc)
    at (Some x) None is be e = (let no : meet_at h.0 o.0 (leaf_of (slice_get w.threads h.0) i) (leaf_of None j) ≡ true = rw be at e in
        let not : meet_at h.0 o.0 (leaf_of (slice_get w.threads h.0) i) None ≡ false = no_second h.0 o.0 _ in
        cc)
    at (Some x) (Some y) is be e = (slice_get_within w.threads h.0 x is, slice_get_within w.threads o.0 y be)

-- the law for one outcome
record Follows {R : Type 0} (c : Command) (w : PlainWorld) (t : ℕ) (f : R → Reply) (o : Outcome R) : Type 0 where
  stays : is_running (answered f w o).0 t ≡ runs_after (answered f w o).1 c t (is_running w t)

-- a refusal leaves all as they were
unless_if : {R : Type 0} {c : Command} {w : PlainWorld} {t : ℕ} {f : R → Reply} (b : Bool) (why : Refusal)
    (rest : Outcome R) → (b ≡ false → Follows c w t f rest) → Follows c w t f (refuse_if b why rest)
unless_if true why rest k = record { stays = refl }
unless_if false why rest k = k refl

unless_by : {R : Type 0} {c : Command} {w : PlainWorld} {t : ℕ} {f : R → Reply} (o : Option Refusal) (rest : Outcome R) → Follows c w t f rest → Follows c w t f (refuse_by o rest)
unless_by None rest k = k
unless_by (Some why) rest k = record { stays = refl }

was_true : (b : Bool) → not b ≡ false → b ≡ true
was_true true e = refl
was_true false e = cc

either : (a b c : Bool) → a || (b || c) ≡ (b || a) || c
either true true c = refl
either true false c = refl
either false true c = refl
either false false c = refl

alone : (a c : Bool) → a || c ≡ (a || false) || c
alone true c = refl
alone false c = refl

committed : (w : PlainWorld) (row : Meet) (t : ℕ) → has_row (scan w) row ≡ true → is_running (after w row) t ≡ is_party t (hands w row) || is_running w t
committed w (Single u n) t e = rw (taken-threads w (base_awaited w u.0 n)) (woken w.threads u.0 t (single_there w u n e) ∙ alone (nat_eq u.0 t) (run_at w.threads t))
committed w (Pair h i o j) t e =
    let there = pair_there w h i o j e in
    let long : length (slice_set w.threads h.0 running) ≡ length w.threads = length-set w.threads h.0 running in
    let second : o.0 < length (slice_set w.threads h.0 running) = omega (arith, long, there.1) in
    woken (slice_set w.threads h.0 running) o.0 t second ∙ ap (λ b. nat_eq o.0 t || b) (woken w.threads h.0 t there.0) ∙ either (nat_eq o.0 t) (nat_eq h.0 t) (run_at w.threads t)

-- which threads run after a command
pub runs-step : (w : PlainWorld) (c : Command) (t : ℕ) → is_running (step w c).0 t ≡ runs_after (step w c).1 c t (is_running w t)
runs-step w command.Spawn t = (let h : Follows command.Spawn w t reply.Thread (spawn w) = unless_if (nat_le max_threads (length w.threads)) _ _ (λ _. record { stays = made w.threads t }) in h.stays)
runs-step w command.MakeChan t = (let h : Follows command.MakeChan w t reply.Chan (make_chan w) = unless_if (nat_le max_objects w.channels) _ _ (λ _. record { stays = refl }) in h.stays)
runs-step w command.MakeSwap t = (let h : Follows command.MakeSwap w t reply.Swap (make_swap w) = unless_if (nat_le max_objects w.swaps) _ _ (λ _. record { stays = refl }) in h.stays)
runs-step w command.MakeIVar t = (let h : Follows command.MakeIVar w t reply.IVar (make_ivar w) = unless_if (nat_le max_objects (length w.ivars)) _ _ (λ _. record { stays = refl }) in h.stays)
runs-step w (command.MakeMVar v) t = (let h : Follows (command.MakeMVar v) w t reply.MVar (make_mvar w v) = unless_if (not (held_fits v)) _ _ (λ _. unless_if (nat_le max_objects (length w.mvars)) _ _
    (λ _. record { stays = refl })) in
    h.stays)
runs-step w command.MakeMailbox t = (let h : Follows command.MakeMailbox w t reply.Mailbox (make_mailbox w) = unless_if (nat_le max_objects (length w.mailboxes)) _ _ (λ _. record { stays = refl }) in
    h.stays)
runs-step w command.MakeMChan t = (let h : Follows command.MakeMChan w t reply.Mchan (make_mchan w) = unless_if (nat_le max_objects (length w.mchans)) _ _ (λ _. record { stays = refl }) in h.stays)
runs-step w (command.MakePort x) t = (let h : Follows (command.MakePort x) w t reply.Port (make_port w x.0) = unless_if (not (nat_lt x.0 (length w.mchans))) _ _
    (λ _. unless_if (nat_le max_objects (length w.ports)) _ _ (λ _. record { stays = refl })) in
    h.stays)
runs-step w (command.CopyPort p) t = (let h : Follows (command.CopyPort p) w t reply.Port (copy_port w p.0) = unless_if (not (nat_lt p.0 (length w.ports))) _ _
    (λ _. unless_if (nat_le max_objects (length w.ports)) _ _ (λ _. record { stays = refl })) in
    h.stays)
runs-step w (command.IPut i v) t = (let h : Follows (command.IPut i v) w t (λ _. reply.Done) (iput w i.0 v) = unless_if (not (nat_lt i.0 (length w.ivars))) _ _
    (λ _. unless_if (is_full (slice_get w.ivars i.0)) _ _ (λ _. unless_if (not (value_fits v)) _ _ (λ _. record { stays = refl }))) in
    h.stays)
runs-step w (command.MPut m v) t = (let h : Follows (command.MPut m v) w t (λ _. reply.Done) (mput w m.0 v) = unless_if (not (nat_lt m.0 (length w.mvars))) _ _
    (λ _. unless_if (is_full (slice_get w.mvars m.0)) _ _ (λ _. unless_if (not (value_fits v)) _ _ (λ _. record { stays = refl }))) in
    h.stays)
runs-step w (command.Mail b v) t = (let h : Follows (command.Mail b v) w t (λ _. reply.Done) (mail w b.0 v) = unless_if (not (nat_lt b.0 (length w.mailboxes))) _ _
    (λ _. unless_if (not (value_fits v)) _ _ (λ _. unless_if (is_full_at w.mailboxes b.0) _ _ (λ _. record { stays = refl }))) in
    h.stays)
runs-step w (command.Multicast x v) t = (let h : Follows (command.Multicast x v) w t (λ _. reply.Done) (multicast w x.0 v) = unless_if (not (nat_lt x.0 (length w.mchans))) _ _
    (λ _. unless_if (not (value_fits v)) _ _ (λ _. unless_if (any_is_full (ports_at w.mchans x.0) w.ports) _ _ (λ _. record { stays = refl }))) in
    h.stays)
runs-step w (command.Nack u) t = (let h : Follows (command.Nack u) w t reply.Nack (nack w u.0) = unless_by (thread_refusal (slice_get w.threads u.0)) _ (unless_if (nat_le max_objects
    (length w.nacks)) _ _ (λ _. record { stays = refl })) in
    h.stays)
runs-step w (command.Sync u g) t = (let h : Follows (command.Sync u g) w t
    (λ _. reply.Done) (sync w u.0 g) = unless_by (sync_refusal w u.0 g) _ (record { stays = stopped w.threads u.0 t (pending_on (entered w.tick g)) refl }) in
    h.stays)
runs-step w (command.Commit row) t = (let h : Follows (command.Commit row) w t reply.Committed (commit w row) = unless_if (not (has_row (scan w) row)) _ _
    (λ e. record { stays = committed w row t (was_true (has_row (scan w) row) e) }) in
    h.stays)
runs-step w (command.End u) t = (let h : Follows (command.End u) w t
    (λ _. reply.Done) (end w u.0) = unless_by (thread_refusal (slice_get w.threads u.0)) _ (record { stays = stopped w.threads u.0 t ended refl }) in
    h.stays)
runs-step w (command.Clock k) t = (let h : Follows (command.Clock k) w t (λ _. reply.Done) (clock w k) = unless_if (nat_lt k w.tick) _ _ (λ _. unless_if (nat_lt max_tick k) _ _
    (λ _. record { stays = refl })) in
    h.stays)
