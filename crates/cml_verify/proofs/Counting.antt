-- There are as many terms as threads, and as many functions with which they began, wherever a schedule leads.
use Rattle.std.proofs.Common.{◌≡◌, ℕ, ◌+◌, Bool, true, false, not, nat_lt, nat_le, if◌then◌else◌, List, [], ◌∷◌, ◌++◌, length, map, Option, Some, None, Ok}
use Rattle.std.proofs.Common.{refl, ap, sym, subst, ◌∙◌, arith, length-append, length-set}
use Rattle.std.specs.Prelude.{slice_get, slice_set, option_map, unwrap_or}
use Rattle.std.specs.List.{filter_map}
use Rattle.std.specs.Option.{option_map_or}
use Rattle.std.proofs.lemmas.List.{length-map}
use Rattle.std.proofs.lemmas.List.Elements.{filter_map-append}
use Rattle.std.proofs.lemmas.Option.{same_Some}
use Rattle.cml_value.specs.Value.{unit, chan, swapchan, ivar, mvar, mailbox, mchan, port}
use Rattle.cml_value.specs.Limits.{value_fits}
use Rattle.cml_value.specs.declared.number.Tid.{Tid}
use Rattle.cml_value.specs.declared.number.ChanId.{ChanId}
use Rattle.cml_value.specs.declared.number.SwapId.{SwapId}
use Rattle.cml_value.specs.declared.number.IVarId.{IVarId}
use Rattle.cml_value.specs.declared.number.MVarId.{MVarId}
use Rattle.cml_value.specs.declared.number.MboxId.{MboxId}
use Rattle.cml_value.specs.declared.number.McastId.{McastId}
use Rattle.cml_value.specs.declared.number.PortId.{PortId}
use Rattle.cml_value.specs.declared.number.NackId.{NackId}
use Rattle.cml_scan.specs.World.{PlainThread, running, pending_on, ended, PlainWorld, fresh_of}
use Rattle.cml_scan.specs.Light.{is_full}
use Rattle.cml_scan.specs.declared.meet.Meet.{Meet}
use Rattle.cml_scan.specs.declared.meet.Meet.TheVariants.{Single, Pair}
use Rattle.cml_objects.specs.Queues.{is_full_at, added_at}
use Rattle.cml_objects.specs.Posts.{any_is_full, posted}
use Rattle.cml_step.specs.Asks as ask
use Rattle.cml_step.specs.Asks.{PlainAsk, a_value, a_nack}
use Rattle.cml_step.specs.Calls.{text_of}
use Rattle.cml_step.specs.Faults.{fault_name}
use Rattle.cml_step.specs.Machines.{machine_term}
use Rattle.cml_step.specs.Slices.{PlainSlice, sliced}
use Rattle.cml_step.specs.Terms.{Program, Term}
use Rattle.cml_book.specs.declared.refusal.Refusal.{Refusal}
use Rattle.cml_book.specs.declared.refusal.Refusal.TheVariants as refusal
use Rattle.cml_book.specs.Refusals.{name_of}
use Rattle.cml_book.specs.Commit.{base_awaited, hands, after, taken}
use Rattle.cml_book.specs.Outcomes.{refuse_if, refuse_by, thread_refusal, with_thread, max_threads, max_objects}
use Rattle.cml_book.specs.Resumes.{PlainResume}
use Rattle.cml_book.specs.MakeObjects.{held_fits}
use Rattle.cml_book.specs.MakePort.{ports_at, with_port, heard_by}
use Rattle.cml_book.specs.Sync.{sync_refusal, waiting}
use Rattle.cml_book.specs.Entering.{entered}
use Rattle.cml_book.proofs.Dimmed.{taken-threads}
use Rattle.cml_schedule.specs.declared.item.Item.{Item}
use Rattle.cml_schedule.specs.declared.item.Item.TheVariants.{Turn, Meet as Commit, Exchange, Clock}
use Rattle.cml_hub.specs.Courses.{PlainCourse, run_of}
use Rattle.cml_hub.specs.Deeds.{deed, after_deed, deeds_from, begotten, origins}
use Rattle.cml_hub.specs.Performed.{PlainDone, goes, gets, spawns, prints, waits, ends, fails, done, or_fails, performed}
use Rattle.cml_hub.specs.Runs.{Run, opening, term_after, begun, after_slice, turned_by, resumed, all_resumed, met, ticked, is_allowed, after_item, advance, stands, stands_from}
use Rattle.cml_verify.specs.Cores.{done_by}
use Rattle.cml_verify.proofs.Viewed.{none_from, after_split}

-- how many threads begin by these
abbrev births : List PlainDone → ℕ
births ds = length (filter_map begotten ds)

births_more : (ds es : List PlainDone) → births (ds ++ es) ≡ births ds + births es
births_more ds es = ap length (filter_map-append begotten ds es) ∙ length-append (filter_map begotten ds) (filter_map begotten es)

begun_count : (p : Program) (d : PlainDone) → length (begun p d) ≡ births (d ∷ [])
begun_count p goes = refl
begun_count p (gets answer) = refl
begun_count p (spawns n f) = refl
begun_count p (prints text) = refl
begun_count p waits = refl
begun_count p ends = refl
begun_count p (fails name) = refl

-- as many threads more as begin
abbrev Grows : PlainWorld → PlainWorld × PlainDone → Type 0
Grows w x = length x.0.threads ≡ length w.threads + births (x.1 ∷ [])

-- no thread more
same : (w : PlainWorld) → length w.threads ≡ length w.threads + 0
same w = omega arith

set_same : (w : PlainWorld) (t : ℕ) (x : PlainThread) → length (slice_set w.threads t x) ≡ length w.threads + 0
set_same w t x = omega (arith, length-set w.threads t x)

-- a thread that ends at a fault
fails_so : (w : PlainWorld) (t : ℕ) (name : List ℕ) → Grows w (with_thread w t ended, fails name)
fails_so w t name = set_same w t ended

-- the same where one, two or three refusals come first
module _ {R : Type 0} (w : PlainWorld) (t : ℕ) (so : R → PlainDone) (new : PlainWorld × R) (h : Grows w (new.0, so new.1)) where
  one : (a : Bool) (r : Refusal) → Grows w (or_fails w t (done so (refuse_if a r (Ok new))))
  one true r = fails_so w t (name_of r)
  one false r = h

  two : (a b : Bool) (r s : Refusal) → Grows w (or_fails w t (done so (refuse_if a r (refuse_if b s (Ok new)))))
  two true b r s = fails_so w t (name_of r)
  two false b r s = one b s

  three : (a b c : Bool) (r s u : Refusal) → Grows w (or_fails w t (done so (refuse_if a r (refuse_if b s (refuse_if c u (Ok new))))))
  three true b c r s u = fails_so w t (name_of r)
  three false b c r s u = two b c s u

  by_one : (o : Option Refusal) → Grows w (or_fails w t (done so (refuse_by o (Ok new))))
  by_one (Some r) = fails_so w t (name_of r)
  by_one None = h

  by_two : (o : Option Refusal) (a : Bool) (r : Refusal) → Grows w (or_fails w t (done so (refuse_by o (refuse_if a r (Ok new)))))
  by_two (Some s) a r = fails_so w t (name_of s)
  by_two None a r = one a r

-- what is asked makes as many threads as begin
performed_grows : (w : PlainWorld) (t : ℕ) (a : PlainAsk) → Grows w (performed w t a)
performed_grows w t ask.nothing = same w
performed_grows w t ask.yield = same w
performed_grows w t (ask.spawn f) =
    one w t (λ (n : Tid). spawns n.0 f) (record w { threads = w.threads ++ running ∷ [] }, record { 0 = length w.threads }) (length-append w.threads (running ∷ []))
    (nat_le max_threads (length w.threads)) refusal.Full
performed_grows w t ask.make_chan =
    one w t (λ (c : ChanId). gets (a_value (chan c.0))) (record w { channels = w.channels + 1 }, record { 0 = w.channels }) (same w) (nat_le max_objects w.channels) refusal.Full
performed_grows w t ask.make_swap =
    one w t (λ (s : SwapId). gets (a_value (swapchan s.0))) (record w { swaps = w.swaps + 1 }, record { 0 = w.swaps }) (same w) (nat_le max_objects w.swaps) refusal.Full
performed_grows w t ask.make_ivar =
    one w t (λ (i : IVarId). gets (a_value (ivar i.0))) (record w { ivars = w.ivars ++ None ∷ [] }, record { 0 = length w.ivars }) (same w)
    (nat_le max_objects (length w.ivars)) refusal.Full
performed_grows w t (ask.make_mvar v) =
    two w t (λ (m : MVarId). gets (a_value (mvar m.0))) (record w { mvars = w.mvars ++ v ∷ [] }, record { 0 = length w.mvars }) (same w)
    (not (held_fits v)) (nat_le max_objects (length w.mvars)) refusal.Deep refusal.Full
performed_grows w t ask.make_mailbox =
    one w t (λ (b : MboxId). gets (a_value (mailbox b.0))) (record w { mailboxes = w.mailboxes ++ [] ∷ [] }, record { 0 = length w.mailboxes }) (same w)
    (nat_le max_objects (length w.mailboxes)) refusal.Full
performed_grows w t ask.make_mchan =
    one w t (λ (x : McastId). gets (a_value (mchan x.0))) (record w { mchans = w.mchans ++ [] ∷ [] }, record { 0 = length w.mchans }) (same w)
    (nat_le max_objects (length w.mchans)) refusal.Full
performed_grows w t (ask.make_port x) =
    two w t (λ (p : PortId). gets (a_value (port p.0)))
    (record w { mchans = with_port w.mchans x (length w.ports); ports = w.ports ++ [] ∷ [] }, record { 0 = length w.ports }) (same w)
    (not (nat_lt x (length w.mchans))) (nat_le max_objects (length w.ports)) refusal.Object refusal.Full
performed_grows w t (ask.copy_port p) =
    two w t (λ (q : PortId). gets (a_value (port q.0))) (
      record w { mchans = map (heard_by (length w.ports) p) w.mchans; ports = w.ports ++ unwrap_or (slice_get w.ports p) [] ∷ [] },
      record { 0 = length w.ports },
    ) (same w)
    (not (nat_lt p (length w.ports))) (nat_le max_objects (length w.ports)) refusal.Object refusal.Full
performed_grows w t (ask.iput i v) =
    three w t (λ (u : Unit {0}). gets (a_value unit)) (record w { ivars = slice_set w.ivars i (Some v) }, tt) (same w)
    (not (nat_lt i (length w.ivars))) (is_full (slice_get w.ivars i)) (not (value_fits v)) refusal.Object refusal.Put refusal.Deep
performed_grows w t (ask.mput m v) =
    three w t (λ (u : Unit {0}). gets (a_value unit)) (record w { mvars = slice_set w.mvars m (Some v) }, tt) (same w)
    (not (nat_lt m (length w.mvars))) (is_full (slice_get w.mvars m)) (not (value_fits v)) refusal.Object refusal.Put refusal.Deep
performed_grows w t (ask.mail b v) =
    three w t (λ (u : Unit {0}). gets (a_value unit)) (record w { mailboxes = added_at w.mailboxes b v }, tt) (same w)
    (not (nat_lt b (length w.mailboxes))) (not (value_fits v)) (is_full_at w.mailboxes b) refusal.Object refusal.Deep refusal.Full
performed_grows w t (ask.multicast x v) =
    three w t (λ (u : Unit {0}). gets (a_value unit)) (record w { ports = posted v (ports_at w.mchans x) w.ports }, tt) (same w)
    (not (nat_lt x (length w.mchans))) (not (value_fits v)) (any_is_full (ports_at w.mchans x) w.ports) refusal.Object refusal.Deep refusal.Full
performed_grows w t (ask.print v) = same w
performed_grows w t ask.now = same w
performed_grows w t ask.fresh_nack =
    by_two w t (λ (k : NackId). gets (a_nack k.0)) (record w { nacks = w.nacks ++ fresh_of t ∷ [] }, record { 0 = length w.nacks }) (same w)
    (thread_refusal (slice_get w.threads t)) (nat_le max_objects (length w.nacks)) refusal.Full
performed_grows w t (ask.sync g) =
    by_one w t (λ (u : Unit {0}). waits) (waiting w t (entered w.tick g), tt) (set_same w t (pending_on (entered w.tick g))) (sync_refusal w t g)
performed_grows w t ask.end =
    by_one w t (λ (u : Unit {0}). ends) (with_thread w t ended, tt) (set_same w t ended) (thread_refusal (slice_get w.threads t))
performed_grows w t (ask.fault why) =
    by_one w t (λ (u : Unit {0}). fails (fault_name why)) (with_thread w t ended, tt) (set_same w t ended) (thread_refusal (slice_get w.threads t))

-- as many terms as threads, and so many functions with which they began
pub record AreAsMany (t b n : ℕ) : Type 0 where
  pub terms : t ≡ n
  pub began : b ≡ n

slice_counts : (p : Program) (r : Run) (t n : ℕ) (s : PlainSlice) (x : PlainWorld × PlainDone) → Grows r.world x → AreAsMany (length r.terms) n (length r.world.threads)
    → AreAsMany (length (after_slice p r t s x).terms) (n + births (x.1 ∷ [])) (length x.0.threads)
slice_counts p r t n s x g h =
    let set : length (slice_set r.terms t (term_after p s.end x.1)) ≡ length r.terms = length-set r.terms t (term_after p s.end x.1) in
    let terms : length (slice_set r.terms t (term_after p s.end x.1) ++ begun p x.1) ≡ length (slice_set r.terms t (term_after p s.end x.1)) + length (begun p x.1) =
    length-append (slice_set r.terms t (term_after p s.end x.1)) (begun p x.1) in
    record { terms = omega (arith, terms, set, begun_count p x.1, g, h.terms); began = omega (arith, g, h.began) }

turn_counts : (p : Program) (r new : Run) (t n : ℕ) (o : Option Term) → option_map (λ term. turned_by p r t (sliced p t term)) o ≡ Some new
    → AreAsMany (length r.terms) n (length r.world.threads)
    → AreAsMany (length new.terms) (n + births (after_deed (option_map (λ term. (performed r.world t (sliced p t term).ask).1) o) [])) (length new.world.threads)
turn_counts p r new t n None e h = absurd (cc)
turn_counts p r new t n (Some term) e h =
    let s = sliced p t term in
    let x = performed r.world t s.ask in
    subst (λ (q : Run). AreAsMany (length q.terms) (n + births (x.1 ∷ [])) (length q.world.threads)) (same_Some (turned_by p r t s) new e)
    (slice_counts p r t n s x (performed_grows r.world t s.ask) h)

-- the parties of a row go on
resumed_count : (p : Program) (terms : List Term) (r : PlainResume) → length (resumed p terms r) ≡ length terms
resumed_count p terms r = length-set terms r.thread _

all_resumed_count : (p : Program) (terms : List Term) (head : PlainResume) (partner : Option PlainResume)
    → length (option_map_or (resumed p (resumed p terms head)) partner (resumed p terms head)) ≡ length terms
all_resumed_count p terms head None = resumed_count p terms head
all_resumed_count p terms head (Some r) = resumed_count p (resumed p terms head) r ∙ resumed_count p terms head

after_count : (w : PlainWorld) (row : Meet) → length (after w row).threads ≡ length w.threads
after_count w (Single t n) = length-set (taken w (base_awaited w t.0 n)).threads t.0 running ∙ ap length (taken-threads w (base_awaited w t.0 n))
after_count w (Pair a i o j) = length-set (slice_set w.threads a.0 running) o.0 running ∙ length-set w.threads a.0 running

row_counts : (p : Program) (r : Run) (row : Meet) (n : ℕ) → AreAsMany (length r.terms) n (length r.world.threads)
    → AreAsMany (length (all_resumed p r.terms (hands r.world row))) (n + 0) (length (after r.world row).threads)
row_counts p r row n h =
    let terms : length (all_resumed p r.terms (hands r.world row)) ≡ length r.terms = all_resumed_count p r.terms (hands r.world row).head (hands r.world row).partner in
    record { terms = omega (arith, terms, after_count r.world row, h.terms); began = omega (arith, after_count r.world row, h.began) }

item_counts : (p : Program) (r new : Run) (i : Item) (n : ℕ) → after_item p r i ≡ Some new → AreAsMany (length r.terms) n (length r.world.threads)
    → AreAsMany (length new.terms) (n + births (done_by p r i)) (length new.world.threads)
item_counts p r new (Turn t) n e h = turn_counts p r new t.0 n (slice_get r.terms t.0) e h
item_counts p r new (Commit row) n e h =
    subst (λ (q : Run). AreAsMany (length q.terms) (n + 0) (length q.world.threads)) (same_Some (met p r row) new e) (row_counts p r row n h)
item_counts p r new (Exchange row) n e h =
    subst (λ (q : Run). AreAsMany (length q.terms) (n + 0) (length q.world.threads)) (same_Some (met p r row) new e) (row_counts p r row n h)
item_counts p r new (Clock tick) n e h =
    subst (λ (q : Run). AreAsMany (length q.terms) (n + 0) (length q.world.threads)) (same_Some (ticked r tick) new e)
    (record { terms = h.terms; began = omega (arith, h.began) })

where_allowed : (b : Bool) (o : Option Run) (new : Run) → (if b then o else None) ≡ Some new → o ≡ Some new
where_allowed true o new e = e
where_allowed false o new e = absurd (cc)

-- so is it from this run on
abbrev CountsOn : Program → List Item → Run → Run → ℕ → Type 0
CountsOn p items new r n = stands_from p (Some r) items ≡ Some new → AreAsMany (length r.terms) n (length r.world.threads)
    → AreAsMany (length new.terms) (n + births (deeds_from p (Some r) items)) (length new.world.threads)

from_next : (p : Program) (items : List Item) (new r : Run) (n : ℕ) (i : Item) → ((q : Run) (m : ℕ) → CountsOn p items new q m) → AreAsMany (length r.terms) n (length r.world.threads)
    → (o : Option Run) → advance p r i ≡ o → stands_from p o items ≡ Some new
    → AreAsMany (length new.terms) (n + births (after_deed (deed p r i) (deeds_from p o items))) (length new.world.threads)
from_next p items new r n i rest h None is leads = let f : None ≡ Some new = sym (none_from p items) ∙ leads in absurd (cc)
from_next p items new r n i rest h (Some q) is leads =
    let here = item_counts p r q i n (where_allowed (is_allowed r.world i) (after_item p r i) q is) h in
    let behind = rest q (n + births (done_by p r i)) leads here in
    let split : births (after_deed (deed p r i) (deeds_from p (Some q) items)) ≡ births (done_by p r i) + births (deeds_from p (Some q) items) =
    ap births (after_split (deed p r i) (deeds_from p (Some q) items)) ∙ births_more (done_by p r i) (deeds_from p (Some q) items) in
    record { terms = behind.terms; began = omega (arith, behind.began, split) }

from_here : (p : Program) (items : List Item) (new r : Run) (n : ℕ) → CountsOn p items new r n
from_here p [] new r n e h =
    subst (λ (q : Run). AreAsMany (length q.terms) (n + 0) (length q.world.threads)) (same_Some r new e) (record { terms = h.terms; began = omega (arith, h.began) })
from_here p (i ∷ items) new r n e h = from_next p items new r n i (λ q m. from_here p items new q m) h (advance p r i) refl e

as_many : (p : Program) (items : List Item) (r : Run) → stands p items ≡ Some r → AreAsMany (length r.terms) (length (origins p items)) (length r.world.threads)
as_many p items r e =
    let h = from_here p items r (opening p) 1 e (record { terms = refl; began = refl }) in
    record { terms = h.terms; began = omega (arith, h.began) }

-- as many machines as threads
pub as_many_machines : (c : PlainCourse) → stands (text_of c.program) c.items ≡ Some (run_of c) → length c.machines ≡ length c.world.threads
as_many_machines c e = sym (length-map c.machines (machine_term c.program)) ∙ (as_many (text_of c.program) c.items (run_of c) e).terms

-- as many functions with which threads began
pub as_many_origins : (c : PlainCourse) → stands (text_of c.program) c.items ≡ Some (run_of c) → length (origins (text_of c.program) c.items) ≡ length c.world.threads
as_many_origins c e = (as_many (text_of c.program) c.items (run_of c) e).began
