-- How the output of a run grows: by whole lines, and only by turns of threads.
use Rattle.std.proofs.Common.{◌≡◌, ℕ, Bool, true, false, List, [], ◌∷◌, ◌++◌, take, drop, Option, Some, None, Ok, Err, refl, sym, ap, ◌∙◌, subst, inl, inr}
use Rattle.std.specs.Prelude.{codes, if◌then◌else◌, slice_get, option_map, option_and_then}
use Rattle.std.proofs.lemmas.List.{append_assoc, append-nil, take-append-drop}
use Rattle.cml_value.specs.declared.number.Tid.{Tid}
use Rattle.cml_scan.specs.Numbers.{spaced}
use Rattle.cml_scan.specs.World.{PlainWorld}
use Rattle.cml_schedule.specs.declared.item.Item.{Item}
use Rattle.cml_schedule.specs.declared.item.Item.TheVariants.{Turn, Meet as Commit, Exchange, Clock}
use Rattle.cml_step.specs.Asks as ask
use Rattle.cml_step.specs.Asks.{PlainAsk}
use Rattle.cml_step.specs.Faults.{fault_name}
use Rattle.cml_step.specs.Slices.{sliced}
use Rattle.cml_step.specs.Terms.{Program, Term}
use Rattle.cml_book.specs.Outcomes.{Outcome}
use Rattle.cml_book.specs.Refusals.{name_of}
use Rattle.cml_book.specs.Spawn.{spawn}
use Rattle.cml_book.specs.MakeChan.{make_chan}
use Rattle.cml_book.specs.MakeSwap.{make_swap}
use Rattle.cml_book.specs.MakeObjects.{make_ivar, make_mvar, make_mailbox, make_mchan}
use Rattle.cml_book.specs.MakePort.{make_port, copy_port}
use Rattle.cml_book.specs.Put.{iput, mput}
use Rattle.cml_book.specs.Mail.{mail}
use Rattle.cml_book.specs.Multicast.{multicast}
use Rattle.cml_book.specs.Nack.{nack}
use Rattle.cml_book.specs.Sync.{sync}
use Rattle.cml_book.specs.End.{end as end_thread}
use Rattle.cml_hub.specs.Performed.{PlainDone, done, spoken, or_fails, asked, performed}
use Rattle.cml_hub.specs.Runs.{Run, opening, output_of, turned_by, turned, is_allowed, met, ticked, advance, after_item, stands_from, stands}
use Rattle.cml_judge.proofs.LineLemmas.{AreLines, are_lines_both}

-- what was printed more is whole lines
pub record Grows (old new : List ℕ) : Type 0 where
  pub more : List ℕ
  pub grown : new ≡ old ++ more
  pub whole : AreLines more

grows_not : (old new : List ℕ) → new ≡ old → Grows old new
grows_not old new same = record { more = []; grown = same ∙ sym (append-nil old); whole = inl refl }

grows_both : (old mid new : List ℕ) → Grows old mid → Grows mid new → Grows old new
grows_both old mid new x y = record {
  more = x.more ++ y.more;
  grown = y.grown ∙ (ap (λ out. out ++ y.more) x.grown ∙ append_assoc old x.more y.more);
  whole = are_lines_both x.more y.more x.whole y.whole;
}

-- what an ask prints
abbrev PrintsLines : ℕ → Outcome PlainDone → Type 0
PrintsLines t (Ok next) = AreLines (output_of t next.1)
PrintsLines t (Err why) = Unit {0}

prints_done : {R : Type 0} (so : R → PlainDone) (t : ℕ) (o : Outcome R) → ((x : R) → AreLines (output_of t (so x))) → PrintsLines t (done so o)
prints_done so t (Ok next) each = each next.1
prints_done so t (Err why) each = tt

prints_asked : (w : PlainWorld) (t : ℕ) (a : PlainAsk) → PrintsLines t (asked w t a)
prints_asked w t ask.nothing = inl refl
prints_asked w t ask.yield = inl refl
prints_asked w t (ask.print v) = inr (spoken v, refl)
prints_asked w t ask.now = inl refl
prints_asked w t (ask.spawn f) = prints_done _ t (spawn w) (λ x. inl refl)
prints_asked w t ask.make_chan = prints_done _ t (make_chan w) (λ x. inl refl)
prints_asked w t ask.make_swap = prints_done _ t (make_swap w) (λ x. inl refl)
prints_asked w t ask.make_ivar = prints_done _ t (make_ivar w) (λ x. inl refl)
prints_asked w t (ask.make_mvar v) = prints_done _ t (make_mvar w v) (λ x. inl refl)
prints_asked w t ask.make_mailbox = prints_done _ t (make_mailbox w) (λ x. inl refl)
prints_asked w t ask.make_mchan = prints_done _ t (make_mchan w) (λ x. inl refl)
prints_asked w t (ask.make_port x) = prints_done _ t (make_port w x) (λ y. inl refl)
prints_asked w t (ask.copy_port q) = prints_done _ t (copy_port w q) (λ x. inl refl)
prints_asked w t (ask.iput i v) = prints_done _ t (iput w i v) (λ x. inl refl)
prints_asked w t (ask.mput i v) = prints_done _ t (mput w i v) (λ x. inl refl)
prints_asked w t (ask.mail b v) = prints_done _ t (mail w b v) (λ x. inl refl)
prints_asked w t (ask.multicast x v) = prints_done _ t (multicast w x v) (λ y. inl refl)
prints_asked w t ask.fresh_nack = prints_done _ t (nack w t) (λ x. inl refl)
prints_asked w t (ask.sync g) = prints_done _ t (sync w t g) (λ x. inl refl)
prints_asked w t ask.end = prints_done _ t (end_thread w t) (λ x. inl refl)
prints_asked w t (ask.fault why) = prints_done _ t (end_thread w t) (λ x. inr (codes "thread" ++ spaced t ++ codes " fault " ++ fault_name why, refl))

prints_or_fails : (w : PlainWorld) (t : ℕ) (o : Outcome PlainDone) → PrintsLines t o → AreLines (output_of t (or_fails w t o).1)
prints_or_fails w t (Ok next) are = are
prints_or_fails w t (Err why) are = inr (codes "thread" ++ spaced t ++ codes " fault " ++ name_of why, refl)

prints_lines : (w : PlainWorld) (t : ℕ) (a : PlainAsk) → AreLines (output_of t (performed w t a).1)
prints_lines w t a = prints_or_fails w t (asked w t a) (prints_asked w t a)

-- one item more
allowed_so : (b : Bool) (o : Option Run) (new : Run) → (if b then o else None) ≡ Some new → o ≡ Some new
allowed_so true o new is = is
allowed_so false o new is = cc

turned_so : (o : Option Term) (f : Term → Run) (new : Run) → option_map f o ≡ Some new → (term : Term) × (new ≡ f term)
turned_so (Some term) f new is = (term, cc)
turned_so None f new is = cc

turn_grows : (p : Program) (r new : Run) (t : ℕ) → turned p r t ≡ Some new → Grows r.output new.output
turn_grows p r new t is =
    let by = turned_so (slice_get r.terms t) (λ term. turned_by p r t (sliced p t term)) new is in
    let s = sliced p t by.0 in
    record {
      more = output_of t (performed r.world t s.ask).1;
      grown = ap (λ (now : Run). now.output) by.1;
      whole = prints_lines r.world t s.ask;
    }

same_run : (r new : Run) → Some r ≡ Some new → new.output ≡ r.output
same_run r new is = let same : new ≡ r = cc in ap (λ (now : Run). now.output) same

advance_grows : (p : Program) (r : Run) (item : Item) (new : Run) → advance p r item ≡ Some new → Grows r.output new.output
advance_grows p r (Turn t) new is = turn_grows p r new t.0 (allowed_so (is_allowed r.world (Turn t)) (after_item p r (Turn t)) new is)
advance_grows p r (Commit row) new is =
    grows_not r.output new.output (same_run (met p r row) new (allowed_so (is_allowed r.world (Commit row)) (after_item p r (Commit row)) new is))
advance_grows p r (Exchange row) new is =
    grows_not r.output new.output (same_run (met p r row) new (allowed_so (is_allowed r.world (Exchange row)) (after_item p r (Exchange row)) new is))
advance_grows p r (Clock tick) new is =
    grows_not r.output new.output (same_run (ticked r tick) new (allowed_so (is_allowed r.world (Clock tick)) (after_item p r (Clock tick)) new is))

pub only_turns_print : (p : Program) (r : Run) (item : Item) (new : Run) → advance p r item ≡ Some new → ((thread : Tid) → item ≡ Turn thread → ⊥) → new.output ≡ r.output
only_turns_print p r (Turn t) new is no_turn = absurd (no_turn t refl)
only_turns_print p r (Commit row) new is no_turn = same_run (met p r row) new (allowed_so (is_allowed r.world (Commit row)) (after_item p r (Commit row)) new is)
only_turns_print p r (Exchange row) new is no_turn = same_run (met p r row) new (allowed_so (is_allowed r.world (Exchange row)) (after_item p r (Exchange row)) new is)
only_turns_print p r (Clock tick) new is no_turn = same_run (ticked r tick) new (allowed_so (is_allowed r.world (Clock tick)) (after_item p r (Clock tick)) new is)

-- several items
nowhere : (p : Program) (items : List Item) → stands_from p None items ≡ None
nowhere p [] = refl
nowhere p (item ∷ items) = nowhere p items

grows_on : (p : Program) (r : Run) (item : Item) (items : List Item) (end : Run) (next : Option Run) → next ≡ advance p r item →
    ((now : Run) → stands_from p (Some now) items ≡ Some end → Grows now.output end.output) → stands_from p next items ≡ Some end → Grows r.output end.output
grows_on p r item items end None is each leads = let none = nowhere p items in cc
grows_on p r item items end (Some now) is each leads = grows_both r.output now.output end.output (advance_grows p r item now (sym is)) (each now leads)

stands_grows : (p : Program) (items : List Item) (r end : Run) → stands_from p (Some r) items ≡ Some end → Grows r.output end.output
stands_grows p [] r end leads = grows_not r.output end.output (same_run r end leads)
stands_grows p (item ∷ items) r end leads = grows_on p r item items end (advance p r item) refl (λ now h. stands_grows p items now end h) leads

stands_append : (p : Program) (o : Option Run) (before after : List Item) → stands_from p o (before ++ after) ≡ stands_from p (stands_from p o before) after
stands_append p o [] after = refl
stands_append p o (item ∷ before) after = stands_append p (option_and_then (λ now. advance p now item) o) before after

-- what was printed so far is the beginning of what is printed in all
pub begins_so : (p : Program) (items : List Item) (k : ℕ) (r end : Run) → stands p items ≡ Some end → stands p (take k items) ≡ Some r → Grows r.output end.output
begins_so p items k r end whole so_far =
    stands_grows p (drop k items) r end
    (ap (λ o. stands_from p o (drop k items)) (sym so_far) ∙ sym (stands_append p (Some (opening p)) (take k items) (drop k items))
    ∙ ap (stands p) (take-append-drop k items) ∙ whole)

-- what was printed is whole lines
pub prints_whole_lines : (p : Program) (items : List Item) (r : Run) → stands p items ≡ Some r → AreLines r.output
prints_whole_lines p items r leads =
    let grows = stands_grows p items (opening p) r leads in
    subst (λ (out : List ℕ). AreLines out) (sym grows.grown) grows.whole
