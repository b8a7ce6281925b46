-- Room for a nack.
use Rattle.std.proofs.Common.{◌≡◌, ℕ, true, false, List, [], ◌∷◌, ◌++◌, refl, ap, sym, ◌∙◌, subst, Some, Bool}
use Rattle.cml_value.specs.Value.{PlainFunction, PlainEvent, guard, scope}
use Rattle.cml_group.specs.Force.{calls, needs_nack, unforced, replaced, given_nack}
use Rattle.cml_check.specs.Syntax.{PlainItem}
use Rattle.cml_check.specs.InOrder.{arities}
use Rattle.cml_step.specs.declared.call.Call.{Call}
use Rattle.cml_step.specs.declared.entry.Entry.TheVariants as entry
use Rattle.cml_step.specs.declared.nack.NackRoom.{NackRoom}
use Rattle.cml_step.specs.Agrees.{function_agrees}
use Rattle.cml_step.specs.Answers.{after_answer}
use Rattle.cml_step.specs.AnswerViews.{Awaits}
use Rattle.cml_step.specs.Asks.{a_nack}
use Rattle.cml_step.specs.Calls.{entry_of, text_of}
use Rattle.cml_step.specs.Machines.{PlainHeld, PlainMachine, plain_held, machine_term, AllHeldFit}
use Rattle.cml_step.specs.Nacks.{topped_by, nack_given, IsNackRoom}
use Rattle.cml_step.specs.Stacks.{CallFits, term_of}
use Rattle.cml_step.specs.Terms.{call_of}
use Rattle.cml_step.proofs.AnswerLemmas.{nack_term, nack_fits}
use Rattle.cml_step.proofs.ShortLemmas.{answered_fits}

pub topped_over : (es : List PlainHeld) (e a b : PlainHeld) → topped_by a b (es ++ e ∷ []) ≡ (es ++ a ∷ []) ++ b ∷ []
topped_over [] e a b = refl
topped_over (x ∷ []) e a b = refl
topped_over (x ∷ y ∷ es) e a b = ap (λ hs. x ∷ hs) (topped_over (y ∷ es) e a b)

-- What is known of the event and the call that were made for the nack of this number.
pub record IsMade (g new : PlainEvent) (k : ℕ) (f : PlainFunction) (c : Call) : Type 0 where
  pub asks : unforced g ≡ Some (needs_nack f)
  pub event : new ≡ replaced (scope k (guard (given_nack k f))) g
  pub next : unforced new ≡ Some (calls (given_nack k f))
  pub term : (p : List (PlainItem ℕ)) → entry_of p c ≡ call_of (text_of p) (given_nack k f)
  pub fits : (p : List (PlainItem ℕ)) → function_agrees (arities p) 0 (given_nack k f) ≡ true → CallFits p c

-- the room that was made of the entries below the event on top, of the event with its nack and of the call
pub room_made : (m : PlainMachine) (r : NackRoom) (es : List PlainHeld) (g new : PlainEvent) (asked : Bool) (f : PlainFunction) → IsMade g new r.nack.0 f r.call → Awaits m (a_nack r.nack.0) →
    m.stack ≡ es ++ plain_held (entry.Force g asked) ∷ [] → r.below ≡ es ++ plain_held (entry.Force new false) ∷ [] → IsNackRoom m r
room_made m r es g new asked f made w st is =
    let top = plain_held (entry.Force g asked) in
    let one = plain_held (entry.Force new false) in
    let other = plain_held (entry.Call r.call) in
    let all : (nack_given r m).stack ≡ (es ++ one ∷ []) ++ other ∷ [] = ap (λ hs. hs ++ other ∷ []) is in
    let meant : (p : List (PlainItem ℕ)) → machine_term p (nack_given r m) ≡ after_answer (text_of p) (a_nack r.nack.0) (machine_term p m) =
    λ p. ap (term_of p) all ∙ nack_term p es g new asked r.nack.0 f r.call made.asks made.event (made.term p)
    ∙ ap (λ hs. after_answer (text_of p) (a_nack r.nack.0) (term_of p hs)) (sym st) in
    record {
      made = (new, all ∙ sym (topped_over es top one other) ∙ ap (topped_by one other) (sym st));
      meant = λ p h. meant p;
      fits = λ p h. answered_fits p m (nack_given r m) (a_nack r.nack.0) h w (meant p)
          (subst (AllHeldFit p) (sym all) (nack_fits p es g new asked r.nack.0 f r.call made.asks made.event made.next (made.fits p) (subst (AllHeldFit p) st h.stack)));
    }
