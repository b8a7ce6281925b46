-- Lines that are explained, one after another.
use Rattle.std.proofs.Common.{◌≡◌, ℕ, ◌+◌, Result, Ok, Err, Some, None, OnOk, List, [], ◌∷◌, ◌++◌, refl, ap, sym, ◌∙◌, subst, inl, inr, append_assoc, append-nil}
use Rattle.cml_scan.specs.World.{PlainWorld}
use Rattle.cml_book.specs.declared.command.Command.{Command}
use Rattle.cml_book.specs.declared.command.Command.TheVariants as command
use Rattle.cml_book.specs.declared.command.Reply.{Reply}
use Rattle.cml_book.specs.declared.refusal.Refusal.{Refusal}
use Rattle.cml_book.specs.declared.command.Reply.TheVariants as reply
use Rattle.cml_book.specs.Outcomes.{Outcome}
use Rattle.cml_book.specs.Spawn.{spawn}
use Rattle.cml_book.specs.MakeChan.{make_chan}
use Rattle.cml_book.specs.MakeSwap.{make_swap}
use Rattle.cml_book.specs.MakeObjects.{make_ivar, make_mvar, make_mailbox, make_mchan}
use Rattle.cml_book.specs.MakePort.{make_port, copy_port}
use Rattle.cml_book.specs.Put.{iput, mput}
use Rattle.cml_book.specs.Mail.{mail}
use Rattle.cml_book.specs.Multicast.{multicast}
use Rattle.cml_book.specs.Nack.{nack}
use Rattle.cml_book.specs.Sync.{sync}
use Rattle.cml_book.specs.Commit.{commit}
use Rattle.cml_book.specs.End.{end}
use Rattle.cml_book.specs.Clock.{clock}
use Rattle.cml_book.specs.Step.{step, answered}
use Rattle.cml_trace.specs.Whys.{why_of}
use Rattle.cml_trace.specs.declared.order.Request.{Request}
use Rattle.cml_trace.specs.declared.order.Request.TheVariants as order
use Rattle.cml_trace.specs.Orders.{AsksFor, IsBad}
use Rattle.cml_trace.specs.Answers.{after_order}
use Rattle.cml_trace.specs.Bads.{IsBadFor}
use Rattle.cml_trace.specs.Lines.{TraceLines}
use Rattle.cml_trace.specs.declared.why.Bad.{Bad}
use Rattle.cml_trace.specs.declared.why.Cause.TheVariants as cause
use Rattle.cml_trace.specs.declared.why.Told.{Told}
use Rattle.cml_trace.specs.Explained.{refusal_in, line_told, told_of_refusal, told_of, Explains}

-- a refusal changes nothing
answered_keeps : {R : Type 0} (f : R → Reply) (w : PlainWorld) (o : Outcome R) (why : Refusal) → ((r : R) → refusal_in (f r) ≡ None) →
    refusal_in (answered f w o).1 ≡ Some why → (answered f w o).0 ≡ w
answered_keeps f w (Ok next) why none e = let clash : None ≡ Some why = sym (none next.1) ∙ e in absurd (cc)
answered_keeps f w (Err other) why none e = refl

pub refused_keeps : (w : PlainWorld) (c : Command) (why : Refusal) → refusal_in (step w c).1 ≡ Some why → (step w c).0 ≡ w
refused_keeps w command.Spawn why e = answered_keeps reply.Thread w (spawn w) why (λ r. refl) e
refused_keeps w command.MakeChan why e = answered_keeps reply.Chan w (make_chan w) why (λ r. refl) e
refused_keeps w command.MakeSwap why e = answered_keeps reply.Swap w (make_swap w) why (λ r. refl) e
refused_keeps w command.MakeIVar why e = answered_keeps reply.IVar w (make_ivar w) why (λ r. refl) e
refused_keeps w (command.MakeMVar v) why e = answered_keeps reply.MVar w (make_mvar w v) why (λ r. refl) e
refused_keeps w command.MakeMailbox why e = answered_keeps reply.Mailbox w (make_mailbox w) why (λ r. refl) e
refused_keeps w command.MakeMChan why e = answered_keeps reply.Mchan w (make_mchan w) why (λ r. refl) e
refused_keeps w (command.MakePort x) why e = answered_keeps reply.Port w (make_port w x.0) why (λ r. refl) e
refused_keeps w (command.CopyPort p) why e = answered_keeps reply.Port w (copy_port w p.0) why (λ r. refl) e
refused_keeps w (command.IPut i v) why e = answered_keeps (λ _. reply.Done) w (iput w i.0 v) why (λ r. refl) e
refused_keeps w (command.MPut m v) why e = answered_keeps (λ _. reply.Done) w (mput w m.0 v) why (λ r. refl) e
refused_keeps w (command.Mail b v) why e = answered_keeps (λ _. reply.Done) w (mail w b.0 v) why (λ r. refl) e
refused_keeps w (command.Multicast x v) why e = answered_keeps (λ _. reply.Done) w (multicast w x.0 v) why (λ r. refl) e
refused_keeps w (command.Nack t) why e = answered_keeps reply.Nack w (nack w t.0) why (λ r. refl) e
refused_keeps w (command.Sync t g) why e = answered_keeps (λ _. reply.Done) w (sync w t.0 g) why (λ r. refl) e
refused_keeps w (command.Commit row) why e = answered_keeps reply.Committed w (commit w row) why (λ r. refl) e
refused_keeps w (command.End t) why e = answered_keeps (λ _. reply.Done) w (end w t.0) why (λ r. refl) e
refused_keeps w (command.Clock k) why e = answered_keeps (λ _. reply.Done) w (clock w k) why (λ r. refl) e

-- The lines before these were explained: what explains the lines here explains all after that.
pub record Telling (w : PlainWorld) (all : TraceLines) (v : PlainWorld) (here : TraceLines) (old new : List Told) : Type 0 where
  pub told : List Told
  pub leads : (rest : List Told) → Explains here.number v here.left rest → Explains all.number w all.left (told ++ rest)
  pub whole : new ≡ old ++ told

-- one line more
pub Telling-on : (w : PlainWorld) (all : TraceLines) (v u : PlainWorld) (here next : TraceLines) (old mid new : List Told) (n : ℕ) (first : List ℕ) (what : Request) →
    Telling w all v here old mid → n ≡ here.number → here.left ≡ first ∷ next.left → next.number ≡ here.number + 1 → AsksFor first what → u ≡ after_order what v →
    new ≡ mid ++ told_of n v what → Telling w all u next old new
Telling-on w all v u here next old mid new n first what t number is count asks stands more =
    let text = told_of here.number v what in
    let adds : new ≡ mid ++ text = more ∙ ap (λ k. mid ++ told_of k v what) number in
    record {
      told = t.told ++ text;
      leads = λ rest h.
          let there : Explains (here.number + 1) (after_order what v) next.left rest =
          subst (λ (x : PlainWorld). Explains (here.number + 1) x next.left rest) stands (subst (λ (k : ℕ). Explains k u next.left rest) count h) in
          let one : Explains here.number v (first ∷ next.left) (text ++ rest) = inl (what, rest, asks, refl, there) in
          subst (λ (xs : List Told). Explains all.number w all.left xs) (sym (append_assoc t.told text rest))
          (t.leads (text ++ rest) (subst (λ (ls : List (List ℕ)). Explains here.number v ls (text ++ rest)) (sym is) one));
      whole = adds ∙ ap (λ xs. xs ++ text) t.whole ∙ append_assoc old t.told text;
    }

-- what is told of these lines was added
abbrev pub AreTold : PlainWorld → TraceLines → List Told → List Told → Type 0
AreTold w all old new = (told : List Told) × Explains all.number w all.left told × (new ≡ old ++ told)

-- all of it
pub told_end : (w : PlainWorld) (all : TraceLines) (v : PlainWorld) (here : TraceLines) (old new : List Told) → Telling w all v here old new → here.left ≡ [] → AreTold w all old new
told_end w all v here old new t none =
    let last : Explains here.number v here.left [] = subst (λ (ls : List (List ℕ)). Explains here.number v ls []) (sym none) refl in
    (t.told ++ [], t.leads [] last, t.whole ∙ ap (λ xs. old ++ xs) (sym (append-nil t.told)))

-- the next line is bad
pub told_bad : {A E : Type 0} (r : Result A E) (w : PlainWorld) (all : TraceLines) (v : PlainWorld) (here : TraceLines) (old mid new : List Told) (n : ℕ) (first : List ℕ) (behind : List (List ℕ)) →
    Telling w all v here old mid → n ≡ here.number → here.left ≡ first ∷ behind → IsBad first →
    OnOk r ((why : Bad) × IsBadFor first why × (new ≡ mid ++ line_told n (cause.Bad why))) → OnOk r (AreTold w all old new)
told_bad (Ok a) w all v here old mid new n first behind t number is bad (why, for, more) =
    let said = line_told here.number (cause.Bad why) in
    let adds : new ≡ mid ++ said = more ∙ ap (λ k. mid ++ line_told k (cause.Bad why)) number in
    let one : Explains here.number v (first ∷ behind) said = inr (why, bad, for, refl) in
    let last = subst (λ (ls : List (List ℕ)). Explains here.number v ls said) (sym is) one in
    (t.told ++ said, t.leads said last, adds ∙ ap (λ xs. xs ++ said) t.whole ∙ append_assoc old t.told said)
told_bad (Err e) w all v here old mid new n first behind t number is bad said = tt

-- another list of the same lines was added
pub appends_same : {A E : Type 0} (r : Result A E) (old new a b : List Told) → a ≡ b → OnOk r (new ≡ old ++ a) → OnOk r (new ≡ old ++ b)
appends_same (Ok x) old new a b same e = e ∙ ap (λ xs. old ++ xs) same
appends_same (Err x) old new a b same e = tt

-- a command was refused, and why was added
pub told_refused : {A E : Type 0} (r : Result A E) (n : ℕ) (w v : PlainWorld) (c : Command) (reply : Reply) (why : Refusal) (old new : List Told) → step w c ≡ (v, reply) →
    refusal_in reply ≡ Some why → OnOk r (new ≡ old ++ line_told n (cause.Refused (why_of v c why))) → OnOk r (new ≡ old ++ told_of n w (order.Do c))
told_refused r n w v c reply why old new does is said =
    let at : refusal_in (step w c).1 ≡ Some why = ap (λ (p : PlainWorld × Reply). refusal_in p.1) does ∙ is in
    let same : v ≡ w = sym (ap (λ (p : PlainWorld × Reply). p.0) does) ∙ refused_keeps w c why at in
    appends_same r old new (line_told n (cause.Refused (why_of v c why))) (told_of n w (order.Do c))
    (ap (λ u. line_told n (cause.Refused (why_of u c why))) same ∙ ap (told_of_refusal n w c) (sym at)) said
