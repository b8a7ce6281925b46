-- What is replied behind what was written before, and where the store stayed as it was.
use Rattle.std.proofs.Common.{◌≡◌, ◌∙◌, ◌⊎◌, ℕ, List, [], Option, Result, Ok, Err, IfOk, IfErr, Vec, inl, inr, refl, sym, ap, subst}
use Rattle.std.proofs.Math.Path.{fun_ext}
use Rattle.std.specs.declared.alloc.Global.{Global}
use Rattle.cml_stream.specs.declared.counts.Counting.{Counting}
use Rattle.cml_host.specs.Behind.{plain_text}
use Rattle.cml_host.specs.Between.{between}
use Rattle.cml_host.specs.Refused.{Fault, RefusesAs}
use Rattle.cml_host.specs.Replies.{IsCarriedOut, Passage, PlainReply, Replies, RefusalOf, TextOr, passage, plain_of, plain_refusal, plain_reply, whole}
use Rattle.cml_host.specs.Stores.{Content, IsUnchanged}
use Rattle.cml_host.specs.declared.refusal.Refusal.{Refusal}
use Rattle.cml_host.specs.declared.refusal.Refusal.TheVariants.{Told, Line, Memory}
use Rattle.cml_host.specs.declared.reply.Reply.{Reply}

-- what is so of what the store held as it was read is so of what it held before
pub store_from : (P : (List ℕ → Content) → Type 0) (old mid : List ℕ → Content) → IsUnchanged old mid → P mid → P old
store_from P old mid same so = subst P (fun_ext (λ name. same name)) so

-- a reply was carried out where the store held the same before
pub carried_behind : (reply : PlainReply) (output errors : Passage) (old mid new : List ℕ → Content) (status : ℕ) → IsUnchanged old mid →
    IsCarriedOut reply output errors (record { before = mid; after = new }) status → IsCarriedOut reply output errors (record { before = old; after = new }) status
carried_behind reply output errors old mid new status same done = store_from (λ b. IsCarriedOut reply output errors (record { before = b; after = new }) status) old mid same done

-- why a command goes no further is replied
pub refusal_of : (P : Fault) (why : Refusal) → RefusesAs P why → RefusalOf P (plain_refusal [] why)
refusal_of P (Told told status) wrong = inl (told.items, status, wrong, refl)
refusal_of P (Line words status) wrong = inl (words.now, status, wrong, refl)
refusal_of P Memory any = inr refl

-- that was done
pub refused_behind : (P : Fault) (why : Refusal) (output errors : Passage) (old mid new : List ℕ → Content) (status : ℕ) → RefusesAs P why → IsUnchanged old mid →
    IsCarriedOut (plain_refusal [] why) output errors (record { before = mid; after = new }) status → Replies (RefusalOf P) output errors (record { before = old; after = new }) status
refused_behind P why output errors old mid new status wrong same done =
    (plain_refusal [] why, refusal_of P why wrong, carried_behind (plain_refusal [] why) output errors old mid new status same done)

-- a reply was made, or it is replied why there is none
pub reply_or : (IsSo : PlainReply → Type 0) (P : Fault) (r : Result Reply Refusal) → IfOk r (λ reply. IsSo (plain_of reply)) → IfErr r (RefusesAs P) →
    IsSo (plain_reply [] r) ⊎ RefusalOf P (plain_reply [] r)
reply_or IsSo P (Ok reply) so none = inl so
reply_or IsSo P (Err why) none wrong = inr (refusal_of P why wrong)

-- the same of a text
pub text_or : (IsSo : List ℕ → Type 0) (P : Fault) (r : Result (Vec ℕ Global) Refusal) (made : Result Reply Refusal) → IfOk r (λ text. IsSo text.items) → IfErr r (RefusesAs P) →
    plain_reply [] made ≡ plain_text r → TextOr IsSo P (plain_reply [] made)
text_or IsSo P (Ok text) made so none is = inl (text.items, so, is)
text_or IsSo P (Err why) made none wrong is = inr (subst (RefusalOf P) (sym is) (refusal_of P why wrong))

-- a reply that is so was carried out
pub replied : (IsSo : PlainReply → Type 0) (reply : PlainReply) (output errors : Passage) (old mid new : List ℕ → Content) (status : ℕ) → IsSo reply → IsUnchanged old mid →
    IsCarriedOut reply output errors (record { before = mid; after = new }) status → Replies IsSo output errors (record { before = old; after = new }) status
replied IsSo reply output errors old mid new status so same done = (reply, so, carried_behind reply output errors old mid new status same done)

-- ---- streams that were not called before

first_call : {W : Type 0} (bytes : W → Option (List ℕ)) (old new : Counting W) → (old.calls ≡ 0) × (old.failed ≡ 0) → passage bytes old new ≡ whole (between bytes old new)
first_call bytes old new none =
    ap (λ (n : ℕ). record { old = record { bytes = bytes old.stream.now; calls = n; failed = old.failed }; new = (passage bytes old new).new }) none.0
    ∙ ap (λ (n : ℕ). record { old = record { bytes = bytes old.stream.now; calls = 0; failed = n }; new = (passage bytes old new).new }) none.1

pub from_first : {O E : Type 0} (outs : O → Option (List ℕ)) (errs : E → Option (List ℕ)) (P : Passage → Passage → Type 0) (out out' : Counting O) (err err' : Counting E) →
    (out.calls ≡ 0) × (out.failed ≡ 0) → (err.calls ≡ 0) × (err.failed ≡ 0) → P (passage outs out out') (passage errs err err') →
    P (whole (between outs out out')) (whole (between errs err err'))
from_first outs errs P out out' err err' fresh clear done =
    subst (λ (errors : Passage). P (whole (between outs out out')) errors) (first_call errs err err' clear)
    (subst (λ (output : Passage). P output (passage errs err err')) (first_call outs out out' fresh) done)
