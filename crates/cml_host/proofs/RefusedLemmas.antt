-- Refusals: what is wrong for one reason is wrong for another.
use Rattle.std.proofs.Common.{◌≡◌, ◌++◌, ℕ, Bool, true, false, List, Result, Ok, Err, IfOk, IfErr, Vec, sym, subst}
use Rattle.std.specs.declared.alloc.AllocError.{AllocError}
use Rattle.std.specs.declared.alloc.Global.{Global}
use Rattle.cml_host.specs.Refused.{Fault, IsExplained, IsUnread, RefusesAs, TellsUnread}
use Rattle.cml_host.specs.Stores.{Content, MayBeRefused}
use Rattle.cml_host.specs.declared.refusal.Refusal.{Refusal}
use Rattle.cml_host.specs.declared.refusal.Refusal.TheVariants.{Told, Line, Memory}

-- one reason comes with another
pub refuses_as : (P Q : Fault) → ((told : List ℕ) (status : ℕ) → P told status → Q told status) → (why : Refusal) → RefusesAs P why → RefusesAs Q why
refuses_as P Q gives (Told told status) wrong = gives told.items status wrong
refuses_as P Q gives (Line words status) wrong = gives words.now status wrong
refuses_as P Q gives Memory any = tt

-- the same of a call
pub err_as : {A : Type 0} (P Q : Fault) → ((told : List ℕ) (status : ℕ) → P told status → Q told status) → (r : Result A Refusal) → IfErr r (RefusesAs P) → IfErr r (RefusesAs Q)
err_as P Q gives (Ok a) none = tt
err_as P Q gives (Err why) wrong = refuses_as P Q gives why wrong

-- the store did not hand over the file
pub unread_by : (explains : Bool) (name : List ℕ) (content : Content) (why : Refusal) → MayBeRefused content → TellsUnread explains name why → RefusesAs (IsUnread explains name content) why
unread_by explains name content (Told told status) may tells = (may, tells.0, tells.1)
unread_by explains name content (Line words status) may tells = (may, tells.0, tells.1)
unread_by explains name content Memory may tells = tt

-- the same line is told
pub line_is : (explains : Bool) (a b : List ℕ) → a ≡ b → (r : Result (Vec ℕ Global) AllocError) → IfOk r (λ told. IsExplained explains a told.items) →
    IfOk r (λ told. IsExplained explains b told.items)
line_is explains a b same (Ok told) tells = subst (λ (l : List ℕ). IsExplained explains l told.items) same tells
line_is explains a b same (Err e) tells = tt

-- it stands alone, or words stand behind it
pub told_plain : (explains : Bool) (line : List ℕ) (r : Result (Vec ℕ Global) AllocError) → explains ≡ false → IfOk r (λ told. told.items ≡ line) →
    IfOk r (λ told. IsExplained explains line told.items)
told_plain true line r plain tells = cc
told_plain false line r plain tells = tells

pub told_behind : (explains : Bool) (line words told : List ℕ) → explains ≡ true → told ≡ line ++ words → IsExplained explains line told
told_behind true line words told so is = (words, is)
told_behind false line words told so is = cc

-- what is wrong was handed on
pub wrong_on : {A : Type 0} (P Q : Fault) → ((told : List ℕ) (status : ℕ) → P told status → Q told status) → (r : Result A Refusal) (why : Refusal) → r ≡ Err why → RefusesAs P why →
    IfErr r (RefusesAs Q)
wrong_on P Q gives r why is wrong = subst (λ (x : Result _ _). IfErr x (RefusesAs Q)) (sym is) (refuses_as P Q gives why wrong)
