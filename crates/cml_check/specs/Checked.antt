-- What checking finds: a part of the program, or the first fault.
use Rattle.std.specs.Prelude.{◌≡◌, Result, Ok, Err}
use Rattle.cml_text.specs.declared.sexpr.Span.{Span}
use Rattle.cml_check.specs.declared.fault.CheckKind.{CheckKind}
use Rattle.cml_check.specs.declared.fault.CheckFault.{CheckFault}
use Rattle.cml_check.specs.declared.fault.CheckFault.TheVariants as fault
use Rattle.cml_check.specs.Faults.{PlainCheckFault}

abbrev pub Checked : Type 0 → Type 0
Checked A = Result A PlainCheckFault

-- one part after another: the first fault is the fault of both
infixl 10 ◌>>=◌
abbrev pub ◌>>=◌ : {A B : Type 0} → Checked A → (A → Checked B) → Checked B
(Ok x) >>= f = f x
(Err e) >>= f = Err e

-- the fault of this kind where a form of this span starts
abbrev pub check_fault : {A : Type 0} → CheckKind → Span → Checked A
check_fault kind span = Err (record { kind = kind; at = span.start })

-- what a call failed with is what checking finds, unless memory ran out
abbrev pub Fails : {Y : Type 0} → CheckFault → Checked Y → Type 0
Fails fault.Memory found = Unit {0}
Fails (fault.At kind at) found = found ≡ Err (record { kind = kind; at = at })

-- what a call returned, under this view, is what checking finds, unless memory ran out
abbrev pub Finds : {X Y : Type 0} → (X → Y) → Result X CheckFault → Checked Y → Type 0
Finds view (Ok x) found = found ≡ Ok (view x)
Finds view (Err e) found = Fails e found
