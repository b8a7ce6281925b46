-- What a call of `read` returns.
use Rattle.std.specs.Prelude.{◌≡◌, Result, Ok, Err, List, Vec}
use Rattle.std.specs.declared.alloc.Global.{Global}
use Rattle.cml_text.specs.declared.fault.TextFault.{TextFault}
use Rattle.cml_text.specs.declared.fault.TextFault.TheVariants as fault
use Rattle.cml_text.specs.Faults.{PlainFault}
use Rattle.cml_text.specs.Forms.{PlainSexpr}

-- these forms, unless memory ran out
abbrev pub ReadsAs : Result (Vec PlainSexpr Global) TextFault → List PlainSexpr → Type 0
ReadsAs (Ok read) forms = read.items ≡ forms
ReadsAs (Err fault.Memory) forms = Unit {0}
ReadsAs (Err (fault.At kind at)) forms = ⊥

-- this fault, unless memory ran out
abbrev pub FailsWith : Result (Vec PlainSexpr Global) TextFault → PlainFault → Type 0
FailsWith (Ok read) found = ⊥
FailsWith (Err fault.Memory) found = Unit {0}
FailsWith (Err (fault.At kind at)) found = found ≡ record { kind = kind; at = at }
