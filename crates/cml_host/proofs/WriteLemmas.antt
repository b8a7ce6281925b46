-- Some text that was written, and some more.
use Rattle.std.proofs.Common.{◌≡◌, ℕ, List, [], ◌++◌, Option, Result, Ok, Err, OnOk, OnErr, IfErr, take, sym, subst}
use Rattle.std.proofs.KnownBytes.{Appends-nil, Appends-kept, Appends-trans}
use Rattle.std.specs.Io.KnownBytes.{Keeps}
use Rattle.cml_stream.specs.Streams.{stream, Takes}
use Rattle.cml_host.specs.Narrated.{Writes}

-- what holds of an error holds of it in a result
pub if_err : {A E : Type 0} (r : Result A E) (e : E) (P : E → Type 0) → r ≡ Err e → P e → IfErr r P
if_err r e P is p = subst (λ (x : Result _ _). IfErr x P) (sym is) p

pub writes_none : (a : Option (List ℕ)) → Writes (stream a a)
writes_none a = ([], Appends-nil a)

pub writes_on : (a b c : Option (List ℕ)) → Writes (stream a b) → Writes (stream b c) → Writes (stream a c)
writes_on a b c first then = (first.0 ++ then.0, Appends-trans a b c first.0 then.0 first.1 then.1)

pub writes_kept : (a b c : Option (List ℕ)) → Writes (stream a b) → Keeps b c → Writes (stream a c)
writes_kept a b c first kept = (first.0, Appends-kept a b c first.0 first.1 kept)

-- a text was written, or a first part of it
pub writes_by : {A B : Type 0} (r : Result A B) (a b : Option (List ℕ)) (text : List ℕ) → OnOk r (Takes (stream a b) text) → OnErr r ((n : ℕ) × Takes (stream a b) (take n text)) →
    Writes (stream a b)
writes_by (Ok x) a b text whole part = (text, whole)
writes_by (Err e) a b text whole part = (take part.0 text, part.1)
