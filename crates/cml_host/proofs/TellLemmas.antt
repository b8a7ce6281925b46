-- What was written of several texts, one after another, and the output with its end line.
use Rattle.std.proofs.Common.{◌≡◌, ◌∙◌, ℕ, List, ◌++◌, Option, length, sym, ap, append_assoc}
use Rattle.std.proofs.KnownBytes.{Appends-trans}
use Rattle.cml_hub.specs.declared.fault.End.{End}
use Rattle.cml_hub.specs.Runs.{Run, ending}
use Rattle.cml_scan.specs.World.{pending}
use Rattle.cml_stream.specs.Streams.{stream, Takes, TakesStart}
use Rattle.cml_host.specs.Told.{end_line, whole_output}

-- a text, and then a prefix of one more
pub start_behind : (a b c : Option (List ℕ)) (text more : List ℕ) →
    Takes (stream a b) text → TakesStart (stream b c) more → TakesStart (stream a c) (text ++ more)
start_behind a b c text more first then = (
  text ++ then.0,
  then.1,
  ap (λ ts. text ++ ts) then.2 ∙ sym (append_assoc text then.0 then.1),
  Appends-trans a b c text then.0 first then.3,
)

-- a prefix of a text is one of what goes on after it
pub start_more : (a b : Option (List ℕ)) (text more : List ℕ) → TakesStart (stream a b) text → TakesStart (stream a b) (text ++ more)
start_more a b text more part =
    (part.0, part.1 ++ more, ap (λ ts. ts ++ more) part.2 ∙ append_assoc part.0 part.1 more, part.3)

-- the output with the end line
pub whole_is : (out told : List ℕ) (end : End) (waiting budget : ℕ) (r : Run) → out ≡ r.output → told ≡ end_line end waiting →
    end ≡ ending budget r → waiting ≡ length (pending r.world) → out ++ told ≡ whole_output budget r
whole_is out told end waiting budget r same line ends waits =
    ap (λ (ts : List ℕ). ts ++ told) same
    ∙ ap (λ (ts : List ℕ). r.output ++ ts)
    (line ∙ ap (λ (e : End). end_line e waiting) ends ∙ ap (λ (n : ℕ). end_line (ending budget r) n) waits)
