use Rattle.std.proofs.Common.{◌<◌, ◌≤◌, length, ◌∙◌, ap, sym, subst}
use Rattle.cml_text.specs.Lines.{lines}
use Rattle.cml_judge.specs.Spots.{line_start}
use Rattle.cml_judge.proofs.LineLemmas.{starts_within}
use Rattle.cml_judge.proofs.SpotLemmas.{spot_so}
use Rattle.cml_judge.proofs.spot.spot_of.Goals as goal

pub returns-in-Some : goal.returns-in-Some
returns-in-Some c =
    let same = c.as_bytes.ensures.value ∙ c.out.ensures in
    let there = subst (λ out. c.args.number < length (lines out)) same c.in-Some.ensures.0 in
    let begins = c.in-Some.ensures.1 ∙ ap (λ out. line_start (lines out) c.args.number) same in
    let out = c.args.hub.now.course.output in
    spot_so c.spot_of_byte.result c.args.hub.now c.args.number _ there begins (subst (λ n. n < length out) (sym begins) (starts_within out c.args.number there)) c.spot_of_byte.ensures

pub returns-in-None : goal.returns-in-None
returns-in-None c = subst (λ out. length (lines out) ≤ c.args.number) (c.as_bytes.ensures.value ∙ c.out.ensures) c.in-None.ensures
