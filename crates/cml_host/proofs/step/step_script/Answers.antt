use Rattle.std.proofs.Common.{rules, inr, refl}
use Rattle.cml_host.specs.Between.{between}
use Rattle.cml_host.specs.Replies.{passage}
use Rattle.cml_host.specs.Scripts.{plain_script}
use Rattle.cml_host.proofs.ClosedLemmas.{starts_itself}
use Rattle.cml_host.proofs.SteppedLemmas.{script_stepped}
use Rattle.cml_host.proofs.step.step_script.Goals as goal

pub step_hub-made-requires-clause-start : goal.step_hub-made-requires-clause-start
step_hub-made-requires-clause-start g c = starts_itself c.subject_of-program.result.0 _ _ c.in-Ok.hub c.in-Ok.ensures.ok

pub returns-in-Ok-clause-told : goal.returns-in-Ok-clause-told
returns-in-Ok-clause-told g c =
    let input = between g.I.Read.remaining c.args.input.now c.step_hub-made.new.input in
    let output = passage g.O.Write.contents c.args.out.now c.step_hub-made.new.out in
    let subject = c.subject_of-program.result.1 in
    script_stepped c.args.options.now (plain_script c.args.script) subject.text.items subject.forms.items c.subject_of-program.result.0 c.in-Ok.hub input output _
    c.subject_of-program.ensures.program c.subject_of-program.ensures.text c.subject_of-program.ensures.forms c.in-Ok.ensures.ok c.step_hub-made.ensures.stepped

pub returns-clause-told : goal.returns-clause-told
returns-clause-told g c = inr (refl, (search rules, c.requires.given.0, c.requires.given.1), refl)
