use Rattle.std.proofs.Common.{ap, sym, ◌∙◌, subst, false}
use Rattle.std.proofs.lemmas.Result.{IfOk-weaker, IfErr-weaker}
use Rattle.cml_hub.specs.Kept.{Kept}
use Rattle.cml_work.proofs.Leaving.{cut_left, foreign_writes}
use Rattle.cml_work.proofs.MarkSteps.{begins_trans}
use Rattle.cml_work.proofs.Writing.{takes_same}
use Rattle.cml_work.specs.Picks.{TakenBy, hub_of_end}
use Rattle.cml_work.proofs.Picking.{compared_hub, cut_hub}
use Rattle.cml_work.proofs.ending.left.Goals as goal

pub out_of_memory-requires : goal.out_of_memory-requires
out_of_memory-requires g c = begins_trans c.in-Err.hub.reports c.args.hub.reports c.args.seen.items c.in-Err.ensures.err.1 c.requires

pub returns-in-Ok-clause-written : goal.returns-in-Ok-clause-written
returns-in-Ok-clause-written g c = λ start took.
    IfOk-weaker c.compared.result _ _ (λ r h. takes_same _ c.args.seen.items r.0.reports (h.2 ∙ ap (λ (k : Kept). k.reports) (sym h.0)) took) c.compared.ensures.ok

pub returns-in-Ok-clause-written_err : goal.returns-in-Ok-clause-written_err
returns-in-Ok-clause-written_err g c = λ start took.
    let begins = begins_trans c.in-Ok.hub.reports c.args.hub.reports c.args.seen.items c.in-Ok.ensures.ok.1 c.requires in
    IfErr-weaker c.compared.result _ _ (λ fault h. foreign_writes _ c.in-Ok.hub c.args.seen.items fault begins took h) c.compared.ensures.err

pub returns-in-Err-clause-err : goal.returns-in-Err-clause-err
returns-in-Err-clause-err g c =
    cut_left c.args.hub c.in-Err.hub c.args.seen.items c.out_of_memory.result c.in-Err.ensures.err.0 c.out_of_memory.ensures.cut_off

pub returns-in-Ok-clause-chosen : goal.returns-in-Ok-clause-chosen
returns-in-Ok-clause-chosen g c = λ o picks h.
    subst (λ (x : Kept). TakenBy o picks x) (sym (compared_hub c.in-Ok.hub c.args.seen.items c.compared.result
    (IfOk-weaker c.compared.result _ _ (λ r same. same.0) c.compared.ensures.ok) c.compared.ensures.err))
    (subst (λ r. TakenBy o picks (hub_of_end r)) c.in-Ok.is (c.end_alone.ensures.chosen o picks h))

pub returns-in-Err-clause-chosen : goal.returns-in-Err-clause-chosen
returns-in-Err-clause-chosen g c = λ o picks h.
    subst (λ (x : Kept). TakenBy o picks x) (sym (cut_hub c.in-Err.hub false c.out_of_memory.result c.out_of_memory.ensures.cut_off))
    (subst (λ r. TakenBy o picks (hub_of_end r)) c.in-Err.is (c.end_alone.ensures.chosen o picks h))
