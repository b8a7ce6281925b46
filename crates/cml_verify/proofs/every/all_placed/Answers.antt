use Rattle.std.proofs.Common.{subst, arith}
use Rattle.std.specs.List.{All}
use Rattle.std.proofs.lemmas.List.{take_all}
use Rattle.std.proofs.lemmas.List.Elements.{All-more}
use Rattle.cml_verify.specs.{Kept.{PlainKept}, Placed.{AreThreadsIn}}
use Rattle.cml_verify.proofs.every.all_placed.Goals as goal

pub loop-one-preserved : goal.loop-one-preserved
loop-one-preserved c =
    let p = c.args.program.now in
    let P : PlainKept → Type 0 = λ one. AreThreadsIn p one.machines in
    let here : AreThreadsIn p c.machines.result.now = c.are_placed.ensures (grind arith) in
    All-more P c.args.kept.now c.loop-one.one-index c.one-item.result (omega arith) c.loop-one.invariant
    (subst P c.one-item.is (subst (AreThreadsIn p) c.machines.ensures here))

pub returns : goal.returns
returns c =
    let P : PlainKept → Type 0 = λ one. AreThreadsIn c.args.program.now one.machines in
    λ _. subst (All P) (take_all c.loop-one.one-index c.args.kept.now (omega arith)) c.loop-one.invariant
