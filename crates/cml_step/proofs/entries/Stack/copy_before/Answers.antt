use Rattle.std.proofs.Common.{◌≡◌, ◌++◌, ◌∷◌, [], List, Option, ap, sym, ◌∙◌}
use Rattle.cml_step.specs.declared.call.Call.{Call}
use Rattle.cml_step.specs.declared.entry.Entry.{Entry}
use Rattle.cml_step.specs.declared.entry.Entry.TheVariants as entry
use Rattle.cml_step.specs.Machines.{PlainHeld, plain_held}
use Rattle.cml_step.specs.Shared.{topped, called}
use Rattle.cml_step.specs.Undone.{stood, stack_before, wrapped}
use Rattle.cml_step.proofs.UndoLemmas.{same_before}
use Rattle.cml_step.proofs.entries.Stack.copy_before.Goals as goal

pub returns-in-Some-clause-ok : goal.returns-in-Some-clause-ok
returns-in-Some-clause-ok c =
    let hs = c.in_ok-frames.frames in
    let j = c.args.journal.now in
    let k : Call = c.in-Some.own in
    let one : plain_held (entry.Call k) ∷ [] ≡ plain_held (entry.Call c.args.call.now) ∷ [] = sym (ap (λ (o : Option Call). called [] o) c.in-Some.is) ∙ c.in_ok-renew_place.ensures [] in
    let same : plain_held (entry.Call k) ≡ plain_held (entry.Call c.args.call.now) = cc in
    ap (λ (o : Option Entry). stood hs c.put_back.new.call o) c.put_back.ensures.over
    ∙ ap (λ (h : PlainHeld). topped (hs ++ h ∷ []) (wrapped j.over)) (c.put_back.ensures.call ∙ same_before j c.args.call.now k same)
    ∙ ap (λ (ks : List PlainHeld). stack_before ks j c.args.call.now) c.in_ok-frames.ensures
